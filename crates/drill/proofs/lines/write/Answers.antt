-- `drill::lines::write` meets its contract.
use Rattle.std.proofs.Common.{◌≡◌, ◌≤◌, length, Err, arith, length-take}
use Rattle.std.proofs.lemmas.Grind.{common_steps}
use Rattle.decode.specs.Decoding.{decoded, answer_of}
use Rattle.decode.specs.declared.DecodeError.TheVariants.{NoRoom}
use Rattle.drill.specs.Texts.{line_size, Drills}
use Rattle.drill.proofs.Answering.{has_room}
use Rattle.drill.proofs.Room.{drilled_within, never_refused_8}
use Rattle.drill.proofs.lines.write.Goals as goal

pub unreachable-requires : goal.unreachable-requires
unreachable-requires c =
    let few : length c.line.result.now ≤ length c.word_buffer-words.result =
    rw c.line.ensures (omega (arith, length-take (line_size c.args.text.now) c.args.text.now)) in
    has_room c.line.result.now c.word_buffer-words.result few (cc)

pub returns-in-Ok : goal.returns-in-Ok
returns-in-Ok c =
    let drills : Drills c.args.settings c.args.text.now c.args.log.now c.write_line.result c.write_line.new.log =
    grind (arith, common_steps) in
    record {
      drills = drills;
      within = drilled_within _ _ _ _ _ drills;
      not_8 = never_refused_8 _ _ _ _ _ drills c.requires.text_len_bound c.requires.log_room_in_bounds;
    }
