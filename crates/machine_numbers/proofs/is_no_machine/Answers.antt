-- `machine_numbers::is_no_machine` meets its contract.
use Rattle.std.proofs.Common.{◌≡◌, Bool, ◌&&◌, eqb, arith, ◌∙◌}
use Rattle.std.proofs.lemmas.Bool.Decides.{nat_tests}
use Rattle.machine_numbers.specs.Fields.{no_settings, unopened, no_character, no_second, no_thumb, no_release, is_no_machine}
use Rattle.machine_numbers.proofs.is_no_machine.Goals as goal

-- the tests of the fields as they stand in the type, and by what they say
in_turn : (last m k o r held second t j l solo state key thumb : Bool)
    → (last && (m && (k && (o && (r && (held && (second && (t && (j && (l && (solo && (state && (key && thumb)))))))))))))
    ≡ (state && last && held && (t && j && l && solo) && (key && m) && (second && k) && (thumb && o) && r)
in_turn last m k o r held second t j l solo state key thumb = grind (arith, nat_tests)

pub returns : goal.returns
unfolding no_settings unopened no_character no_second no_thumb no_release is_no_machine
returns c =
    let f = c.args.numbers in
    (rw c.no_machine.ensures at c.eq.ensures)
    ∙ in_turn (eqb f.last.0 0) (eqb f.m.0 0) (eqb f.k.0 0) (eqb f.o.0 0) (eqb f.r.0 0) (eqb f.held 0) (eqb f.second 0)
    (eqb f.t 0) (eqb f.j 0) (eqb f.l 0) (eqb f.solo 0) (eqb f.state 0) (eqb f.key 0) (eqb f.thumb 0)
