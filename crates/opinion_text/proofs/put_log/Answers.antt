-- `opinion_text::put_log` meets its contract.
use Prim.Native.Nat.{◌*◌}
use native.Mathlib.Omega.{arith}
use mathlib.Core.Path.{sym}
use lib.Seq.{length-take-le}
use Rattle.opinion_text.proofs.Verdicts.{words_fit, is_shown}
use Rattle.opinion_text.proofs.put_log.Goals as goal

pub overflow_mul-n : goal.overflow_mul-n
overflow_mul-n c =
    omega (
      arith,
      words_fit c.args.log.now c.requires.log_len_bound c.buffer-packed.result c.buffer-packed.ensures c.opine-answer.result
          c.opine-answer.new.out c.opine-answer.ensures,
    )

pub slice_bounds-packed-end : goal.slice_bounds-packed-end
slice_bounds-packed-end c =
    omega (
      arith,
      words_fit c.args.log.now c.requires.log_len_bound c.buffer-packed.result c.buffer-packed.ensures c.opine-answer.result
          c.opine-answer.new.out c.opine-answer.ensures,
      c.opine-answer.auto.out,
      c.buffer-packed.ensures,
    )

pub slice_bounds-put_lines-end : goal.slice_bounds-put_lines-end
slice_bounds-put_lines-end c =
    sym (length-take-le _ _ (omega (
      arith,
      words_fit c.args.log.now c.requires.log_len_bound c.buffer-packed.result c.buffer-packed.ensures c.opine-answer.result
          c.opine-answer.new.out c.opine-answer.ensures,
      c.opine-answer.auto.out,
      c.buffer-packed.ensures,
    )))

pub put_lines-bytes-requires : goal.put_lines-bytes-requires
put_lines-bytes-requires c =
    let fits = words_fit c.args.log.now c.requires.log_len_bound c.buffer-packed.result c.buffer-packed.ensures c.opine-answer.result
    c.opine-answer.new.out c.opine-answer.ensures in
    let long = length-take-le (2 * c.opine-answer.result.words) c.opine-answer.new.out
    (omega (arith, fits, c.opine-answer.auto.out, c.buffer-packed.ensures)) in
    omega (arith, long, fits, c.requires.text_room_in_bounds)

pub returns : goal.returns
returns c = record {
  shows = is_shown c.args.log.now c.requires.log_len_bound c.buffer-packed.result c.buffer-packed.ensures c.opine-answer.result
      c.opine-answer.new.out c.opine-answer.ensures
      c.args.out.now c.requires.text_room_in_bounds _ _ c.put_lines-bytes.ensures.stored;
  within = c.put_lines-bytes.ensures.upper_bound;
}
