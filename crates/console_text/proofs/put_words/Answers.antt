-- `console_text::put_words` meets its contract.
use native.Mathlib.Omega.{arith}
use Rattle.console_text.proofs.Picking.{begun, next_fits, taken, all_taken}
use Rattle.console_text.proofs.put_words.Goals as goal

pub loop-i-init : goal.loop-i-init
loop-i-init c = begun _ _ _ _ _

pub bounds-boards-i : goal.bounds-boards-i
bounds-boards-i c = omega (arith, c.requires.boards_len, c.loop-i-test.true)

pub put_word-next-requires : goal.put_word-next-requires
put_word-next-requires c =
    next_fits _ _ _ c.requires.boards_len _ _ c.requires.words_in_bounds _ _ _ c.loop-i.invariant c.loop-i-test.true

pub loop-i-preserved : goal.loop-i-preserved
loop-i-preserved c =
    taken _ _ _ c.requires.boards_len _ _ c.requires.words_in_bounds _ _ _ c.loop-i.invariant c.loop-i-test.true _ _
    c.put_word-next.ensures

pub returns : goal.returns
returns c =
    all_taken _ _ _ c.requires.boards_len _ _ c.requires.words_in_bounds _ _ _ c.loop-i.invariant c.loop-i-test.false
