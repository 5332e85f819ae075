-- `text::encode` meets its contract: the run is filled with the text of the words passed (`Writing`).
use Rattle.text.proofs.Signs.{Writing}
use Rattle.text.proofs.encode.Given as goal

abbrev pub invariant-loop-w : goal.invariant-loop-w
invariant-loop-w l = Writing l.words l.initial.out l.out l.at l.w-index
