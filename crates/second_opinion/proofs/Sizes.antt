-- Words as the bytes of a run.
use Rattle.std.proofs.Common.{ℕ, List, [], append-nil, add-zero, sym, arith}
use Rattle.filled.specs.Filled.{Stored}
use Rattle.keylog.specs.Runs.{encoded}
use Rattle.second_opinion.specs.Telling.{packed}
use Rattle.std.proofs.lemmas.List.{take-append-drop}

-- nothing written leaves the run
pub none_stored : (at : ℕ) (run : List ℕ) → Stored at (packed []) run at run
unfolding encoded
none_stored at run = record { behind = omega arith; stored = sym (rw (append-nil, add-zero) (take-append-drop at run)) }
