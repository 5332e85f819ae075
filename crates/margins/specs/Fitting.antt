-- In a machine that is well formed the code's stamps are the turning stamps of `reasons`; and what is compared hangs on no list. The
-- proofs are in proofs/Fitting.antt.
use Rattle.std.specs.Prelude.{ℕ, true, List, ◌≡◌}
use Rattle.rules.specs.Pairs.{lent_good}
use Rattle.rules.specs.States.{deadline, well_formed}
use Rattle.rules.specs.declared.Stamp.{Stamp}
use Rattle.rules.specs.declared.Settings.{Settings}
use Rattle.rules.specs.declared.Resting.{Resting}
use Rattle.rules.specs.declared.Machine.{Machine}
use Rattle.rules.specs.declared.Input.{Input}
use Rattle.pairs.specs.Lent.{lent}
use Rattle.pairs.specs.declared.Times.{Times}
use Rattle.reasons.specs.Turning.{turnings}
use Rattle.reasons.specs.Reason.{compared}
use Rattle.margins.specs.Views.{of_times}
use Rattle.margins.specs.Capped.{turns_at_most}

-- with the deadline of the machine's state
abbrev pub TurnsFit : Type 0
TurnsFit =
    (l : List ℕ) (t : Times) → lent_good (lent l t) ≡ true → (m : Machine) → well_formed (lent l t) m ≡ true → (i : Input)
    → turns_at_most (lent l t) m.settings (deadline (lent l t) m.settings m.resting) m.resting i
    ≡ turnings (lent l t) m.settings m.resting i

abbrev pub ComparedByTimes : Type 0
ComparedByTimes =
    (l : List ℕ) (t : Times) (s : Settings) (at : Stamp) (x : Resting) (i : Input)
    → compared (of_times t) s at x i ≡ compared (lent l t) s at x i
