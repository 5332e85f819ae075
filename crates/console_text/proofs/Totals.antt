-- The lines of the keyboards have no more words together than the log.
use Prim.Native.Nat.{ℕ, zero, suc, ◌+◌, ◌≤◌}
use native.Mathlib.Omega.{arith}
use borrow.Author.Tests.{eqb-true, ne_eqb}
use mathlib.Core.Bool.{true, false}
use mathlib.Core.Path.{◌≡◌, refl}
use mathlib.Core.List.{List, [], ◌∷◌}
use lib.Dec.{eqb}
use lib.ListN.{length}
use Rattle.choice.proofs.Choices.{either}
use Rattle.console_log.specs.ConsoleLog.{Word, line_in}

-- the words of the keyboards below n
abbrev pub total : ℕ → List Word → ℕ
total zero ws = 0
total (suc k) ws = total k ws + length (line_in k ws)

none_past : (n : ℕ) (w : Word) (ws : List Word) → n ≤ w.board → total n (w ∷ ws) ≡ total n ws
none_past zero w ws h = refl
none_past (suc n) w ws h = rw (ne_eqb w.board n (λ e. absurd (omega arith)), none_past n w ws (omega arith))

at_most_one : (n : ℕ) (w : Word) (ws : List Word) → total n (w ∷ ws) ≤ 1 + total n ws
at_most_one zero w ws = omega arith
at_most_one (suc n) w ws = either (eqb w.board n) own (other (at_most_one n w ws))
  where
    own : eqb w.board n ≡ true → total (suc n) (w ∷ ws) ≤ 1 + total (suc n) ws
    own e =
        let q : w.board ≡ n = eqb-true w.board n e in
        rw (e, none_past n w ws (omega arith)) (omega arith)

    other : total n (w ∷ ws) ≤ 1 + total n ws → eqb w.board n ≡ false → total (suc n) (w ∷ ws) ≤ 1 + total (suc n) ws
    other h e = rw e (omega arith)

total_nothing : (n : ℕ) → total n [] ≡ 0
total_nothing zero = refl
total_nothing (suc n) = rw (total_nothing n)

pub total_few : (n : ℕ) (ws : List Word) → total n ws ≤ length ws
total_few n [] = rw (total_nothing n) (omega arith)
total_few n (w ∷ ws) = omega (arith, at_most_one n w ws, total_few n ws)
