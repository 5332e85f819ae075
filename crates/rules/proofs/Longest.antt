-- The longest wait: W where there are no pairs, never less, and made from five numbers.
use Prim.Native.Nat.{ℕ, ◌≤◌}
use native.Mathlib.Nat.{le_refl}
use native.Mathlib.Omega.{arith}
use mathlib.Core.List.{List, [], ◌∷◌}
use mathlib.Core.Logic.{◌≢◌}
use mathlib.Core.Path.{◌≡◌, refl}
use Rattle.rules.specs.Numbers.{A, B, FJ, FL, D, X, W}
use Rattle.rules.specs.Pairs.{Pair, Lent, if_any, P, X_pairs, W_pairs, longest}
use Rattle.rules.specs.PairFacts.{LongestWaitStatement}
use Rattle.rules.specs.declared.Settings.{Settings}
use Rattle.rules.proofs.Tests.{InRange, range_bounds}
use Rattle.rules.proofs.Bounds.{FJ_mono}

any_given : (l : List Pair) (a b : ℕ) → l ≢ [] → if_any l a b ≡ b
any_given [] a b some_left = absurd (some_left refl)
any_given (p ∷ l) a b some_left = refl

at_least : (l : List Pair) (a b : ℕ) → a ≤ b → a ≤ if_any l a b
at_least [] a b le = le_refl a
at_least (p ∷ l) a b le = le

X_no_shorter : (g : Lent) (s : Settings) → X s ≤ X_pairs g s
unfolding X X_pairs
X_no_shorter g s = omega arith

W_no_shorter : (g : Lent) (s : Settings) → InRange s → W s ≤ W_pairs g s
unfolding W W_pairs
W_no_shorter g s r =
    let x = X_no_shorter g s in
    let j = FJ_mono s r (X s) (X_pairs g s) x in
    omega arith

from_numbers : (g h : Lent) (s u : Settings) → h.t_s ≡ g.t_s → h.n ≡ g.n → u.t ≡ s.t → u.j ≡ s.j → u.l ≡ s.l
    → W_pairs h u ≡ W_pairs g s
unfolding W_pairs X_pairs D A B FJ FL P
from_numbers g h s u t_s n t j l = rw (t_s, n, t, j, l)

pub longest_wait : LongestWaitStatement
unfolding longest
longest_wait g s r =
    record {
      without_pairs = λ none_left. rw none_left;
      with_pairs = any_given g.pairs (W s) (W_pairs g s);
      no_shorter = at_least g.pairs (W s) (W_pairs g s) (W_no_shorter g s (range_bounds s r));
      from_numbers = λ h u. from_numbers g h s u;
    }
