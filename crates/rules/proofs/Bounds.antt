-- What the longest wait bounds: every wait of a state lies within X of the second stamp's, and W is enough for both; where there are
-- pairs, X_pairs and W_pairs.
use Prim.Native.Nat.{ℕ, ◌+◌, ◌-◌, ◌≤◌, ◌<◌, min}
use native.Mathlib.Nat.{le-div_iff_mul-le, div-mul-le_self, le_trans, mul-le-mul_right, mul-le-mul, le-max_left, le-max_right}
use native.Mathlib.Omega.{arith}
use mathlib.Core.Bool.{true, true≢false}
use mathlib.Core.List.{List, [], ◌∷◌}
use mathlib.Core.Path.{◌≡◌, refl, sym, ◌∙◌}
use Rattle.rules.specs.Numbers.{in_range, up, A, B, FJ, FL, D, X, W}
use Rattle.rules.specs.Pairs.{Pair, Lent, pair_of, is_pair, in_some_pair, lent_good, GN, P, alone, X_pairs, W_pairs, if_any, longest}
use Rattle.rules.specs.declared.Key.{Key}
use Rattle.rules.specs.declared.Settings.{Settings}
use Rattle.choice.proofs.Choices.{both_ways}
use Rattle.rules.proofs.Tests.{InRange, range_bounds, Good, good_bounds}

up_positive : (n d : ℕ) → 0 < d → 0 < n → 1 ≤ up n d
unfolding up
up_positive n d pos h = (le-div_iff_mul-le pos).1 (omega arith)

up_mono : (n k d : ℕ) → 0 < d → n ≤ k → up n d ≤ up k d
unfolding up
up_mono n k d pos h =
    (le-div_iff_mul-le pos).1 (le_trans (div-mul-le_self (n + (d - 1)) d) (omega arith))

pub FJ_mono : (s : Settings) → InRange s → (x y : ℕ) → x ≤ y → FJ s x ≤ FJ s y
unfolding FJ
FJ_mono s r x y h = up_mono _ _ _ (omega arith) (mul-le-mul_right s.j h)

pub FL_mono : (s : Settings) → InRange s → (x y : ℕ) → x ≤ y → FL s x ≤ FL s y
unfolding FL
FL_mono s r x y h = up_mono _ _ _ (omega arith) (mul-le-mul_right s.l h)

pub A_positive : (s : Settings) → InRange s → 1 ≤ A s
unfolding A
A_positive s r =
    up_positive _ _ (omega arith) (mul-le-mul {n₁ = 1} {m₁ = 1} (omega arith) (omega arith))

pub GN_mono : (g : Lent) → Good g → (x y : ℕ) → x ≤ y → GN g.n x ≤ GN g.n y
unfolding GN
GN_mono g r x y h = up_mono _ _ _ (omega arith) (mul-le-mul_right (100 - g.n) h)

-- Four numbers: most waits end within x, and the two that start at a second stamp within w of the first. Of two letters the second
-- waits t for the first one's release, and p more from there.
pub record Limits : Type 0 where
  pub x : ℕ
  pub w : ℕ
  pub t : ℕ
  pub p : ℕ

-- The waits against these numbers, of which nothing else is used. Where there is a pair, w is enough for it too.
pub record Bounds (g : Lent) (s : Settings) (q : Limits) : Type 0 where
  pub positive : 0 < q.x
  pub wait_S2 : (M : Key) → alone g s M ≤ q.x
  pub wait_S5 : (a : ℕ) → FL s (min a (B s)) ≤ q.x
  pub wait_S4 : (a : ℕ) → a ≤ q.x → q.x + FJ s a ≤ q.w
  pub wait_S6 : q.x + q.x ≤ q.w
  pub t_positive : 0 < q.t
  pub wait_S7 : g.t_s ≤ q.t
  pub wait_S8 : (a : ℕ) → a ≤ q.t → GN g.n a ≤ q.p
  pub with_pair : (M K : Key) → is_pair g.pairs M K ≡ true → q.x + (q.t + q.p) ≤ q.w

-- t is T_s and p is P; x and w are still open
abbrev limits : Lent → ℕ → ℕ → Limits
limits g x w = record { x = x; w = w; t = g.t_s; p = P g }

bounded : (g : Lent) (s : Settings) (x w : ℕ) → lent_good g ≡ true → in_range s ≡ true
    → ((M : Key) → alone g s M ≤ x) → A s ≤ x → D s ≤ x → x + x ≤ w → x + FJ s x ≤ w
    → ((M K : Key) → is_pair g.pairs M K ≡ true → x + (g.t_s + P g) ≤ w)
    → Bounds g s (limits g x w)
unfolding D P
bounded g s x w good h lone a d twice j two =
    let r = range_bounds s h in
    let l = good_bounds g good in
    record {
      positive = le_trans (A_positive s r) a;
      wait_S2 = lone;
      wait_S5 = λ b. le_trans (FL_mono s r (min b (B s)) (B s) (omega arith)) d;
      wait_S4 = λ b le. let m = FJ_mono s r b x le in omega arith;
      wait_S6 = twice;
      t_positive = omega arith;
      wait_S7 = omega arith;
      wait_S8 = λ b le. GN_mono g l b g.t_s le;
      with_pair = two;
    }

bounds_by : (g : Lent) (s : Settings) (l : List Pair) → g.pairs ≡ l → lent_good g ≡ true → in_range s ≡ true
    → Bounds g s (limits g (if_any l (X s) (X_pairs g s)) (if_any l (W s) (W_pairs g s)))
unfolding X W X_pairs W_pairs alone in_some_pair pair_of
bounds_by g s [] none good h =
    bounded g s (X s) (W s) good h (λ M. rw none (le-max_left (A s) (D s))) (le-max_left (A s) (D s)) (le-max_right (A s) (D s))
    (omega arith) (omega arith) (λ M K pair. absurd (true≢false (sym pair ∙ rw none)))
bounds_by g s (p ∷ l) some good h =
    bounded g s (X_pairs g s) (W_pairs g s) good h
    (λ M. both_ways (λ (n : ℕ). n ≤ X_pairs g s) (in_some_pair g.pairs M) (omega arith) (omega arith))
    (omega arith) (omega arith) (omega arith) (omega arith) (λ M K pair. omega arith)

-- the limits of demand 3: w is the longest wait
abbrev pub waits : Lent → Settings → Limits
waits g s = limits g (if_any g.pairs (X s) (X_pairs g s)) (longest g s)

pub bounds : (g : Lent) → lent_good g ≡ true → (s : Settings) → in_range s ≡ true → Bounds g s (waits g s)
unfolding longest
bounds g good s h = bounds_by g s g.pairs refl good h
