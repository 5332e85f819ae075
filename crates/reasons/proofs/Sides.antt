-- A decision that is the same up to a stamp, and another one from there on, turns there: the ways in which decisions turn.
use Prim.Native.Nat.{ℕ, zero, suc, ◌+◌, ◌≤◌, ◌<◌}
use native.Mathlib.Omega.{arith}
use mathlib.Core.Bool.{Bool, true, false, true≢false}
use mathlib.Core.List.{List, [], ◌∷◌}
use mathlib.Core.Logic.{◌≢◌}
use mathlib.Core.Path.{◌≡◌, refl, sym, ap, ◌∙◌}
use lib.Dec.{leb, eqb}
use borrow.Author.Tests.{leb-true, leb-false, eq-eqb}
use Rattle.choice.specs.Choice.{if◌then◌orelse◌}
use Rattle.rules.specs.States.{at_or_before}
use Rattle.rules.specs.OneEvent.{Done}
use Rattle.rules.specs.declared.Stamp.{Stamp}
use Rattle.rules.specs.declared.Resting.{Resting}
use Rattle.rules.specs.declared.Resting.TheVariants.{S1, S2, S3, S4, S5, S6, S7, S8}
use Rattle.rules.specs.declared.Face.TheVariants.{Plain, With}
use Rattle.rules.specs.declared.Item.{Item}
use Rattle.rules.specs.declared.Item.TheVariants.{Character, Mark, Together}
use Rattle.reasons.specs.Turning.{passed}
use Rattle.reasons.specs.ReasonFacts.{Turns}

-- Decisions are told apart by which state they leave, or by their items.
abbrev pub number : Resting → ℕ
number S1 = 1
number (S2 M m) = 2
number (S3 O o) = 3
number (S4 M m O o) = 4
number (S5 O o M m) = 5
number (S6 O o M m r) = 6
number (S7 M m K k) = 7
number (S8 M m K k r) = 8

abbrev pub weight : List Item → ℕ
weight [] = 0
weight (Character k Plain ∷ l) = 1 + weight l
weight (Character k (With O) ∷ l) = 3 + weight l
weight (Mark O ∷ l) = 10 + weight l
weight (Together M K c ∷ l) = 20 + weight l

apart : (f : Done → ℕ) (p q : Done) → eqb (f p) (f q) ≡ false → p ≢ q
apart f p q h e = true≢false (sym (eq-eqb (f p) (f q) (ap f e)) ∙ h)

pub leave_another : (p q : Done) → eqb (number p.resting) (number q.resting) ≡ false → p ≢ q
leave_another = apart (λ (d : Done). number d.resting)

pub commit_another : (p q : Done) → eqb (weight p.items) (weight q.items) ≡ false → p ≢ q
commit_another = apart (λ (d : Done). weight d.items)

module _ (from : Stamp) (decides : Stamp → Done) where
  pub same_always : (p : Done) → ((t : Stamp) → from.0 ≤ t.0 → decides t ≡ p) → Turns from [] decides
  same_always p h = record { in_order = tt; same_side = λ t u i j _. h t i ∙ sym (h u j); other_side = λ t u i j e. absurd (omega arith) }

  -- p before v, q from there on
  pub turns_once : (v : Stamp) (p q : Done) → ((t : Stamp) → from.0 ≤ t.0 → t.0 < v.0 → decides t ≡ p)
      → ((t : Stamp) → from.0 ≤ t.0 → v.0 ≤ t.0 → decides t ≡ q) → p ≢ q → Turns from (v ∷ []) decides
  turns_once v p q before behind differ =
      record {
        in_order = tt;
        same_side = λ t u i j e. by_side t i ∙ same (at_or_before v t) (at_or_before v u) e ∙ sym (by_side u j);
        other_side = λ t u i j e f. other (at_or_before v t) (at_or_before v u) e (sym (by_side t i) ∙ f ∙ by_side u j);
      }
    where
      side : Bool → Done
      side b = if b then q orelse p

      by_side : (t : Stamp) → from.0 ≤ t.0 → decides t ≡ side (at_or_before v t)
      by_side t i = go (leb v.0 t.0) refl
        where
          go : (b : Bool) → leb v.0 t.0 ≡ b → decides t ≡ side b
          go true h = behind t i (leb-true _ _ h)
          go false h = before t i (leb-false _ _ h)

      same : (b c : Bool) → (if b then 1 orelse 0) + 0 ≡ (if c then 1 orelse 0) + 0 → side b ≡ side c
      same true true e = refl
      same true false e = absurd (omega arith)
      same false true e = absurd (omega arith)
      same false false e = refl

      other : (b c : Bool) → (if c then 1 orelse 0) + 0 ≡ suc ((if b then 1 orelse 0) + 0) → side b ≡ side c → ⊥
      other true true e f = absurd (omega arith)
      other true false e f = absurd (omega arith)
      other false true e f = differ f
      other false false e f = absurd (omega arith)

  -- p before v, q from v on up to d, and r from d on
  pub turns_twice : (v d : Stamp) (p q r : Done) → v.0 < d.0 → ((t : Stamp) → from.0 ≤ t.0 → t.0 < v.0 → decides t ≡ p)
      → ((t : Stamp) → from.0 ≤ t.0 → v.0 ≤ t.0 → t.0 < d.0 → decides t ≡ q)
      → ((t : Stamp) → from.0 ≤ t.0 → d.0 ≤ t.0 → decides t ≡ r) → p ≢ q → q ≢ r → Turns from (v ∷ d ∷ []) decides
  turns_twice v d p q r sooner before between behind differ differ-then =
      record {
        in_order = (sooner, tt);
        same_side = λ t u i j e. by_side t i ∙ ap side e ∙ sym (by_side u j);
        other_side = λ t u i j e f.
            other (passed t (v ∷ d ∷ [])) (omega (arith, at_most_two u, e)) (sym (by_side t i) ∙ f ∙ by_side u j ∙ ap side e);
      }
    where
      side : ℕ → Done
      side zero = p
      side (suc zero) = q
      side (suc (suc n)) = r

      by_side : (t : Stamp) → from.0 ≤ t.0 → decides t ≡ side (passed t (v ∷ d ∷ []))
      by_side t i = go (leb v.0 t.0) (leb d.0 t.0) refl refl
        where
          go : (b c : Bool) → leb v.0 t.0 ≡ b → leb d.0 t.0 ≡ c
              → decides t ≡ side ((if b then 1 orelse 0) + ((if c then 1 orelse 0) + 0))
          go true true h k = behind t i (leb-true _ _ k)
          go true false h k = between t i (leb-true _ _ h) (leb-false _ _ k)
          go false true h k = absurd (omega (arith, leb-true d.0 t.0 k, leb-false v.0 t.0 h))
          go false false h k = before t i (leb-false _ _ h)

      at_most_two : (t : Stamp) → passed t (v ∷ d ∷ []) ≤ 2
      at_most_two t = go (leb v.0 t.0) (leb d.0 t.0)
        where
          go : (b c : Bool) → (if b then 1 orelse 0) + ((if c then 1 orelse 0) + 0) ≤ 2
          go true true = omega arith
          go true false = omega arith
          go false true = omega arith
          go false false = omega arith

      other : (n : ℕ) → suc n ≤ 2 → side n ≡ side (suc n) → ⊥
      other zero h f = differ f
      other (suc zero) h f = differ-then f
      other (suc (suc n)) h f = absurd (omega arith)
