-- So many milliseconds sooner or later: what the turning stamps say, counted from the event.
use Prim.Native.Nat.{ℕ, suc, ◌-◌, ◌≤◌, ◌<◌}
use native.Mathlib.Omega.{arith}
use mathlib.Core.Bool.{Bool, true, false}
use mathlib.Core.List.{List, [], ◌∷◌}
use mathlib.Core.Logic.{◌≢◌}
use mathlib.Core.Option.{Option, none, some, none-ne-some, some-injective}
use mathlib.Core.Path.{◌≡◌, refl, sym, ap, subst, ◌∙◌}
use lib.Dec.{leb}
use borrow.Author.Tests.{leb-true, leb-false, le-leb, lt-leb}
use Rattle.choice.specs.Choice.{if◌then◌orelse◌}
use Rattle.rules.specs.States.{at, lag, later, at_or_before}
use Rattle.rules.specs.Pairs.{Lent}
use Rattle.rules.specs.OneEvent.{Done}
use Rattle.rules.specs.declared.Stamp.{Stamp}
use Rattle.rules.specs.declared.Settings.{Settings}
use Rattle.rules.specs.declared.Resting.{Resting}
use Rattle.rules.specs.declared.Input.{Input}
use Rattle.choice.proofs.Choices.{by_test}
use Rattle.reasons.specs.Turning.{decided, since, turnings, passed, next_turn, or_else, last_turn}
use Rattle.reasons.specs.Reason.{sooner_at, Otherwise, otherwise, if_later, if_sooner}
use Rattle.reasons.specs.ReasonFacts.{sooner, Ordered, Turns, TrueMarginsStatement}
use Rattle.reasons.proofs.Turnings.{true_turnings}

-- How many of ordered stamps are passed.

tail : (v : Stamp) (vs : List Stamp) → Ordered (v ∷ vs) → Ordered vs
tail v [] o = tt
tail v (w ∷ vs) o = o.1

passes : (t v : Stamp) (vs : List Stamp) → v.0 ≤ t.0 → passed t (v ∷ vs) ≡ suc (passed t vs)
passes t v vs h = rw (le-leb v.0 t.0 h) (omega arith)

none_passed : (t v : Stamp) (vs : List Stamp) → Ordered (v ∷ vs) → t.0 < v.0 → passed t (v ∷ vs) ≡ 0
none_passed t v [] o h = rw (lt-leb v.0 t.0 h)
none_passed t v (w ∷ vs) o h =
    let rest : passed t (w ∷ vs) ≡ 0 = none_passed t w vs o.1 (omega (arith, o.0)) in
    rw (lt-leb v.0 t.0 h, rest)

none_behind : (v : Stamp) (vs : List Stamp) → Ordered (v ∷ vs) → passed v vs ≡ 0
none_behind v [] o = refl
none_behind v (w ∷ vs) o = none_passed v w vs o.1 o.0

-- the next one
record Next (now : Stamp) (vs : List Stamp) (v : Stamp) : Type 0 where
  behind : now.0 < v.0
  still : (t : Stamp) → now.0 ≤ t.0 → t.0 < v.0 → passed t vs ≡ passed now vs
  one_more : passed v vs ≡ suc (passed now vs)

next_is : (now : Stamp) (vs : List Stamp) → Ordered vs → (v : Stamp) → next_turn now vs ≡ some v → Next now vs v
next_is now [] o v e = absurd (none-ne-some _ e)
next_is now (w ∷ vs) o v e = go (next_is now vs (tail w vs o) v) (leb w.0 now.0) refl e
  where
    go : (next_turn now vs ≡ some v → Next now vs v) → (b : Bool) → leb w.0 now.0 ≡ b
        → (if b then next_turn now vs orelse some w) ≡ some v → Next now (w ∷ vs) v
    go then_is true h e =
        let n = then_is e in
        let by_now : w.0 ≤ now.0 = leb-true w.0 now.0 h in
        record {
          behind = n.behind;
          still = λ t f b. passes t w vs (omega arith) ∙ ap suc (n.still t f b) ∙ sym (passes now w vs by_now);
          one_more = passes v w vs (omega (arith, n.behind)) ∙ ap suc (n.one_more ∙ sym (passes now w vs by_now));
        }
    go then_is false h e =
        let before : now.0 < w.0 = leb-false w.0 now.0 h in
        subst (Next now (w ∷ vs)) (some-injective _ _ e)
        (record {
          behind = before;
          still = λ t f b. none_passed t w vs o b ∙ sym (none_passed now w vs o before);
          one_more = passes w w vs (omega arith) ∙ ap suc (none_behind w vs o ∙ sym (none_passed now w vs o before));
        })

no_next : (now : Stamp) (vs : List Stamp) → next_turn now vs ≡ none → (t : Stamp) → now.0 ≤ t.0 → passed t vs ≡ passed now vs
no_next now [] e t f = refl
no_next now (w ∷ vs) e t f = go (λ h. no_next now vs h t f) (leb w.0 now.0) refl e
  where
    go : (next_turn now vs ≡ none → passed t vs ≡ passed now vs) → (b : Bool) → leb w.0 now.0 ≡ b
        → (if b then next_turn now vs orelse some w) ≡ none → passed t (w ∷ vs) ≡ passed now (w ∷ vs)
    go rest true h e =
        let by_now : w.0 ≤ now.0 = leb-true w.0 now.0 h in
        passes t w vs (omega arith) ∙ ap suc (rest e) ∙ sym (passes now w vs by_now)
    go rest false h e = absurd (none-ne-some _ (sym e))

-- the last one
record Last (now : Stamp) (vs : List Stamp) (v : Stamp) : Type 0 where
  by_now : v.0 ≤ now.0
  above : (w : Stamp) → Ordered (w ∷ vs) → w.0 < v.0
  still : (t : Stamp) → v.0 ≤ t.0 → t.0 ≤ now.0 → passed t vs ≡ passed now vs
  one_less : (t : Stamp) → suc t.0 ≡ v.0 → passed now vs ≡ suc (passed t vs)

no_last : (now : Stamp) (vs : List Stamp) → Ordered vs → last_turn now vs ≡ none → (t : Stamp) → t.0 ≤ now.0 → passed t vs ≡ passed now vs
no_last now [] o e t f = refl
no_last now (w ∷ vs) o e t f = go (leb w.0 now.0) refl e
  where
    not_none : (d : Option Stamp) → or_else w d ≡ none → ⊥
    not_none none e = none-ne-some _ (sym e)
    not_none (some u) e = none-ne-some _ (sym e)

    go : (b : Bool) → leb w.0 now.0 ≡ b → (if b then or_else w (last_turn now vs) orelse none) ≡ none
        → passed t (w ∷ vs) ≡ passed now (w ∷ vs)
    go true h e = absurd (not_none (last_turn now vs) e)
    go false h e =
        let before : now.0 < w.0 = leb-false w.0 now.0 h in
        none_passed t w vs o (omega arith) ∙ sym (none_passed now w vs o before)

last_is : (now : Stamp) (vs : List Stamp) → Ordered vs → (v : Stamp) → last_turn now vs ≡ some v → Last now vs v
last_is now [] o v e = absurd (none-ne-some _ e)
last_is now (w ∷ vs) o v e = go (last_is now vs (tail w vs o) v) (leb w.0 now.0) refl e
  where
    on_last : (last_turn now vs ≡ some v → Last now vs v) → w.0 ≤ now.0 → (d : Option Stamp)
        → last_turn now vs ≡ d → or_else w d ≡ some v → Last now (w ∷ vs) v
    on_last rest by_now none h e =
        subst (Last now (w ∷ vs)) (some-injective _ _ e)
        (record {
          by_now = by_now;
          above = λ u r. r.0;
          still = λ t b f. passes t w vs b ∙ ap suc (no_last now vs (tail w vs o) h t f) ∙ sym (passes now w vs by_now);
          one_less = λ t b.
              passes now w vs by_now
              ∙ ap suc (sym (no_last now vs (tail w vs o) h w by_now) ∙ none_behind w vs o ∙ sym (none_passed t w vs o (omega arith)));
        })
    on_last rest by_now (some u) h e =
        let l = rest (h ∙ e) in
        let over : w.0 < v.0 = l.above w o in
        record {
          by_now = l.by_now;
          above = λ y r. omega (arith, r.0, over);
          still = λ t b f. passes t w vs (omega arith) ∙ ap suc (l.still t b f) ∙ sym (passes now w vs by_now);
          one_less = λ t b. passes now w vs by_now ∙ ap suc (l.one_less t b ∙ sym (passes t w vs (omega arith)));
        }

    go : (last_turn now vs ≡ some v → Last now vs v) → (b : Bool) → leb w.0 now.0 ≡ b
        → (if b then or_else w (last_turn now vs) orelse none) ≡ some v → Last now (w ∷ vs) v
    go rest true h e = on_last rest (leb-true w.0 now.0 h) (last_turn now vs) refl e
    go rest false h e = absurd (none-ne-some _ e)

module _ (g : Lent) (s : Settings) (now : Stamp) (x : Resting) (i : Input) (from : (since x).0 ≤ now.0)
    (r : Turns (since x) (turnings g s x i) (decided g s x i)) where
  abbrev vs : List Stamp
  vs = turnings g s x i

  abbrev d : Stamp → Done
  d = decided g s x i

  -- what a next turning stamp says
  record Later (o : Option Otherwise) : Type 0 where
    other : (w : Otherwise) → o ≡ some w → (d (later now w.ms) ≡ w.decision) × (w.decision ≢ d now)
    same : (w : Otherwise) → o ≡ some w → (k : ℕ) → k < w.ms → d (later now k) ≡ d now
    never : o ≡ none → (k : ℕ) → d (later now k) ≡ d now

  if_next : (o : Option Stamp) → next_turn now vs ≡ o → Later (if_later g s x i now o)
  if_next none e =
      record {
        other = λ w f. absurd (none-ne-some _ f);
        same = λ w f. absurd (none-ne-some _ f);
        never = λ _ k. r.same_side (later now k) now (omega arith) from (no_next now vs e (later now k) (omega arith));
      }
  if_next (some v) e =
      let n = next_is now vs r.in_order v e in
      let there : later now (lag now v) ≡ v = ap at (omega (arith, n.behind)) in
      let turned : d v ≢ d now = λ f. r.other_side now v from (omega (arith, n.behind)) n.one_more (sym f) in
      record {
        other = λ w f. subst (λ (y : Otherwise). (d (later now y.ms) ≡ y.decision) × (y.decision ≢ d now))
            (some-injective _ _ f) (ap d there, turned);
        same = λ w f. subst (λ (y : Otherwise). (k : ℕ) → k < y.ms → d (later now k) ≡ d now) (some-injective _ _ f)
            (λ k b. r.same_side (later now k) now (omega arith) from (n.still (later now k) (omega arith) (omega arith)));
        never = λ f. absurd (none-ne-some _ (sym f));
      }

  -- what a last turning stamp says
  record Sooner (o : Option Otherwise) : Type 0 where
    other : (w : Otherwise) → o ≡ some w → (d (sooner now w.ms) ≡ w.decision) × (w.decision ≢ d now)
    same : (w : Otherwise) → o ≡ some w → (k : ℕ) → k < w.ms → d (sooner now k) ≡ d now
    never : o ≡ none → (k : ℕ) → (since x).0 ≤ (sooner now k).0 → d (sooner now k) ≡ d now

  if_none : ((k : ℕ) → (since x).0 ≤ (sooner now k).0 → d (sooner now k) ≡ d now) → Sooner none
  if_none h =
      record { other = λ w f. absurd (none-ne-some _ f); same = λ w f. absurd (none-ne-some _ f); never = λ _. h }

  if_last : (o : Option Stamp) → last_turn now vs ≡ o → Sooner (if_sooner g s x i now (sooner_at (since x) o))
  if_last none e = if_none (λ k f. r.same_side (sooner now k) now f from (no_last now vs r.in_order e (sooner now k) (omega arith)))
  if_last (some v) e = by_test (λ (o : Option Stamp). Sooner (if_sooner g s x i now o)) (at_or_before v (since x)) begun within
    where
      l : Last now vs v
      l = last_is now vs r.in_order v e

      begun : at_or_before v (since x) ≡ true → Sooner none
      begun h =
          let b : v.0 ≤ (since x).0 = leb-true v.0 (since x).0 h in
          if_none (λ k f. r.same_side (sooner now k) now f from (l.still (sooner now k) (omega arith) (omega arith)))

      within : at_or_before v (since x) ≡ false
          → Sooner (some (otherwise g s x i (lag (at (v.0 - 1)) now) (at (v.0 - 1))))
      within h =
          let b : (since x).0 < v.0 = leb-false v.0 (since x).0 h in
          let there : sooner now (lag (at (v.0 - 1)) now) ≡ at (v.0 - 1) = ap at (omega (arith, l.by_now)) in
          let turned : d (at (v.0 - 1)) ≢ d now =
          r.other_side (at (v.0 - 1)) now (omega arith) from (l.one_less (at (v.0 - 1)) (omega arith)) in
          record {
            other = λ w f. subst (λ (y : Otherwise). (d (sooner now y.ms) ≡ y.decision) × (y.decision ≢ d now))
                (some-injective _ _ f) (ap d there, turned);
            same = λ w f. subst (λ (y : Otherwise). (k : ℕ) → k < y.ms → d (sooner now k) ≡ d now) (some-injective _ _ f)
                (λ k c. r.same_side (sooner now k) now (omega (arith, l.by_now)) from
                (l.still (sooner now k) (omega (arith, l.by_now)) (omega arith)));
            never = λ f. absurd (none-ne-some _ (sym f));
          }

pub true_margins : TrueMarginsStatement
true_margins g good s in-r now x i from =
    let r = true_turnings g good s in-r x i in
    let n = if_next g s now x i from r (next_turn now (turnings g s x i)) refl in
    let l = if_last g s now x i from r (last_turn now (turnings g s x i)) refl in
    record {
      later_other = n.other;
      later_same = n.same;
      never_later = n.never;
      sooner_other = l.other;
      sooner_same = l.same;
      never_sooner = l.never;
    }
