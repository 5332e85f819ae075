-- Every refusal stands in its place: by the outcome of each check, in their order.
use Prim.Native.Nat.{ℕ, ◌≤◌}
use mathlib.Core.Bool.{Bool, true, false, true≢false, not, ◌&&◌, and-eq-true_iff}
use mathlib.Core.Logic.{◌↔◌}
use mathlib.Core.Option.{Option, none, some}
use mathlib.Core.Path.{◌≡◌, refl, sym, ◌∙◌, ap}
use native.Mathlib.Omega.{arith}
use borrow.Author.Tests.{ltb-true, ltb-false, eqb-true, eq-eqb}
use lib.Dec.{ltb, eqb}
use Rattle.rules.specs.Numbers.{largest_stamp, most_held}
use Rattle.rules.specs.Held.{is_held, how_many}
use Rattle.rules.specs.Pairs.{Lent, lent_good}
use Rattle.rules.specs.States.{well_formed}
use Rattle.rules.specs.GivenBack.{input, is_new, too_many, judge, step_with, step, refusal}
use Rattle.rules.specs.Refusals.{NotGood, NotWellFormed, NotAllowed, AboveLargest, BeforeLast, TooMany, LeftAsGiven, Refusals}
use Rattle.rules.specs.declared.Machine.{Machine}
use Rattle.rules.specs.declared.Event.{Event}
use Rattle.rules.specs.declared.Input.{Input}

-- both hold, or neither does
pub both : {A B : Type 0} → A → B → A ↔ B
both a b = (λ x. b, λ y. a)

pub neither : {A B : Type 0} → ¬ A → ¬ B → A ↔ B
neither f g = (λ a. absurd (f a), λ b. absurd (g b))

as_given : (g : Lent) (m : Machine) (e : Event) (n : ℕ) → step g m e ≡ refusal m n → LeftAsGiven m (step g m e)
as_given g m e n s = rw s (record { no_items = refl; no_sendings = refl; machine_as_given = refl })

is_good : (g : Lent) → lent_good g ≡ true → ¬ NotGood g
is_good g o n = true≢false (sym o ∙ n)

is_well_formed : (g : Lent) (m : Machine) → well_formed g m ≡ true → ¬ NotWellFormed g m
is_well_formed g m w n = true≢false (sym w ∙ n)

is_allowed : (e : Event) (j : Input) → input e.kind e.key ≡ some j → ¬ NotAllowed e
is_allowed e j i n =
    let z : true ≡ false = cc in
    true≢false z

not_above : (e : Event) → ltb largest_stamp e.stamp.0 ≡ false → ¬ AboveLargest e
not_above e x h =
    let l : e.stamp.0 ≤ largest_stamp = ltb-false _ _ x in
    omega arith

not_before : (m : Machine) (e : Event) → ltb e.stamp.0 m.last.0 ≡ false → ¬ BeforeLast m e
not_before m e y h =
    let l : m.last.0 ≤ e.stamp.0 = ltb-false _ _ y in
    omega arith

not_too_many : (m : Machine) (e : Event) → too_many m e ≡ false → ¬ TooMany m e
unfolding is_new
not_too_many m e z h =
    let k : eqb e.kind 1 ≡ true = eq-eqb _ _ h.0 in
    let n : eqb (how_many m.held) most_held ≡ true = eq-eqb _ _ h.2 in
    let t : too_many m e ≡ true = rw (k, h.1, n) in
    true≢false (sym t ∙ z)

is_free : (b : Bool) → not b ≡ true → b ≡ false
is_free true h = absurd (true≢false (sym h))
is_free false h = refl

is_too_many : (m : Machine) (e : Event) → too_many m e ≡ true → TooMany m e
unfolding is_new
is_too_many m e z =
    let p = (and-eq-true_iff (eqb e.kind 1 && not (is_held m.held e.key)) (eqb (how_many m.held) most_held)).0 z in
    let q = (and-eq-true_iff (eqb e.kind 1) (not (is_held m.held e.key))).0 p.0 in
    (eqb-true _ _ q.0, is_free (is_held m.held e.key) q.1, eqb-true _ _ p.1)

module _ (g : Lent) (m : Machine) (e : Event) where
  by_12 : lent_good g ≡ false → Refusals g m e
  unfolding step
  by_12 w =
      let s : step g m e ≡ refusal m 12 = rw w in
      let n : (step g m e).number ≡ 12 = ap (λ r. r.number) s in
      record {
        gives_12 = both n w;
        gives_2 = neither (λ q. omega arith) (λ r. r.0 w);
        gives_3 = neither (λ q. omega arith) (λ r. r.0 w);
        gives_4 = neither (λ q. omega arith) (λ r. r.0 w);
        gives_5 = neither (λ q. omega arith) (λ r. r.0 w);
        gives_11 = neither (λ q. omega arith) (λ r. r.0 w);
        gives_0 = neither (λ q. omega arith) (λ r. r.0 w);
        refused = λ f. as_given g m e 12 s;
      }

module _ (g : Lent) (good : lent_good g ≡ true) (m : Machine) (e : Event) where
  by_2 : well_formed g m ≡ false → Refusals g m e
  unfolding step step_with judge
  by_2 w =
      let s : step g m e ≡ refusal m 2 = rw (good, w) in
      let o : ¬ NotGood g = is_good g good in
      let n : (step g m e).number ≡ 2 = ap (λ r. r.number) s in
      record {
        gives_12 = neither (λ q. omega arith) o;
        gives_2 = both n (o, w);
        gives_3 = neither (λ q. omega arith) (λ r. r.1 w);
        gives_4 = neither (λ q. omega arith) (λ r. r.1 w);
        gives_5 = neither (λ q. omega arith) (λ r. r.1 w);
        gives_11 = neither (λ q. omega arith) (λ r. r.1 w);
        gives_0 = neither (λ q. omega arith) (λ r. r.1 w);
        refused = λ f. as_given g m e 2 s;
      }

  by_3 : well_formed g m ≡ true → NotAllowed e → Refusals g m e
  unfolding step step_with judge
  by_3 w i =
      let s : step g m e ≡ refusal m 3 = rw (good, w, i) in
      let o : ¬ NotGood g = is_good g good in
      let n : (step g m e).number ≡ 3 = ap (λ r. r.number) s in
      let f : ¬ NotWellFormed g m = is_well_formed g m w in
      record {
        gives_12 = neither (λ q. omega arith) o;
        gives_2 = neither (λ q. omega arith) (λ r. f r.1);
        gives_3 = both n (o, f, i);
        gives_4 = neither (λ q. omega arith) (λ r. r.2 i);
        gives_5 = neither (λ q. omega arith) (λ r. r.2 i);
        gives_11 = neither (λ q. omega arith) (λ r. r.2 i);
        gives_0 = neither (λ q. omega arith) (λ r. r.2 i);
        refused = λ h. as_given g m e 3 s;
      }

  module _ (j : Input) (w : well_formed g m ≡ true) (i : input e.kind e.key ≡ some j) where
    by_4 : ltb largest_stamp e.stamp.0 ≡ true → Refusals g m e
    unfolding step step_with judge
    by_4 x =
        let s : step g m e ≡ refusal m 4 = rw (good, w, i, x) in
        let o : ¬ NotGood g = is_good g good in
        let n : (step g m e).number ≡ 4 = ap (λ r. r.number) s in
        let f : ¬ NotWellFormed g m = is_well_formed g m w in
        let a : ¬ NotAllowed e = is_allowed e j i in
        let h : AboveLargest e = ltb-true _ _ x in
        record {
          gives_12 = neither (λ q. omega arith) o;
          gives_2 = neither (λ q. omega arith) (λ r. f r.1);
          gives_3 = neither (λ q. omega arith) (λ r. a r.2);
          gives_4 = both n (o, f, a, h);
          gives_5 = neither (λ q. omega arith) (λ r. r.3 h);
          gives_11 = neither (λ q. omega arith) (λ r. r.3 h);
          gives_0 = neither (λ q. omega arith) (λ r. r.3 h);
          refused = λ q. as_given g m e 4 s;
        }

    by_5 : ltb largest_stamp e.stamp.0 ≡ false → ltb e.stamp.0 m.last.0 ≡ true → Refusals g m e
    unfolding step step_with judge
    by_5 x y =
        let s : step g m e ≡ refusal m 5 = rw (good, w, i, x, y) in
        let o : ¬ NotGood g = is_good g good in
        let n : (step g m e).number ≡ 5 = ap (λ r. r.number) s in
        let f : ¬ NotWellFormed g m = is_well_formed g m w in
        let a : ¬ NotAllowed e = is_allowed e j i in
        let l : ¬ AboveLargest e = not_above e x in
        let h : BeforeLast m e = ltb-true _ _ y in
        record {
          gives_12 = neither (λ q. omega arith) o;
          gives_2 = neither (λ q. omega arith) (λ r. f r.1);
          gives_3 = neither (λ q. omega arith) (λ r. a r.2);
          gives_4 = neither (λ q. omega arith) (λ r. l r.3);
          gives_5 = both n (o, f, a, l, h);
          gives_11 = neither (λ q. omega arith) (λ r. r.4 h);
          gives_0 = neither (λ q. omega arith) (λ r. r.4 h);
          refused = λ q. as_given g m e 5 s;
        }

    module _ (x : ltb largest_stamp e.stamp.0 ≡ false) (y : ltb e.stamp.0 m.last.0 ≡ false) where
      by_11 : too_many m e ≡ true → Refusals g m e
      unfolding step step_with judge
      by_11 z =
          let s : step g m e ≡ refusal m 11 = rw (good, w, i, x, y, z) in
          let o : ¬ NotGood g = is_good g good in
          let n : (step g m e).number ≡ 11 = ap (λ r. r.number) s in
          let f : ¬ NotWellFormed g m = is_well_formed g m w in
          let a : ¬ NotAllowed e = is_allowed e j i in
          let l : ¬ AboveLargest e = not_above e x in
          let b : ¬ BeforeLast m e = not_before m e y in
          let h : TooMany m e = is_too_many m e z in
          record {
            gives_12 = neither (λ q. omega arith) o;
            gives_2 = neither (λ q. omega arith) (λ r. f r.1);
            gives_3 = neither (λ q. omega arith) (λ r. a r.2);
            gives_4 = neither (λ q. omega arith) (λ r. l r.3);
            gives_5 = neither (λ q. omega arith) (λ r. b r.4);
            gives_11 = both n (o, f, a, l, b, h);
            gives_0 = neither (λ q. omega arith) (λ r. r.5 h);
            refused = λ q. as_given g m e 11 s;
          }

      by_0 : too_many m e ≡ false → Refusals g m e
      unfolding step step_with judge
      by_0 z =
          let o : ¬ NotGood g = is_good g good in
          let n : (step g m e).number ≡ 0 = rw (good, w, i, x, y, z) in
          let f : ¬ NotWellFormed g m = is_well_formed g m w in
          let a : ¬ NotAllowed e = is_allowed e j i in
          let l : ¬ AboveLargest e = not_above e x in
          let b : ¬ BeforeLast m e = not_before m e y in
          let h : ¬ TooMany m e = not_too_many m e z in
          record {
            gives_12 = neither (λ q. omega arith) o;
            gives_2 = neither (λ q. omega arith) (λ r. f r.1);
            gives_3 = neither (λ q. omega arith) (λ r. a r.2);
            gives_4 = neither (λ q. omega arith) (λ r. l r.3);
            gives_5 = neither (λ q. omega arith) (λ r. b r.4);
            gives_11 = neither (λ q. omega arith) (λ r. h r.5);
            gives_0 = both n (o, f, a, l, b, h);
            refused = λ q. absurd (q n);
          }

pub refusals : (g : Lent) (m : Machine) (e : Event) → Refusals g m e
refusals g m e =
    go (lent_good g) refl (well_formed g m) refl (input e.kind e.key) refl (ltb largest_stamp e.stamp.0) refl
    (ltb e.stamp.0 m.last.0) refl (too_many m e) refl
  where
    go : (a : Bool) → lent_good g ≡ a → (b : Bool) → well_formed g m ≡ b → (i : Option Input) → input e.kind e.key ≡ i
        → (x : Bool) → ltb largest_stamp e.stamp.0 ≡ x
        → (y : Bool) → ltb e.stamp.0 m.last.0 ≡ y
        → (z : Bool) → too_many m e ≡ z
        → Refusals g m e
    go false o b w i p x q y r z u = by_12 g m e o
    go true o false w i p x q y r z u = by_2 g o m e w
    go true o true w none p x q y r z u = by_3 g o m e w p
    go true o true w (some j) p true q y r z u = by_4 g o m e j w p q
    go true o true w (some j) p false q true r z u = by_5 g o m e j w p q r
    go true o true w (some j) p false q false r true u = by_11 g o m e j w p q r u
    go true o true w (some j) p false q false r false u = by_0 g o m e j w p q r u
