-- Whoever opens a machine and calls `engine::step`, event after event, has what `OfTheCode` says: settings in range, the machine and the
-- readings of the definition's sequence, and demand 3.
use mathlib.Core.Path.{◌≡◌, refl, ap, ◌∙◌}
use mathlib.Core.Bool.{true}
use mathlib.Core.List.{List, ◌++◌}
use mathlib.Core.Option.{some}
use Rattle.std.specs.Prelude.{Ok}
use Prim.Native.Nat.{ℕ}
use native.Mathlib.Omega.{arith}
use Rattle.rules.specs.Numbers.{in_range}
use Rattle.rules.specs.Pairs.{Lent}
use Rattle.rules.specs.States.{fresh, Opening, opening, opened}
use Rattle.rules.specs.GivenBack.{Answer}
use Rattle.rules.specs.Sequences.{after, along}
use Rattle.rules.specs.declared.Settings.{Settings}
use Rattle.rules.specs.declared.Machine.{Machine}
use Rattle.rules.specs.declared.Event.{Event}
use Rattle.choice.proofs.Choices.{by_test}
use Rattle.rules.proofs.Demand3.{demand_3}
use Rattle.engine.specs.Views.{stepped}
use Rattle.engine.specs.Calls.{Given, Calls, no_more, call, CodeRun, last_machine, along_calls, OfTheCode}

module _ (g : Lent) where
  calls_after : {m : Machine} {es : List Event} {rs : List Given} → Calls g m es rs → last_machine m rs ≡ after g m es
  calls_after no_more = refl
  calls_after (call {es = es} h c) = calls_after c ∙ ap (λ (a : Answer). after g a.machine es) h.answer

  calls_along : {X : Type 0} (f : Machine → Event → Answer → List X) {m : Machine} {es : List Event} {rs : List Given} → Calls g m es rs
      → along_calls f m es rs ≡ along g f m es
  calls_along f no_more = refl
  calls_along f (call {m = m} {e = e} {r = r} {es = es} h c) =
      ap (λ (l : List _). f m e (stepped m r) ++ l) (calls_along f c)
      ∙ ap (λ (a : Answer). f m e a ++ along g f a.machine es) h.answer

-- what a machine that was opened is
record FreshInRange (s : Settings) (m : Machine) : Type 0 where
  in_range_s : in_range s ≡ true
  is_fresh : m ≡ fresh s

open_fresh : (s : Settings) (m : Machine) → opened (Ok m) ≡ opening s → FreshInRange s m
unfolding opening
open_fresh s m =
    by_test (λ (o : Opening). opened (Ok m) ≡ o → FreshInRange s m) (in_range s)
    (λ w h.
    let same : some m ≡ some (fresh s) = ap (λ (o : Opening). o.machine) h in
    record { in_range_s = w; is_fresh = cc })
    (λ _ h. absurd (let z : ◌≡◌ {A = ℕ} 0 1 = ap (λ (o : Opening). o.number) h in omega arith))

pub of_the_code : (g : Lent) {s : Settings} {m : Machine} {es : List Event} {rs : List Given} → CodeRun g s m es rs
    → OfTheCode g s m es rs
of_the_code g {s} {m} {es} run =
    let f = open_fresh s m run.machine_opened in
    record {
      settings_in_range = f.in_range_s;
      same_machine = calls_after g run.calls ∙ ap (λ (x : Machine). after g x es) f.is_fresh;
      same_readings = λ read. calls_along g read run.calls ∙ ap (λ (x : Machine). along g read x es) f.is_fresh;
      demand_3_holds = demand_3 g s f.in_range_s es;
    }
