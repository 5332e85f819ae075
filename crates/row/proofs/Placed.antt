-- What the test of a keyboard's number says of the row that the code holds: where the state lies, and which answer is due.
use Prim.Native.Nat.{ℕ, ◌<◌, ◌≤◌, ◌*◌, ◌^◌}
use native.Mathlib.Omega.{arith}
use mathlib.Core.Bool.{Bool, true, false, and-eq-true_iff}
use mathlib.Core.List.{List}
use mathlib.Core.Logic.{inl, inr}
use mathlib.Core.Option.{none}
use mathlib.Core.Path.{◌≡◌, refl, sym, ◌∙◌, ap}
use lib.Dec.{T, leb, ltb}
use lib.ListN.{length, get_or, set}
use borrow.Author.Tests.{leb-true, leb-false, ltb-true, ltb-false}
use Rattle.rules.specs.Numbers.{settings_of}
use Rattle.rules.specs.Pairs.{Lent}
use Rattle.rules.specs.States.{fresh}
use Rattle.std.specs.Prelude.{Ok, Err}
use Rattle.rules.specs.GivenBack.{Answer, step}
use Rattle.rules.specs.declared.Refusal.{Refusal}
use Rattle.rules.specs.declared.Refusal.TheVariants as refusals
use Rattle.engine.specs.Views.{Gives}
use Rattle.engine.specs.Calls.{Given}
use Rattle.engine.specs.declared.Stepped.{Stepped}
use Rattle.row.specs.RowCalls.{Distance, told_of}
use Rattle.deadlines.specs.Views.{asked}
use Rattle.rules.specs.Distance.{asking}
use Rattle.rules.specs.declared.Stamp.{Stamp}
use Rattle.rules.specs.declared.Machine.{Machine}
use Rattle.rules.specs.declared.Event.{Event}
use Rattle.row.specs.Row.{most_keyboards, keyboard, step_at, asking_at}
use Rattle.row.specs.RowFacts.{NoKeyboard, Found}
use Rattle.row.specs.Views.{is_keyboard, Tells, TellsAt}
use Rattle.row.proofs.Found.{stands_at, set_as_is, none_found, step_here, step_nowhere, asking_here, asking_nowhere}

-- what is told of an answer of one machine
tells_of : {m : Machine} {r : Given} {a : Answer} → Gives m r a → Tells (told_of r) a.number a.items a.sendings
tells_of {m} {r} {a} h = by_case r h
  where
    by_case : (r : Given) → Gives m r a → Tells (told_of r) a.number a.items a.sendings
    by_case (Ok d) h = record {
      number_is = ap (λ (a : Answer). a.number) h.answer;
      items_are = ap (λ (a : Answer). a.items) h.answer;
      sendings_are = ap (λ (a : Answer). a.sendings) h.answer;
      packed = h.packed;
    }
    by_case (Err e) h = record {
      number_is = ap (λ (a : Answer). a.number) h.answer;
      items_are = ap (λ (a : Answer). a.items) h.answer;
      sendings_are = ap (λ (a : Answer). a.sendings) h.answer;
      packed = h.packed;
    }

holds : (t : Bool) → T t → t ≡ true
holds true _ = refl
holds false a = absurd a

-- bytes of a machine in memory: the code scales a keyboard's number by it
abbrev pub size : ℕ
size = 64

-- a machine, which stands for what lies past the end of a row: no answer depends on it
abbrev pub any_machine : Machine
any_machine = fresh (settings_of 0 0 0 0)

-- the state that the code copies out
abbrev pub state_at : List Machine → ℕ → Machine
state_at row k = get_or row k any_machine

-- the code's test, answered with yes and with no
pub is_in : (n k : ℕ) (r : Bool) → r ≡ is_keyboard n k → r ≡ true → T (is_keyboard n k)
is_in n k r e h = rw (← e, h) tt

pub is_out : (n k : ℕ) (r : Bool) → r ≡ is_keyboard n k → r ≡ false → T (is_keyboard n k) → ⊥
is_out n k r e h t = rw (← e, h) at t

module _ (n k : ℕ) (t : T (is_keyboard n k)) where
  passed : (leb n most_keyboards ≡ true) × (ltb k n ≡ true)
  unfolding is_keyboard
  passed = (and-eq-true_iff (leb n most_keyboards) (ltb k n)).0 (holds (is_keyboard n k) t)

  -- the row is not above 16
  pub short : n ≤ most_keyboards
  short = leb-true n most_keyboards passed.0

  -- the place is in the row
  pub within : k < n
  within = ltb-true k n passed.1

  -- its offset is a usize
  pub offset_fits : k * size < 2 ^ 64
  offset_fits = let s = short in let w = within in omega arith

-- 13 is due
pub not_there : (n k : ℕ) → (T (is_keyboard n k) → ⊥) → NoKeyboard n k
unfolding is_keyboard
not_there n k f = go (leb n most_keyboards) refl (ltb k n) refl
  where
    go : (a : Bool) → leb n most_keyboards ≡ a → (b : Bool) → ltb k n ≡ b → NoKeyboard n k
    go false p b q = inl (leb-false _ _ p)
    go true p false q = inr (ltb-false _ _ q)
    go true p true q = absurd (f (rw (p, q) tt))

module _ (row : List Machine) (k : ℕ) where
  pub is_found : T (is_keyboard (length row) k) → Found row k (state_at row k)
  is_found t =
      record { not_above_16 = short (length row) k t; stands = stands_at row k any_machine (within (length row) k t) }

  pub not_found : (T (is_keyboard (length row) k) → ⊥) → keyboard row k ≡ none
  not_found f = none_found row k (not_there (length row) k f)

  module _ (g : Lent) (t : T (is_keyboard (length row) k)) where
    -- the answer of the keyboard's own machine, with the machine in its place
    pub tells_here : (e : Event) (d : Stepped) → Gives (state_at row k) (Ok d) (step g (state_at row k) e)
        → TellsAt (Ok (record { items = d.items; sendings = d.sendings })) (step_at g row k e)
        × (set row k d.machine ≡ (step_at g row k e).row)
    tells_here e d a =
        rw (step_here row k g e (state_at row k) (is_found t))
        (tells_of a, ap (λ (a : Answer). set row k a.machine) a.answer)

    -- a refusal, with the row as it was
    pub refused_here : (e : Event) (r : Refusal) → Gives (state_at row k) (Err r) (step g (state_at row k) e)
        → TellsAt (Err r) (step_at g row k e) × (row ≡ (step_at g row k e).row)
    refused_here e r a =
        rw (step_here row k g e (state_at row k) (is_found t))
        (tells_of a, sym (set_as_is row k (state_at row k) (is_found t).stands) ∙ ap (λ (a : Answer). set row k a.machine) a.answer)

    pub asked_here : (now : Stamp) (r : Distance) → asked r ≡ asking g (state_at row k) now → asked r ≡ asking_at g row k now
    asked_here now r h = h ∙ sym (asking_here row k g now (state_at row k) (is_found t))

  module _ (g : Lent) (f : T (is_keyboard (length row) k) → ⊥) where
    pub tells_none : (e : Event) → TellsAt (Err refusals.NoKeyboard) (step_at g row k e) × (row ≡ (step_at g row k e).row)
    tells_none e =
        rw (step_nowhere row k g e (not_found f))
        (record { number_is = refl; items_are = refl; sendings_are = refl; packed = refl }, refl)

    pub asked_none : (now : Stamp) → asked (Err refusals.NoKeyboard) ≡ asking_at g row k now
    asked_none now = sym (asking_nowhere row k g now (not_found f))
