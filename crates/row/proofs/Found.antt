-- One keyboard of a row: what finding it says of the row, and what an event or an asking there comes to.
use Prim.Native.Nat.{ℕ, zero, suc, ◌<◌, ◌≤◌, zero-le, suc-le-suc}
use native.Mathlib.Nat.{not-suc-le-zero, le_of_suc-le-suc}
use mathlib.Core.List.{List, [], ◌∷◌}
use mathlib.Core.Logic.{◌≢◌, inl, inr}
use mathlib.Core.Option.{Option, none, some, none-ne-some}
use mathlib.Core.Path.{◌≡◌, refl, sym, ap, ◌∙◌}
use lib.Dec.{leb}
use Rattle.choice.specs.Choice.{if◌then◌orelse◌}
use lib.ListN.{length, get_or, get_elem?, set, length-set}
use borrow.Author.Tests.{leb-true, leb-false, le-leb, lt-leb}
use Rattle.rules.specs.Pairs.{Lent}
use Rattle.rules.specs.GivenBack.{step}
use Rattle.rules.specs.Distance.{not_answered, asking}
use Rattle.rules.specs.declared.Stamp.{Stamp}
use Rattle.rules.specs.declared.Machine.{Machine}
use Rattle.rules.specs.declared.Event.{Event}
use Rattle.choice.proofs.Choices.{both_ways, by_test}
use Rattle.row.specs.Row.{most_keyboards, keyboard, refused_13, answered_at, step_at, asking_at}
use Rattle.row.specs.RowFacts.{NoKeyboard, Found}

module _ {A : Type 0} where
  pub stands_at : (l : List A) (i : ℕ) (d : A) → i < length l → get_elem? l i ≡ some (get_or l i d)
  stands_at [] i d h = absurd (not-suc-le-zero h)
  stands_at (x ∷ xs) zero d h = refl
  stands_at (x ∷ xs) (suc i) d h = stands_at xs i d (le_of_suc-le-suc h)

  pub none_past : (l : List A) (i : ℕ) → length l ≤ i → get_elem? l i ≡ none
  none_past [] i h = refl
  none_past (x ∷ xs) zero h = absurd (not-suc-le-zero h)
  none_past (x ∷ xs) (suc i) h = none_past xs i (le_of_suc-le-suc h)

  pub past_if_none : (l : List A) (i : ℕ) → get_elem? l i ≡ none → length l ≤ i
  past_if_none [] i h = zero-le
  past_if_none (x ∷ xs) zero h = absurd (none-ne-some x (sym h))
  past_if_none (x ∷ xs) (suc i) h = suc-le-suc (past_if_none xs i h)

  pub set_same : (l : List A) (i : ℕ) (m a : A) → get_elem? l i ≡ some m → get_elem? (set l i a) i ≡ some a
  set_same [] i m a h = absurd (none-ne-some m h)
  set_same (x ∷ xs) zero m a h = refl
  set_same (x ∷ xs) (suc i) m a h = set_same xs i m a h

  pub set_other : (l : List A) (i j : ℕ) (a : A) → j ≢ i → get_elem? (set l i a) j ≡ get_elem? l j
  set_other [] i j a h = refl
  set_other (x ∷ xs) zero zero a h = absurd (h refl)
  set_other (x ∷ xs) zero (suc j) a h = refl
  set_other (x ∷ xs) (suc i) zero a h = refl
  set_other (x ∷ xs) (suc i) (suc j) a h = set_other xs i j a (λ e. h (ap suc e))

  -- what stands there, put there, changes nothing
  pub set_as_is : (l : List A) (i : ℕ) (m : A) → get_elem? l i ≡ some m → set l i m ≡ l
  set_as_is [] i m h = refl
  set_as_is (x ∷ xs) zero m h = cc
  set_as_is (x ∷ xs) (suc i) m h = ap (λ (l : List A). x ∷ l) (set_as_is xs i m h)

-- What stands at a place of a row that is not above 16, as a row of machines and a row of numbers have it.
module _ {A : Type 0} (row : List A) (k : ℕ) where
  abbrev pub seat : Option A
  seat = if leb (length row) most_keyboards then get_elem? row k orelse none

  pub seat_found : (m : A) → seat ≡ some m → (length row ≤ most_keyboards) × (get_elem? row k ≡ some m)
  seat_found m =
      by_test (λ (o : Option A). o ≡ some m → (length row ≤ most_keyboards) × (get_elem? row k ≡ some m)) (leb (length row) most_keyboards)
      (λ short h. (leb-true (length row) most_keyboards short, h))
      (λ _ h. absurd (none-ne-some m h))

  pub seat_there : (m : A) → length row ≤ most_keyboards → get_elem? row k ≡ some m → seat ≡ some m
  seat_there m short h = rw (le-leb (length row) most_keyboards short) h

  -- none is found exactly where 13 is due
  pub seat_none : NoKeyboard (length row) k → seat ≡ none
  seat_none (inl above) = rw (lt-leb _ _ above)
  seat_none (inr past) = both_ways (λ (o : Option A). o ≡ none) (leb (length row) most_keyboards) (none_past row k past) refl

  pub seat_why : seat ≡ none → NoKeyboard (length row) k
  seat_why =
      by_test (λ (o : Option A). o ≡ none → NoKeyboard (length row) k) (leb (length row) most_keyboards)
      (λ _ h. inr (past_if_none row k h))
      (λ above _. inl (leb-false _ _ above))

module _ (row : List Machine) (k : ℕ) where
  -- the keyboard that is found
  pub found_in : (m : Machine) → keyboard row k ≡ some m → Found row k m
  unfolding keyboard
  found_in m h = let f = seat_found row k m h in record { not_above_16 = f.0; stands = f.1 }

  pub is_there : (m : Machine) → Found row k m → keyboard row k ≡ some m
  unfolding keyboard
  is_there m f = seat_there row k m f.not_above_16 f.stands

  pub none_found : NoKeyboard (length row) k → keyboard row k ≡ none
  unfolding keyboard
  none_found = seat_none row k

  pub none_why : keyboard row k ≡ none → NoKeyboard (length row) k
  unfolding keyboard
  none_why = seat_why row k

  -- an event where no keyboard is found, and at one that is
  pub step_nowhere : (g : Lent) (e : Event) → keyboard row k ≡ none → step_at g row k e ≡ refused_13 row
  unfolding step_at
  step_nowhere g e h = rw h

  pub step_here : (g : Lent) (e : Event) (m : Machine) → Found row k m → step_at g row k e ≡ answered_at row k (step g m e)
  unfolding step_at
  step_here g e m f = rw (is_there m f)

  -- an asking
  pub asking_nowhere : (g : Lent) (now : Stamp) → keyboard row k ≡ none → asking_at g row k now ≡ not_answered 13
  unfolding asking_at
  asking_nowhere g now h = rw h

  pub asking_here : (g : Lent) (now : Stamp) (m : Machine) → Found row k m → asking_at g row k now ≡ asking g m now
  unfolding asking_at
  asking_here g now m f = rw (is_there m f)

  -- a keyboard's own state put in its place, and another's
  pub put_own : (m a : Machine) → Found row k m → Found (set row k a) k a
  put_own m a f =
      record { not_above_16 = rw (length-set row k a) f.not_above_16; stands = set_same row k m a f.stands }

  pub put_other : (j : ℕ) (m a : Machine) → k ≢ j → Found row k m → Found (set row j a) k m
  put_other j m a h f =
      record { not_above_16 = rw (length-set row j a) f.not_above_16; stands = set_other row j k a h ∙ f.stands }
