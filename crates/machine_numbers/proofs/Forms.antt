-- What the tests of numbers come to, state by state, and which machine `machine_at` is.
use Prim.Native.Nat.{ℕ}
use native.Mathlib.Nat.{mod-eq_of_lt}
use native.Mathlib.Omega.{arith}
use mathlib.Core.Bool.{Bool, true, false, ◌&&◌, and-true, and-false, and-eq-true_iff}
use mathlib.Core.Option.{Option, none, some, none-ne-some}
use mathlib.Core.Path.{◌≡◌, refl, sym, ap, ◌∙◌}
use lib.Dec.{ltb, eqb}
use borrow.Author.Tests.{ltb-true, lt-ltb, le-ltb, eqb-true, eqb-false}
use Rattle.choice.specs.Choice.{if◌then◌orelse◌}
use Rattle.rules.specs.Numbers.{largest_stamp, in_range}
use Rattle.rules.specs.Held.{held_formed}
use Rattle.rules.specs.Pairs.{Lent, is_pair}
use Rattle.rules.specs.States.{at, is_key, keys_below, at_or_before, stamps_by, in_order, pair_lent, well_formed}
use Rattle.rules.specs.declared.Key.{Key}
use Rattle.rules.specs.declared.Thumb.{Thumb}
use Rattle.rules.specs.declared.Thumb.TheVariants.{Left, Right}
use Rattle.rules.specs.declared.Resting.{Resting}
use Rattle.rules.specs.declared.Resting.TheVariants.{S1, S2, S3, S4, S5, S6, S7, S8}
use Rattle.rules.specs.declared.Machine.{Machine}
use Rattle.choice.proofs.Choices.{by_test, either}
use Rattle.machine_numbers.specs.declared.MachineNumbers.{MachineNumbers}
use Rattle.machine_numbers.specs.Fields.{key_numbers, no_character, no_second, second_fits, no_thumb, no_release}
use Rattle.machine_numbers.specs.Fields.{character, second_character, with_thumb, settings_named, around}
use Rattle.machine_numbers.specs.Fields.{as_S1, as_S2, as_S3, as_S4, as_S5, as_S6, as_S7, as_S8, resting_named, named}
use Rattle.machine_numbers.specs.Formed.{names_formed, formed, rest_formed, thumb_at, second_at, resting_at, machine_at, AtNamed}

-- the tests of a machine, in the order of `is_formed`
shuffle : (a b c d e h p : Bool) → (a && b && c && d && e && h && p) ≡ (a && d && h && (b && (c && e) && p))
shuffle false b c d e h p = refl
shuffle true false c d e h p = sym (and-false (d && h))
shuffle true true false d e h p = sym (and-false (d && h))
shuffle true true true false e h p = refl
shuffle true true true true true h p = refl
shuffle true true true true false true p = refl
shuffle true true true true false false p = refl

-- K's number, where it fits
pub second_same : (f : MachineNumbers) → second_fits f ≡ true → second_at f ≡ second_character f
unfolding second_fits
second_same f e = ap (λ (n : ℕ). record { 0 = n }) (mod-eq_of_lt (ltb-true f.second key_numbers e))

-- two letters, by the tests of the code
pub not_S7 : (f : MachineNumbers) {b : Bool} → b ≡ (no_thumb f && no_release f && second_fits f) → b ≡ false → none ≡ as_S7 f
unfolding as_S7
not_S7 f e t = rw (← e, t)

pub not_S8 : (f : MachineNumbers) {b : Bool} → b ≡ (no_thumb f && second_fits f) → b ≡ false → none ≡ as_S8 f
unfolding as_S8
not_S8 f e t = rw (← e, t)

module _ (f : MachineNumbers) {b : Bool} {K : Key} where
  pub is_S7 : b ≡ (no_thumb f && no_release f && second_fits f) → b ≡ true → K ≡ second_at f
      → some (S7 (character f) f.m K f.k) ≡ as_S7 f
  unfolding as_S7
  is_S7 e t k =
      let fits = ((and-eq-true_iff (no_thumb f && no_release f) (second_fits f)).0 (sym e ∙ t)).1 in
      rw (← e, t, k, second_same f fits)

  pub is_S8 : b ≡ (no_thumb f && second_fits f) → b ≡ true → K ≡ second_at f
      → some (S8 (character f) f.m K f.k f.r) ≡ as_S8 f
  unfolding as_S8
  is_S8 e t k =
      let fits = ((and-eq-true_iff (no_thumb f) (second_fits f)).0 (sym e ∙ t)).1 in
      rw (← e, t, k, second_same f fits)

module _ (g : Lent) (f : MachineNumbers) where
  abbrev there : Option Resting → Bool
  there = rest_formed g f.last

  if_given : (t : Bool) (o : Option Resting) → there (if t then o orelse none) ≡ (t && there o)
  if_given true o = refl
  if_given false o = refl

  -- whichever thumb it is
  if_thumb : (x : Thumb → Resting) → there (some (x Left)) ≡ there (some (x Right))
      → there (with_thumb f x) ≡ (ltb f.thumb 2 && there (some (x Left)))
  if_thumb x e =
      by_test (λ (o : Option Resting). there o ≡ (ltb f.thumb 2 && there (some (x Left)))) (eqb f.thumb 0)
      (λ z. let low = eqb-true f.thumb 0 z in rw (lt-ltb f.thumb 2 (omega arith)))
      (λ n.
      by_test (λ (o : Option Resting). there o ≡ (ltb f.thumb 2 && there (some (x Left)))) (eqb f.thumb 1)
      (λ z. let low = eqb-true f.thumb 1 z in rw (lt-ltb f.thumb 2 (omega arith)) (sym e))
      (λ k.
      let not_0 = eqb-false f.thumb 0 n in
      let not-1 = eqb-false f.thumb 1 k in
      rw (le-ltb f.thumb 2 (omega arith))))

  -- a character with a thumb
  abbrev with_key : Bool → Bool
  with_key stamps = ltb f.thumb 2 && (is_key (character f) && stamps)

  -- K as its number or as what fits in a key, behind the test that it fits
  seconds : (t : Bool) (P : Key → Bool) {K : Key} → K ≡ second_at f
      → (t && second_fits f && P (second_character f)) ≡ (t && second_fits f && P K)
  seconds t P k = either (second_fits f) (λ e. rw (k, second_same f e)) (λ e. rw (e, and-false t))

  pub in_1 : there (as_S1 f) ≡ (no_character f && no_second f && no_thumb f && no_release f)
  unfolding as_S1
  in_1 =
      if_given (no_character f && no_second f && no_thumb f && no_release f) (some S1)
      ∙ and-true (no_character f && no_second f && no_thumb f && no_release f)

  pub in_2 : there (as_S2 f) ≡ (no_second f && no_thumb f && no_release f && (is_key (character f) && at_or_before f.m f.last))
  unfolding as_S2
  in_2 = if_given (no_second f && no_thumb f && no_release f) (some (S2 (character f) f.m)) ∙ simp and-true

  pub in_3 : there (as_S3 f) ≡ (no_character f && no_second f && no_release f && (ltb f.thumb 2 && at_or_before f.o f.last))
  unfolding as_S3
  in_3 =
      if_given (no_character f && no_second f && no_release f) (with_thumb f (λ O. S3 O f.o))
      ∙ rw (if_thumb (λ O. S3 O f.o) refl) (simp and-true)

  pub in_4 : there (as_S4 f)
      ≡ (no_second f && no_release f
      && with_key (at_or_before f.m f.last && at_or_before f.o f.last && at_or_before f.m f.o))
  unfolding as_S4
  in_4 =
      if_given (no_second f && no_release f) (with_thumb f (λ O. S4 (character f) f.m O f.o))
      ∙ rw (if_thumb (λ O. S4 (character f) f.m O f.o) refl) (simp and-true)

  pub in_5 : there (as_S5 f)
      ≡ (no_second f && no_release f
      && with_key (at_or_before f.o f.last && at_or_before f.m f.last && at_or_before f.o f.m))
  unfolding as_S5
  in_5 =
      if_given (no_second f && no_release f) (with_thumb f (λ O. S5 O f.o (character f) f.m))
      ∙ rw (if_thumb (λ O. S5 O f.o (character f) f.m) refl) (simp and-true)

  pub in_6 : there (as_S6 f)
      ≡ (no_second f
      && with_key
      (at_or_before f.o f.last && at_or_before f.m f.last && at_or_before f.r f.last
      && (at_or_before f.o f.m && at_or_before f.m f.r)))
  unfolding as_S6
  in_6 =
      if_given (no_second f) (with_thumb f (λ O. S6 O f.o (character f) f.m f.r))
      ∙ rw (if_thumb (λ O. S6 O f.o (character f) f.m f.r) refl) (simp and-true)

  -- two letters: keys, then stamps, then that they are a pair
  abbrev two : Bool → Key → Bool
  two stamps K = is_key (character f) && is_key K && stamps && is_pair g.pairs (character f) K

  abbrev stamps_7 : Bool
  stamps_7 = at_or_before f.m f.last && at_or_before f.k f.last && at_or_before f.m f.k

  pub in_7 : there (as_S7 f) ≡ (no_thumb f && no_release f && second_fits f && two stamps_7 (second_at f))
  unfolding as_S7
  in_7 =
      if_given (no_thumb f && no_release f && second_fits f) (some (S7 (character f) f.m (second_character f) f.k))
      ∙ seconds (no_thumb f && no_release f) (two stamps_7) refl

  abbrev stamps_8 : Bool
  stamps_8 =
      at_or_before f.m f.last && at_or_before f.k f.last && at_or_before f.r f.last
      && (at_or_before f.m f.k && at_or_before f.k f.r)

  pub in_8 : there (as_S8 f) ≡ (no_thumb f && second_fits f && two stamps_8 (second_at f))
  unfolding as_S8
  in_8 =
      if_given (no_thumb f && second_fits f) (some (S8 (character f) f.m (second_character f) f.k f.r))
      ∙ seconds (no_thumb f) (two stamps_8) refl

  pub by_tests : formed g f
      ≡ (in_range (settings_named f) && at_or_before f.last (at largest_stamp) && held_formed f.held && there (resting_named f))
  unfolding formed named well_formed
  by_tests = go (resting_named f)
    where
      go : (o : Option Resting)
          → names_formed g (around f o)
          ≡ (in_range (settings_named f) && at_or_before f.last (at largest_stamp) && held_formed f.held && there o)
      go none = sym (and-false (in_range (settings_named f) && at_or_before f.last (at largest_stamp) && held_formed f.held))
      go (some x) =
          shuffle (in_range (settings_named f)) (keys_below x) (stamps_by f.last x)
          (at_or_before f.last (at largest_stamp)) (in_order x) (held_formed f.held) (pair_lent g x)

-- The machine that is named.
module _ (f : MachineNumbers) (x : Machine) where
  -- if f names x by what rests in it, x is the machine
  abbrev One : Option Resting → Type 0
  One y = around f y ≡ some x → machine_at f ≡ x

  absent : One none
  absent h = absurd (none-ne-some x h)

  found : (y : Resting) → resting_at f ≡ y → One (some y)
  unfolding machine_at
  found y e h =
      let same : record { settings = settings_named f; resting = y; last = f.last; held = f.held } ≡ x = cc in
      rw e same

  either_thumb : (y : Thumb → Resting) → resting_at f ≡ y (thumb_at f.thumb) → One (with_thumb f y)
  unfolding thumb_at
  either_thumb y e =
      by_test One (eqb f.thumb 0) (λ z. found (y Left) (e ∙ rw z))
      (λ z. by_test One (eqb f.thumb 1) (λ _. found (y Right) (e ∙ rw z)) (λ _. absent))

  -- what rests in a state, if the tests of its numbers are met
  at_state : (t : Bool) (y : Resting) → (t ≡ true → resting_at f ≡ y) → One (if t then some y orelse none)
  at_state true y r = found y (r refl)
  at_state false y r = absent

  with_either : (t : Bool) (y : Thumb → Resting) → resting_at f ≡ y (thumb_at f.thumb) → One (if t then with_thumb f y orelse none)
  with_either true y r = either_thumb y r
  with_either false y r = absent

  named_1 : f.state ≡ 1 → One (as_S1 f)
  unfolding resting_at as_S1
  named_1 e = at_state (no_character f && no_second f && no_thumb f && no_release f) (S1) (λ _. rw e)

  named_2 : f.state ≡ 2 → One (as_S2 f)
  unfolding resting_at as_S2
  named_2 e = at_state (no_second f && no_thumb f && no_release f) (S2 (character f) f.m) (λ _. rw e)

  named_3 : f.state ≡ 3 → One (as_S3 f)
  unfolding resting_at as_S3
  named_3 e = with_either (no_character f && no_second f && no_release f) (λ O. S3 O f.o) (rw e)

  named_4 : f.state ≡ 4 → One (as_S4 f)
  unfolding resting_at as_S4
  named_4 e = with_either (no_second f && no_release f) (λ O. S4 (character f) f.m O f.o) (rw e)

  named_5 : f.state ≡ 5 → One (as_S5 f)
  unfolding resting_at as_S5
  named_5 e = with_either (no_second f && no_release f) (λ O. S5 O f.o (character f) f.m) (rw e)

  named_6 : f.state ≡ 6 → One (as_S6 f)
  unfolding resting_at as_S6
  named_6 e = with_either (no_second f) (λ O. S6 O f.o (character f) f.m f.r) (rw e)

  named_7 : f.state ≡ 7 → One (as_S7 f)
  unfolding resting_at as_S7
  named_7 e =
      at_state (no_thumb f && no_release f && second_fits f) (S7 (character f) f.m (second_character f) f.k)
      (λ t. rw (e, second_same f ((and-eq-true_iff (no_thumb f && no_release f) (second_fits f)).0 t).1))

  named_8 : f.state ≡ 8 → One (as_S8 f)
  unfolding resting_at as_S8
  named_8 e =
      at_state (no_thumb f && second_fits f) (S8 (character f) f.m (second_character f) f.k f.r)
      (λ t. rw (e, second_same f ((and-eq-true_iff (no_thumb f) (second_fits f)).0 t).1))

  is_named : One (resting_named f)
  unfolding resting_named
  is_named =
      by_test One (eqb f.state 1) (λ e. named_1 (eqb-true f.state 1 e))
      (λ _. by_test One (eqb f.state 2) (λ e. named_2 (eqb-true f.state 2 e))
      (λ _. by_test One (eqb f.state 3) (λ e. named_3 (eqb-true f.state 3 e))
      (λ _. by_test One (eqb f.state 4) (λ e. named_4 (eqb-true f.state 4 e))
      (λ _. by_test One (eqb f.state 5) (λ e. named_5 (eqb-true f.state 5 e))
      (λ _. by_test One (eqb f.state 6) (λ e. named_6 (eqb-true f.state 6 e))
      (λ _. by_test One (eqb f.state 7) (λ e. named_7 (eqb-true f.state 7 e))
      (λ _. by_test One (eqb f.state 8) (λ e. named_8 (eqb-true f.state 8 e))
      (λ _. absent))))))))

pub at_named : AtNamed
unfolding named
at_named f m = is_named f m
