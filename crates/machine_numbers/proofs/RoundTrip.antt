-- Numbers lose nothing of a machine, and a machine has one form in numbers only: by cases on what rests, and by the tests that
-- name it.
use Prim.Native.Nat.{ℕ}
use mathlib.Core.Bool.{Bool, true, false, ◌&&◌, and-eq-true_iff}
use mathlib.Core.Option.{Option, none, some, some-injective}
use mathlib.Core.Path.{◌≡◌, refl, ◌∙◌, ap, subst}
use lib.Dec.{eqb}
use native.Mathlib.Omega.{arith}
use borrow.Author.Tests.{ltb-true, lt-ltb, eqb-true}
use Rattle.choice.specs.Choice.{if◌then◌orelse◌}
use Rattle.rules.specs.Numbers.{largest_stamp, in_range}
use Rattle.rules.specs.Pairs.{Lent}
use Rattle.rules.specs.Held.{held_formed}
use Rattle.rules.specs.States.{at, is_key, keys_below, stamps_by, at_or_before, in_order, pair_lent, well_formed}
use Rattle.rules.specs.GivenBack.{Answer, step}
use Rattle.rules.specs.declared.Stamp.{Stamp}
use Rattle.rules.specs.declared.Thumb.{Thumb}
use Rattle.rules.specs.declared.Thumb.TheVariants.{Left, Right}
use Rattle.rules.specs.declared.Settings.{Settings}
use Rattle.rules.specs.declared.Resting.{Resting}
use Rattle.rules.specs.declared.Resting.TheVariants.{S1, S2, S3, S4, S5, S6, S7, S8}
use Rattle.rules.specs.declared.Machine.{Machine}
use Rattle.rules.specs.declared.Event.{Event}
use Rattle.choice.proofs.Choices.{by_test, either}
use Rattle.rules.proofs.Steps.{step_cases}
use Rattle.rules.proofs.Formed.{stays_formed}
use Rattle.machine_numbers.specs.declared.MachineNumbers.{MachineNumbers}
use Rattle.machine_numbers.specs.Fields.{thumb_number, Rest, rest, in_numbers, key_numbers, no_character}
use Rattle.machine_numbers.specs.Fields.{no_second, second_fits, no_thumb, no_release}
use Rattle.machine_numbers.specs.Fields.{character, second_character, with_thumb}
use Rattle.machine_numbers.specs.Fields.{as_S1, as_S2, as_S3, as_S4, as_S5, as_S6, as_S7, as_S8}
use Rattle.machine_numbers.specs.Fields.{resting_named, settings_named, around, named}
use Rattle.machine_numbers.specs.Fields.{no_settings, unopened, no_machine, is_no_machine}
use Rattle.machine_numbers.specs.LosesNothing.{SecondFits, Fits, AllFit, LosesNothing}

abbrev with_resting : Settings → Stamp → ℕ → Resting → Machine
with_resting s last h x = record { settings = s; resting = x; last = last; held = h }

module _ (s : Settings) (last : Stamp) (h : ℕ) where
  rests_back : (x : Resting) → SecondFits x → resting_named (in_numbers (with_resting s last h x)) ≡ some x
  unfolding in_numbers resting_named thumb_number no_character no_second second_fits no_thumb no_release as_S1 as_S2 as_S3
      as_S4 as_S5 as_S6 as_S7 as_S8
  rests_back S1 _ = refl
  rests_back (S2 M m) _ = refl
  rests_back (S3 Left o) _ = refl
  rests_back (S3 Right o) _ = refl
  rests_back (S4 M m Left o) _ = refl
  rests_back (S4 M m Right o) _ = refl
  rests_back (S5 Left o M m) _ = refl
  rests_back (S5 Right o M m) _ = refl
  rests_back (S6 Left o M m r) _ = refl
  rests_back (S6 Right o M m r) _ = refl
  rests_back (S7 M m K k) fits = rw (lt-ltb K.0 key_numbers fits)
  rests_back (S8 M m K k r) fits = rw (lt-ltb K.0 key_numbers fits)

  there_and_back : (x : Resting) → SecondFits x → named (in_numbers (with_resting s last h x)) ≡ some (with_resting s last h x)
  unfolding named in_numbers
  there_and_back x fits = ap (around (in_numbers (with_resting s last h x))) (rests_back x fits)

-- two numbers that were tested for 0
both_0 : (a b : ℕ) → (eqb a 0 && eqb b 0) ≡ true → (a ≡ 0) × (b ≡ 0)
both_0 a b e = let p = (and-eq-true_iff (eqb a 0) (eqb b 0)).0 e in (eqb-true a 0 p.0, eqb-true b 0 p.1)

-- a stamp of 0
stamp_0 : (t : Stamp) → t.0 ≡ 0 → t ≡ at 0
stamp_0 t e = ap at e

character_0 : (f : MachineNumbers) → no_character f ≡ true → (f.key ≡ 0) × (f.m ≡ at 0)
unfolding no_character
character_0 f e = let p = both_0 f.key f.m.0 e in (p.0, stamp_0 f.m p.1)

second_0 : (f : MachineNumbers) → no_second f ≡ true → (f.second ≡ 0) × (f.k ≡ at 0)
unfolding no_second
second_0 f e = let p = both_0 f.second f.k.0 e in (p.0, stamp_0 f.k p.1)

thumb_0 : (f : MachineNumbers) → no_thumb f ≡ true → (f.thumb ≡ 0) × (f.o ≡ at 0)
unfolding no_thumb
thumb_0 f e = let p = both_0 f.thumb f.o.0 e in (p.0, stamp_0 f.o p.1)

release_0 : (f : MachineNumbers) → no_release f ≡ true → f.r ≡ at 0
unfolding no_release
release_0 f e = stamp_0 f.r (eqb-true f.r.0 0 e)

module _ (f : MachineNumbers) (x : Machine) where
  -- f's numbers of what rests
  abbrev given : Rest
  given =
      record { state = f.state; key = f.key; m = f.m; second = f.second; k = f.k; thumb = f.thumb; o = f.o; r = f.r }

  -- if f names x by what rests in it, f is x's numbers
  abbrev One : Option Resting → Type 0
  One y = around f y ≡ some x → in_numbers x ≡ f

  absent : One none
  absent h = absurd (let z : ◌≡◌ {A = ℕ} 0 1 = cc in omega arith)

  found : (y : Resting) → rest y ≡ given → One (some y)
  unfolding in_numbers
  found y e h = let same : with_resting (settings_named f) f.last f.held y ≡ x = cc in rw (← same, e)

  either_thumb : (y : Thumb → Resting) → ((O : Thumb) → f.thumb ≡ thumb_number O → rest (y O) ≡ given) → One (with_thumb f y)
  unfolding thumb_number
  either_thumb y k =
      by_test One (eqb f.thumb 0) (λ e. found (y Left) (k Left (eqb-true f.thumb 0 e)))
      (λ _. by_test One (eqb f.thumb 1) (λ e. found (y Right) (k Right (eqb-true f.thumb 1 e))) (λ _. absent))

  in_1 : f.state ≡ 1 → One (as_S1 f)
  unfolding as_S1
  in_1 n =
      by_test One (no_character f && no_second f && no_thumb f && no_release f)
      (λ e.
      let cst-r = (and-eq-true_iff (no_character f && no_second f && no_thumb f) (no_release f)).0 e in
      let cs-t = (and-eq-true_iff (no_character f && no_second f) (no_thumb f)).0 cst-r.0 in
      let c-s = (and-eq-true_iff (no_character f) (no_second f)).0 cs-t.0 in
      let c = character_0 f c-s.0 in
      let k = second_0 f c-s.1 in
      let t = thumb_0 f cs-t.1 in
      found S1 (rw (n, c.0, c.1, k.0, k.1, t.0, t.1, release_0 f cst-r.1)))
      (λ _. absent)

  in_2 : f.state ≡ 2 → One (as_S2 f)
  unfolding as_S2
  in_2 n =
      by_test One (no_second f && no_thumb f && no_release f)
      (λ e.
      let st-r = (and-eq-true_iff (no_second f && no_thumb f) (no_release f)).0 e in
      let s-t = (and-eq-true_iff (no_second f) (no_thumb f)).0 st-r.0 in
      let k = second_0 f s-t.0 in
      let t = thumb_0 f s-t.1 in
      found (S2 (character f) f.m) (rw (n, k.0, k.1, t.0, t.1, release_0 f st-r.1)))
      (λ _. absent)

  in_3 : f.state ≡ 3 → One (as_S3 f)
  unfolding as_S3
  in_3 n =
      by_test One (no_character f && no_second f && no_release f)
      (λ e.
      let cs-r = (and-eq-true_iff (no_character f && no_second f) (no_release f)).0 e in
      let c-s = (and-eq-true_iff (no_character f) (no_second f)).0 cs-r.0 in
      let c = character_0 f c-s.0 in
      let k = second_0 f c-s.1 in
      either_thumb (λ O. S3 O f.o) (λ O w. rw (n, c.0, c.1, k.0, k.1, w, release_0 f cs-r.1)))
      (λ _. absent)

  in_4 : f.state ≡ 4 → One (as_S4 f)
  unfolding as_S4
  in_4 n =
      by_test One (no_second f && no_release f)
      (λ e.
      let s-r = (and-eq-true_iff (no_second f) (no_release f)).0 e in
      let k = second_0 f s-r.0 in
      either_thumb (λ O. S4 (character f) f.m O f.o) (λ O w. rw (n, k.0, k.1, w, release_0 f s-r.1)))
      (λ _. absent)

  in_5 : f.state ≡ 5 → One (as_S5 f)
  unfolding as_S5
  in_5 n =
      by_test One (no_second f && no_release f)
      (λ e.
      let s-r = (and-eq-true_iff (no_second f) (no_release f)).0 e in
      let k = second_0 f s-r.0 in
      either_thumb (λ O. S5 O f.o (character f) f.m) (λ O w. rw (n, k.0, k.1, w, release_0 f s-r.1)))
      (λ _. absent)

  in_6 : f.state ≡ 6 → One (as_S6 f)
  unfolding as_S6
  in_6 n =
      by_test One (no_second f)
      (λ e.
      let k = second_0 f e in
      either_thumb (λ O. S6 O f.o (character f) f.m f.r) (λ O w. rw (n, k.0, k.1, w)))
      (λ _. absent)

  in_7 : f.state ≡ 7 → One (as_S7 f)
  unfolding as_S7
  in_7 n =
      by_test One (no_thumb f && no_release f && second_fits f)
      (λ e.
      let tr-f = (and-eq-true_iff (no_thumb f && no_release f) (second_fits f)).0 e in
      let t-r = (and-eq-true_iff (no_thumb f) (no_release f)).0 tr-f.0 in
      let t = thumb_0 f t-r.0 in
      found (S7 (character f) f.m (second_character f) f.k) (rw (n, t.0, t.1, release_0 f t-r.1)))
      (λ _. absent)

  in_8 : f.state ≡ 8 → One (as_S8 f)
  unfolding as_S8
  in_8 n =
      by_test One (no_thumb f && second_fits f)
      (λ e.
      let t = thumb_0 f ((and-eq-true_iff (no_thumb f) (second_fits f)).0 e).0 in
      found (S8 (character f) f.m (second_character f) f.k f.r) (rw (n, t.0, t.1)))
      (λ _. absent)

  in_any : One (resting_named f)
  unfolding resting_named
  in_any =
      by_test One (eqb f.state 1) (λ e. in_1 (eqb-true f.state 1 e))
      (λ _. by_test One (eqb f.state 2) (λ e. in_2 (eqb-true f.state 2 e))
      (λ _. by_test One (eqb f.state 3) (λ e. in_3 (eqb-true f.state 3 e))
      (λ _. by_test One (eqb f.state 4) (λ e. in_4 (eqb-true f.state 4 e))
      (λ _. by_test One (eqb f.state 5) (λ e. in_5 (eqb-true f.state 5 e))
      (λ _. by_test One (eqb f.state 6) (λ e. in_6 (eqb-true f.state 6 e))
      (λ _. by_test One (eqb f.state 7) (λ e. in_7 (eqb-true f.state 7 e))
      (λ _. by_test One (eqb f.state 8) (λ e. in_8 (eqb-true f.state 8 e)) (λ _. absent))))))))

-- The numbers that `no_settings` and `unopened` test.
settings_0 : (f : MachineNumbers) → no_settings f ≡ true → (f.t ≡ 0) × (f.j ≡ 0) × (f.l ≡ 0) × (f.solo ≡ 0)
unfolding no_settings
settings_0 f h =
    let tjl-s = (and-eq-true_iff (eqb f.t 0 && eqb f.j 0 && eqb f.l 0) (eqb f.solo 0)).0 h in
    let tj-l = (and-eq-true_iff (eqb f.t 0 && eqb f.j 0) (eqb f.l 0)).0 tjl-s.0 in
    let tj = both_0 f.t f.j tj-l.0 in
    (tj.0, tj.1, eqb-true f.l 0 tj-l.1, eqb-true f.solo 0 tjl-s.1)

unopened_0 : (f : MachineNumbers) → unopened f ≡ true → (f.state ≡ 0) × (f.last ≡ at 0) × (f.held ≡ 0) × (no_settings f ≡ true)
unfolding unopened
unopened_0 f h =
    let slh-s = (and-eq-true_iff (eqb f.state 0 && eqb f.last.0 0 && eqb f.held 0) (no_settings f)).0 h in
    let sl-h = (and-eq-true_iff (eqb f.state 0 && eqb f.last.0 0) (eqb f.held 0)).0 slh-s.0 in
    let sl = both_0 f.state f.last.0 sl-h.0 in
    (sl.0, stamp_0 f.last sl.1, eqb-true f.held 0 sl-h.1, slh-s.1)

-- f, number by number
abbrev fields : MachineNumbers → MachineNumbers
fields f =
    record {
      last = f.last;
      m = f.m;
      k = f.k;
      o = f.o;
      r = f.r;
      held = f.held;
      second = f.second;
      t = f.t;
      j = f.j;
      l = f.l;
      solo = f.solo;
      state = f.state;
      key = f.key;
      thumb = f.thumb;
    }

zeros : (f : MachineNumbers) → is_no_machine f ≡ true → f ≡ no_machine
unfolding is_no_machine
zeros f h =
    let ucst-r = (and-eq-true_iff (unopened f && no_character f && no_second f && no_thumb f) (no_release f)).0 h in
    let ucs-t = (and-eq-true_iff (unopened f && no_character f && no_second f) (no_thumb f)).0 ucst-r.0 in
    let uc-s = (and-eq-true_iff (unopened f && no_character f) (no_second f)).0 ucs-t.0 in
    let u-c = (and-eq-true_iff (unopened f) (no_character f)).0 uc-s.0 in
    let u = unopened_0 f u-c.0 in
    let s = settings_0 f u.3 in
    let c = character_0 f u-c.1 in
    let k = second_0 f uc-s.1 in
    let t = thumb_0 f ucs-t.1 in
    let same : fields f ≡ no_machine =
    rw (u.0, u.1, u.2, s.0, s.1, s.2, s.3, c.0, c.1, k.0, k.1, t.0, t.1, release_0 f ucst-r.1)
    in
    same

-- a state of 1 to 8 is not 0
not_zeros : (s : Settings) (last : Stamp) (h : ℕ) (x : Resting) → is_no_machine (in_numbers (with_resting s last h x)) ≡ false
unfolding in_numbers is_no_machine unopened
not_zeros s last h S1 = refl
not_zeros s last h (S2 M m) = refl
not_zeros s last h (S3 O o) = refl
not_zeros s last h (S4 M m O o) = refl
not_zeros s last h (S5 O o M m) = refl
not_zeros s last h (S6 O o M m r) = refl
not_zeros s last h (S7 M m K k) = refl
not_zeros s last h (S8 M m K k r) = refl

zeros_test : is_no_machine no_machine ≡ true
unfolding is_no_machine unopened no_settings no_character no_second no_thumb no_release
zeros_test = refl

none_named : named no_machine ≡ none
unfolding named resting_named
none_named = refl

one_form : (f : MachineNumbers) (x : Machine) → named f ≡ some x → in_numbers x ≡ f
unfolding named
one_form f x = in_any f x

pub loses_nothing : LosesNothing
loses_nothing =
    record {
      back = λ x. there_and_back x.settings x.last x.held x.resting;
      one_form = one_form;
      none_named = none_named;
      zeros = zeros;
      zeros_test = zeros_test;
      not_zeros = λ x. not_zeros x.settings x.last x.held x.resting;
    }

-- K's number fits: where it is a key's, and where it was tested.
keys_fit : (x : Resting) → keys_below x ≡ true → SecondFits x
keys_fit S1 _ = tt
keys_fit (S2 M m) _ = tt
keys_fit (S3 O o) _ = tt
keys_fit (S4 M m O o) _ = tt
keys_fit (S5 O o M m) _ = tt
keys_fit (S6 O o M m r) _ = tt
keys_fit (S7 M m K k) e = omega (arith, ltb-true K.0 31 ((and-eq-true_iff (is_key M) (is_key K)).0 e).1)
keys_fit (S8 M m K k r) e = omega (arith, ltb-true K.0 31 ((and-eq-true_iff (is_key M) (is_key K)).0 e).1)

-- what numbers name, fits
module _ (f : MachineNumbers) where
  abbrev AllFound : Option Resting → Type 0
  AllFound none = Unit {0}
  AllFound (some x) = SecondFits x

  any_thumb : (y : Thumb → Resting) → ((O : Thumb) → SecondFits (y O)) → AllFound (with_thumb f y)
  any_thumb y k =
      by_test AllFound (eqb f.thumb 0) (λ _. k Left) (λ _. by_test AllFound (eqb f.thumb 1) (λ _. k Right) (λ _. tt))

  if_tested : (t : Bool) (o : Option Resting) → (t ≡ true → AllFound o) → AllFound (if t then o orelse none)
  if_tested true o k = k refl
  if_tested false o k = tt

  fits_1 : AllFound (as_S1 f)
  unfolding as_S1
  fits_1 = if_tested (no_character f && no_second f && no_thumb f && no_release f) (some S1) (λ _. tt)

  fits_2 : AllFound (as_S2 f)
  unfolding as_S2
  fits_2 = if_tested (no_second f && no_thumb f && no_release f) (some (S2 (character f) f.m)) (λ _. tt)

  fits_3 : AllFound (as_S3 f)
  unfolding as_S3
  fits_3 =
      if_tested (no_character f && no_second f && no_release f) (with_thumb f (λ O. S3 O f.o))
      (λ _. any_thumb (λ O. S3 O f.o) (λ _. tt))

  fits_4 : AllFound (as_S4 f)
  unfolding as_S4
  fits_4 =
      if_tested (no_second f && no_release f) (with_thumb f (λ O. S4 (character f) f.m O f.o))
      (λ _. any_thumb (λ O. S4 (character f) f.m O f.o) (λ _. tt))

  fits_5 : AllFound (as_S5 f)
  unfolding as_S5
  fits_5 =
      if_tested (no_second f && no_release f) (with_thumb f (λ O. S5 O f.o (character f) f.m))
      (λ _. any_thumb (λ O. S5 O f.o (character f) f.m) (λ _. tt))

  fits_6 : AllFound (as_S6 f)
  unfolding as_S6
  fits_6 =
      if_tested (no_second f) (with_thumb f (λ O. S6 O f.o (character f) f.m f.r))
      (λ _. any_thumb (λ O. S6 O f.o (character f) f.m f.r) (λ _. tt))

  fits_7 : AllFound (as_S7 f)
  unfolding as_S7 second_fits
  fits_7 =
      if_tested (no_thumb f && no_release f && second_fits f) (some (S7 (character f) f.m (second_character f) f.k))
      (λ e. ltb-true f.second key_numbers ((and-eq-true_iff (no_thumb f && no_release f) (second_fits f)).0 e).1)

  fits_8 : AllFound (as_S8 f)
  unfolding as_S8 second_fits
  fits_8 =
      if_tested (no_thumb f && second_fits f) (some (S8 (character f) f.m (second_character f) f.k f.r))
      (λ e. ltb-true f.second key_numbers ((and-eq-true_iff (no_thumb f) (second_fits f)).0 e).1)

  found_fits : AllFound (resting_named f)
  unfolding resting_named
  found_fits =
      by_test AllFound (eqb f.state 1) (λ _. fits_1)
      (λ _. by_test AllFound (eqb f.state 2) (λ _. fits_2)
      (λ _. by_test AllFound (eqb f.state 3) (λ _. fits_3)
      (λ _. by_test AllFound (eqb f.state 4) (λ _. fits_4)
      (λ _. by_test AllFound (eqb f.state 5) (λ _. fits_5)
      (λ _. by_test AllFound (eqb f.state 6) (λ _. fits_6)
      (λ _. by_test AllFound (eqb f.state 7) (λ _. fits_7)
      (λ _. by_test AllFound (eqb f.state 8) (λ _. fits_8)
      (λ _. tt))))))))

named_fits : (f : MachineNumbers) (x : Machine) → named f ≡ some x → Fits x
unfolding named
named_fits f x = go (resting_named f) (found_fits f)
  where
    go : (o : Option Resting) → AllFound f o → around f o ≡ some x → Fits x
    go none _ h = absurd (let z : ◌≡◌ {A = ℕ} 0 1 = cc in omega arith)
    go (some y) fits h = subst (λ (m : Machine). Fits m) (some-injective _ x h) fits

well_formed_fits : (g : Lent) (x : Machine) → well_formed g x ≡ true → Fits x
unfolding well_formed
well_formed_fits g x w =
    let y = x.resting in
    let two = in_range x.settings && keys_below y in
    let three = two && stamps_by x.last y in
    let four = three && at_or_before x.last (at largest_stamp) in
    let five = four && in_order y in
    let w-6 = ((and-eq-true_iff (five && held_formed x.held) (pair_lent g y)).0 w).0 in
    let w-5 = ((and-eq-true_iff five (held_formed x.held)).0 w-6).0 in
    let w-4 = ((and-eq-true_iff four (in_order y)).0 w-5).0 in
    let w-3 = ((and-eq-true_iff three (at_or_before x.last (at largest_stamp))).0 w-4).0 in
    let w_2 = ((and-eq-true_iff two (stamps_by x.last y)).0 w-3).0 in
    keys_fit y ((and-eq-true_iff (in_range x.settings) (keys_below y)).0 w_2).1

-- an accepted event leaves a well-formed machine, a refused one the machine as given
step_fits : (g : Lent) (x : Machine) (e : Event) → Fits x → Fits (step g x e).machine
step_fits g x e fits =
    either (well_formed g x)
    (λ w. well_formed_fits g (step g x e).machine (stays_formed g x e ∙ w))
    (λ n. step_cases (λ (r : Answer). Fits r.machine) g x e (λ _ _. fits) (λ i a. absurd (let z : ◌≡◌ {A = ℕ} 0 1 = cc in omega arith)))

pub all_fit : AllFit
all_fit =
    record {
      fresh_fits = λ s. tt;
      well_formed_fits = well_formed_fits;
      step_fits = step_fits;
      named_fits = named_fits;
    }
