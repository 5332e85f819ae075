-- A machine is well formed, one state at a time.
use Prim.Native.Nat.{ℕ}
use mathlib.Core.List.{List}
use mathlib.Core.Path.{◌≡◌, refl, sym, ◌∙◌}
use mathlib.Core.Bool.{Bool, true, false, ◌&&◌, and-true, and-false}
use native.Mathlib.Omega.{arith}
use borrow.Author.Tests.{leb-true, le-leb}
use Rattle.rules.specs.Numbers.{largest_stamp, in_range}
use Rattle.rules.specs.Held.{held_formed}
use Rattle.rules.specs.Pairs.{Lent, is_pair}
use Rattle.rules.specs.States.{at, is_key, at_or_before, keys_below, stamps_by, in_order, pair_lent, well_formed}
use Rattle.rules.specs.declared.Stamp.{Stamp}
use Rattle.rules.specs.declared.Resting.{Resting}
use Rattle.rules.specs.declared.Resting.TheVariants.{S1, S2, S3, S4, S5, S6, S7, S8}
use Rattle.rules.specs.declared.Machine.{Machine}
use Rattle.pairs.specs.Lent.{of_list, lent}
use Rattle.pairs.specs.declared.Times.{Times}
use Rattle.deadlines.specs.ByState.{in_turn, four_in_turn, two_letters, rests_well}

-- Tests of stamps a and b, and of a, b and c, against each other and against the last stamp z; k and p stand for the others.
plainly : (k a : Bool) → (k && a && true && true) ≡ (k && a)
plainly k a = rw (and-true (k && a), and-true (k && a))

two : (k az bz ab p : Bool) → (ab ≡ true → bz ≡ true → az ≡ true) → (k && (az && bz) && ab && p) ≡ (k && (ab && bz) && p)
two false az bz ab p h = refl
two true az false ab p h = rw (and-false az, and-false ab)
two true az true false p h = rw (and-false (az && true))
two true az true true p h = rw (h refl refl)

three : (k az bz cz ab bc p : Bool) → (bc ≡ true → cz ≡ true → bz ≡ true) → (ab ≡ true → bz ≡ true → az ≡ true)
    → (k && (az && bz && cz) && (ab && bc) && p) ≡ (k && (ab && (bc && cz)) && p)
three false az bz cz ab bc p h i = refl
three true az bz false ab bc p h i = rw (and-false (az && bz), and-false bc, and-false ab)
three true az bz true false bc p h i = rw (and-false (az && bz && true))
three true az bz true true false p h i = rw (and-false (az && bz && true))
three true az bz true true true p h i = rw (i refl (h refl refl), h refl refl)

-- the two keys of S7 and S8 are asked last
last_of_all : (k l t p : Bool) → (k && l && t && p) ≡ (t && (k && (l && p)))
last_of_all k l false p = rw (and-false (k && l))
last_of_all false l true p = refl
last_of_all true false true p = refl
last_of_all true true true p = refl

earlier : (z a b : Stamp) → at_or_before a b ≡ true → at_or_before b z ≡ true → at_or_before a z ≡ true
earlier z a b h i = le-leb a.0 z.0 (omega (arith, leb-true a.0 b.0 h, leb-true b.0 z.0 i))

by_state : (g : Lent) (z : Stamp) (x : Resting)
    → (keys_below x && stamps_by z x && in_order x && pair_lent g x) ≡ rests_well g.pairs z x
unfolding in_turn four_in_turn two_letters
by_state g z S1 = refl
by_state g z (S2 M m) = plainly (is_key M) (at_or_before m z)
by_state g z (S3 O o) = plainly true (at_or_before o z)
by_state g z (S4 M m O o) =
    rw (two (is_key M) (at_or_before m z) (at_or_before o z) (at_or_before m o) true (earlier z m o))
    (and-true (is_key M && (at_or_before m o && at_or_before o z)))
by_state g z (S5 O o M m) =
    rw (two (is_key M) (at_or_before o z) (at_or_before m z) (at_or_before o m) true (earlier z o m))
    (and-true (is_key M && (at_or_before o m && at_or_before m z)))
by_state g z (S6 O o M m r) =
    rw
    (three (is_key M) (at_or_before o z) (at_or_before m z) (at_or_before r z) (at_or_before o m) (at_or_before m r) true
    (earlier z m r) (earlier z o m))
    (and-true (is_key M && (at_or_before o m && (at_or_before m r && at_or_before r z))))
by_state g z (S7 M m K k) =
    rw (two (is_key M && is_key K) (at_or_before m z) (at_or_before k z) (at_or_before m k) (is_pair g.pairs M K) (earlier z m k))
    (last_of_all (is_key M) (is_key K) (at_or_before m k && at_or_before k z) (is_pair g.pairs M K))
by_state g z (S8 M m K k r) =
    rw
    (three (is_key M && is_key K) (at_or_before m z) (at_or_before k z) (at_or_before r z) (at_or_before m k) (at_or_before k r)
    (is_pair g.pairs M K) (earlier z k r) (earlier z m k))
    (last_of_all (is_key M) (is_key K) (at_or_before m k && (at_or_before k r && at_or_before r z)) (is_pair g.pairs M K))

-- document 01's order of the tests, and that of `well_formed`
in_code : (range keys stamps last order held pair : Bool)
    → (range && keys && stamps && last && order && held && pair) ≡ (range && last && held && (keys && stamps && order && pair))
in_code false keys stamps last order held pair = refl
in_code true keys stamps false order held pair = rw (and-false (keys && stamps))
in_code true keys stamps true order false pair = rw (and-false (keys && stamps && true && order))
in_code true keys stamps true order true pair = rw (and-true (keys && stamps), and-true (keys && stamps && order))

pub well_formed_by_state : (g : Lent) (x : Machine)
    → well_formed g x
    ≡ (in_range x.settings
    && at_or_before x.last (at largest_stamp)
    && held_formed x.held
    && rests_well g.pairs x.last x.resting)
unfolding well_formed
well_formed_by_state g x =
    rw (← by_state g x.last x.resting)
    (in_code (in_range x.settings) (keys_below x.resting) (stamps_by x.last x.resting)
    (at_or_before x.last (at largest_stamp)) (in_order x.resting) (held_formed x.held) (pair_lent g x.resting))

-- T_s and N have no part in it
pub formed_by_list : (l : List ℕ) (t : Times) (x : Machine) → well_formed (of_list l) x ≡ well_formed (lent l t) x
formed_by_list l t x = well_formed_by_state (of_list l) x ∙ sym (well_formed_by_state (lent l t) x)
