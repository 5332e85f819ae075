-- The input that a kind and key name, kind by kind; where they are allowed it is document 01's.
use Prim.Native.Nat.{ℕ}
use mathlib.Core.Bool.{Bool, true, false}
use mathlib.Core.Option.{none, some, none-ne-some, some-injective}
use mathlib.Core.Path.{◌≡◌, refl, sym, ◌∙◌}
use borrow.Author.Tests.{ne_eqb}
use lib.Dec.{eqb}
use Rattle.choice.specs.Choice.{if◌then◌orelse◌}
use Rattle.rules.specs.States.{is_key}
use Rattle.rules.specs.GivenBack.{input}
use Rattle.rules.specs.Refusal.{kind_number}
use Rattle.rules.specs.declared.Key.{Key}
use Rattle.rules.specs.declared.Kind.{Kind}
use Rattle.rules.specs.declared.Kind.TheVariants as kinds
use Rattle.rules.specs.declared.Thumb.{Thumb}
use Rattle.rules.specs.declared.Thumb.TheVariants.{Left, Right}
use Rattle.rules.specs.declared.Input.{Input}
use Rattle.rules.specs.declared.Input.TheVariants.{CharacterDown, CharacterUp, ThumbDown, ThumbUp, FunctionDown, Tick}
use Rattle.states.specs.Meant.{thumb_of, meant, meant_by_number, MeantIsInput, MeantByNumberIsInput}

-- a kind and its number mean the same
pub by_number : (kind : Kind) (k : Key) → meant_by_number (kind_number kind) k ≡ meant kind k
unfolding meant_by_number
by_number kinds.CharacterDown k = refl
by_number kinds.CharacterUp k = refl
by_number kinds.ThumbDown k = refl
by_number kinds.ThumbUp k = refl
by_number kinds.FunctionDown k = refl
by_number kinds.Tick k = refl

-- a number that is no kind's means a tick
pub no_kind : (n : ℕ) (k : Key) → ((kind : Kind) → n ≡ kind_number kind → ⊥) → meant_by_number n k ≡ Tick
unfolding meant_by_number
no_kind n k other =
    rw (
      ne_eqb n 1 (other kinds.CharacterDown),
      ne_eqb n 2 (other kinds.CharacterUp),
      ne_eqb n 3 (other kinds.ThumbDown),
      ne_eqb n 4 (other kinds.ThumbUp),
      ne_eqb n 5 (other kinds.FunctionDown),
    )

-- a key that is allowed, and a thumb that is
one_way : (t : Bool) (a i : Input) → (if t then some a orelse none) ≡ some i → a ≡ i
one_way true a i e = some-injective a i e
one_way false a i e = absurd (none-ne-some i e)

two_ways : (f : Thumb → Input) (t u : Bool) (i : Input) → (if t then some (f Left) orelse (if u then some (f Right) orelse none)) ≡ some i
    → f (if t then Left orelse Right) ≡ i
two_ways f true u i e = some-injective (f Left) i e
two_ways f false u i e = one_way u (f Right) i e

-- the kinds in turn
module _ (k : Key) (i : Input) where
  by_kinds : (t1 t2 t3 t4 t5 t6 : Bool)
      → (if t1 then (if is_key k then some (CharacterDown k) orelse none) orelse
      if t2 then (if is_key k then some (CharacterUp k) orelse none) orelse
      if t3 then (if eqb k.0 0 then some (ThumbDown Left) orelse if eqb k.0 1 then some (ThumbDown Right) orelse none) orelse
      if t4 then (if eqb k.0 0 then some (ThumbUp Left) orelse if eqb k.0 1 then some (ThumbUp Right) orelse none) orelse
      if t5 then (if eqb k.0 0 then some FunctionDown orelse none) orelse
      if t6 then (if eqb k.0 0 then some Tick orelse none) orelse none) ≡ some i
      → (if t1 then CharacterDown k orelse if t2 then CharacterUp k orelse if t3 then ThumbDown (thumb_of k) orelse
      if t4 then ThumbUp (thumb_of k) orelse if t5 then FunctionDown orelse Tick) ≡ i
  by_kinds true t2 t3 t4 t5 t6 e = one_way (is_key k) _ i e
  by_kinds false true t3 t4 t5 t6 e = one_way (is_key k) _ i e
  by_kinds false false true t4 t5 t6 e = two_ways (λ t. ThumbDown t) (eqb k.0 0) (eqb k.0 1) i e
  by_kinds false false false true t5 t6 e = two_ways (λ t. ThumbUp t) (eqb k.0 0) (eqb k.0 1) i e
  by_kinds false false false false true t6 e = one_way (eqb k.0 0) _ i e
  by_kinds false false false false false true e = one_way (eqb k.0 0) _ i e
  by_kinds false false false false false false e = absurd (none-ne-some i e)

pub meant_by_number_is_input : MeantByNumberIsInput
unfolding input meant_by_number
meant_by_number_is_input kind k i e = by_kinds k i (eqb kind 1) (eqb kind 2) (eqb kind 3) (eqb kind 4) (eqb kind 5) (eqb kind 6) e

pub meant_is_input : MeantIsInput
meant_is_input kind k i e = sym (by_number kind k) ∙ meant_by_number_is_input (kind_number kind) k i e
