-- T_s and N have no part in a late line, in S2 and in S8: there the list alone decides, whatever is lent with it.
use Prim.Native.Nat.{ℕ}
use mathlib.Core.List.{List}
use mathlib.Core.Path.{◌≡◌, refl}
use Rattle.rules.specs.OneEvent.{late, in_S2, in_S8}
use Rattle.rules.specs.declared.Stamp.{Stamp}
use Rattle.rules.specs.declared.Key.{Key}
use Rattle.rules.specs.declared.Settings.{Settings}
use Rattle.rules.specs.declared.Resting.{Resting}
use Rattle.rules.specs.declared.Resting.TheVariants.{S1, S2, S3, S4, S5, S6, S7, S8}
use Rattle.rules.specs.declared.Input.{Input}
use Rattle.rules.specs.declared.Input.TheVariants.{CharacterDown, CharacterUp, ThumbDown, ThumbUp, FunctionDown, Tick}
use Rattle.pairs.specs.Lent.{of_list, lent}
use Rattle.pairs.specs.declared.Times.{Times}

pub late_by_list : (l : List ℕ) (t : Times) (s : Settings) (x : Resting) → late (of_list l) s x ≡ late (lent l t) s x
late_by_list l t s S1 = refl
late_by_list l t s (S2 M m) = refl
late_by_list l t s (S3 O o) = refl
late_by_list l t s (S4 M m O o) = refl
late_by_list l t s (S5 O o M m) = refl
late_by_list l t s (S6 O o M m r) = refl
late_by_list l t s (S7 M m K k) = refl
late_by_list l t s (S8 M m K k r) = refl

module _ (l : List ℕ) (t : Times) (now : Stamp) (M : Key) (m : Stamp) where
  pub in_S2_by_list : (i : Input) → in_S2 (of_list l) now M m i ≡ in_S2 (lent l t) now M m i
  in_S2_by_list (CharacterDown N) = refl
  in_S2_by_list (CharacterUp N) = refl
  in_S2_by_list (ThumbDown P) = refl
  in_S2_by_list (ThumbUp P) = refl
  in_S2_by_list FunctionDown = refl
  in_S2_by_list Tick = refl

  module _ (s : Settings) (K : Key) (k r : Stamp) where
    pub in_S8_by_list : (i : Input) → in_S8 (of_list l) s now M m K k r i ≡ in_S8 (lent l t) s now M m K k r i
    in_S8_by_list (CharacterDown N) = refl
    in_S8_by_list (CharacterUp N) = refl
    in_S8_by_list (ThumbDown P) = refl
    in_S8_by_list (ThumbUp P) = refl
    in_S8_by_list FunctionDown = refl
    in_S8_by_list Tick = refl
