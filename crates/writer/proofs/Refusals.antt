-- The writer's answer by its checks: what holds of each check's answer holds of the answer. And the numbers of refused characters.
use Prim.Native.Nat.{ℕ, suc, ◌*◌}
use mathlib.Core.Bool.{true}
use mathlib.Core.List.{List, [], ◌∷◌}
use mathlib.Core.Option.{Option, none, some}
use mathlib.Core.Path.{◌≡◌, refl}
use lib.Dec.{ltb}
use lib.ListN.{length}
use Rattle.rules.specs.Numbers.{largest_stamp, in_range}
use Rattle.rules.specs.declared.Settings.{Settings}
use Rattle.choice.proofs.Choices.{both_ways, by_test}
use Rattle.lookup.specs.Places.{Place, place_of}
use Rattle.lookup.proofs.PlaceFacts.{none_is_not_some}
use Rattle.writer.specs.Drills.{drill, Refused, check_character, first_of, first_refused, drilled, check_room, check_line, writing}
use Rattle.writer.specs.declared.Drilled.{Drilled}

-- settings out of range, a refused character, or the room
pub by_checks : (P : Drilled → Type 0) (s : Settings) (line : List ℕ) (room : ℕ)
    → P (drilled 1 0 0)
    → ((r : Refused) → first_refused 0 line ≡ some r → P (drilled r.number 0 r.position))
    → (in_range s ≡ true → first_refused 0 line ≡ none → P (check_room (length (drill s line)) room (length line)))
    → P (writing s line room)
unfolding writing
by_checks P s line room out_of_range refused all-fine =
    by_test P (in_range s) (λ i. by_first i (first_refused 0 line) refl) (λ _. out_of_range)
  where
    by_first : in_range s ≡ true → (o : Option Refused) → first_refused 0 line ≡ o
        → P (check_line (length (drill s line)) room (length line) o)
    by_first i none e = all-fine i e
    by_first i (some r) e = refused r e

-- what holds of 10 and of 4 holds of the number of a refused character
pub refused_number : (P : ℕ → Type 0) → P 10 → P 4 → (n : ℕ) (line : List ℕ) (r : Refused) → first_refused n line ≡ some r → P r.number
unfolding first_refused
refused_number P ten four n [] r = λ e. absurd (none_is_not_some e)
refused_number P ten four n (c ∷ cs) r = by_place (place_of c) (first_refused (suc n) cs) (refused_number P ten four (suc n) cs r)
  where
    is : (number : ℕ) → P number → some (record { number = number; position = n }) ≡ some r → P r.number
    is number p e = let same : r.number ≡ number = cc in rw same p

    by_place : (o : Option Place) (later : Option Refused) → (later ≡ some r → P r.number)
        → first_of (check_character n o) later ≡ some r
        → P r.number
    by_place none later l = is 10 ten
    by_place (some p) later l =
        both_ways (λ (o : Option Refused). first_of o later ≡ some r → P r.number) (ltb largest_stamp (250 * n)) (is 4 four) l
