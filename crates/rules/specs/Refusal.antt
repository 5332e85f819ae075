-- Document 01, "Numbers given back": the number of each refusal, and the kinds of events.
use Rattle.std.specs.Prelude.{ℕ, ◌≡◌, ⊤, Result, Ok, Err}
use Rattle.rules.specs.declared.Refusal.{Refusal}
use Rattle.rules.specs.declared.Refusal.TheVariants.{SettingsOutOfRange, NotWellFormed, KeyNotAllowed, AboveLargest, BeforeLast, Cut, WrongRecord, NoRoom, TooLong, OnNoFace, TooManyHeld, ListNotGood, NoKeyboard, ListInOpinion}
use Rattle.rules.specs.declared.Kind.{Kind}
use Rattle.rules.specs.declared.Kind.TheVariants as kinds

abbrev pub number_of : Refusal → ℕ
number_of SettingsOutOfRange = 1
number_of NotWellFormed = 2
number_of KeyNotAllowed = 3
number_of AboveLargest = 4
number_of BeforeLast = 5
number_of Cut = 6
number_of WrongRecord = 7
number_of NoRoom = 8
number_of TooLong = 9
number_of OnNoFace = 10
number_of TooManyHeld = 11
number_of ListNotGood = 12
number_of NoKeyboard = 13
number_of ListInOpinion = 14

-- the number by which a record names a kind
abbrev pub kind_number : Kind → ℕ
kind_number kinds.CharacterDown = 1
kind_number kinds.CharacterUp = 2
kind_number kinds.ThumbDown = 3
kind_number kinds.ThumbUp = 4
kind_number kinds.FunctionDown = 5
kind_number kinds.Tick = 6

-- a number is a kind's, or none of them
abbrev pub KindOf : ℕ → Result Kind Refusal → Type 0
KindOf n (Ok k) = n ≡ kind_number k
KindOf n (Err e) = (e ≡ KeyNotAllowed) × ((k : Kind) → ¬ (n ≡ kind_number k))
