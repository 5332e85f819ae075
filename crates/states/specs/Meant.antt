-- The input that an event's kind and key name. Where they are allowed it is document 01's (`input` in rules/specs/GivenBack.antt);
-- any other thumb counts as the right one, and any other kind as a tick (proofs/Meant.antt).
use Rattle.std.specs.Prelude.{ℕ, ◌≡◌, eqb}
use Rattle.std.proofs.Math.Option.{some}
use Rattle.choice.specs.Choice.{if◌then◌orelse◌}
use Rattle.rules.specs.GivenBack.{input}
use Rattle.rules.specs.Refusal.{kind_number}
use Rattle.rules.specs.declared.Key.{Key}
use Rattle.rules.specs.declared.Kind.{Kind}
use Rattle.rules.specs.declared.Kind.TheVariants as kinds
use Rattle.rules.specs.declared.Thumb.{Thumb}
use Rattle.rules.specs.declared.Thumb.TheVariants.{Left, Right}
use Rattle.rules.specs.declared.Input.{Input}
use Rattle.rules.specs.declared.Input.TheVariants.{CharacterDown, CharacterUp, ThumbDown, ThumbUp, FunctionDown, Tick}

-- 0 is the left thumb
abbrev pub thumb_of : Key → Thumb
thumb_of k = if eqb k.0 0 then Left orelse Right

abbrev pub meant : Kind → Key → Input
meant kinds.CharacterDown k = CharacterDown k
meant kinds.CharacterUp k = CharacterUp k
meant kinds.ThumbDown k = ThumbDown (thumb_of k)
meant kinds.ThumbUp k = ThumbUp (thumb_of k)
meant kinds.FunctionDown k = FunctionDown
meant kinds.Tick k = Tick

-- the same of the number of a kind
unfoldable pub meant_by_number : ℕ → Key → Input
meant_by_number kind k =
    if eqb kind 1 then CharacterDown k orelse
    if eqb kind 2 then CharacterUp k orelse
    if eqb kind 3 then ThumbDown (thumb_of k) orelse
    if eqb kind 4 then ThumbUp (thumb_of k) orelse
    if eqb kind 5 then FunctionDown orelse Tick

-- where they are allowed
abbrev pub MeantIsInput : Type 0
MeantIsInput = (kind : Kind) (k : Key) (i : Input) → input (kind_number kind) k ≡ some i → meant kind k ≡ i

abbrev pub MeantByNumberIsInput : Type 0
MeantByNumberIsInput = (kind : ℕ) (k : Key) (i : Input) → input kind k ≡ some i → meant_by_number kind k ≡ i
