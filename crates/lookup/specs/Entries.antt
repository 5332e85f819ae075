-- An entry of the code's table: a place of the layout as one number, 0 for none.
use Rattle.std.specs.Prelude.{ℕ, ◌+◌, ◌*◌, ◌/◌, ◌%◌, eqb}
use Rattle.std.proofs.Math.Option.{Option, none, some}
use Rattle.choice.specs.Choice.{if◌then◌orelse◌}
use Rattle.rules.specs.declared.Thumb.TheVariants.{Left, Right}
use Rattle.rules.specs.declared.Face.{Face}
use Rattle.rules.specs.declared.Face.TheVariants.{Plain, With}
use Rattle.lookup.specs.Places.{Place, place}

abbrev pub face_number : Face → ℕ
face_number Plain = 1
face_number (With Left) = 2
face_number (With Right) = 3

abbrev pub entry_of : Option Place → ℕ
entry_of none = 0
entry_of (some p) = 32 * face_number p.face + p.key.0

unfoldable pub place_at : ℕ → Option Place
place_at n =
    if eqb (n / 32) 1 then some (place (n % 32) Plain) orelse
    if eqb (n / 32) 2 then some (place (n % 32) (With Left)) orelse
    if eqb (n / 32) 3 then some (place (n % 32) (With Right)) orelse none
