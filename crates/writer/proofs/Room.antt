-- A run of 8 bytes and 65 for each character of the line always suffices.
use Prim.Native.Nat.{ℕ, ◌≤◌}
use native.Mathlib.Omega.{arith}
use borrow.Author.Tests.{le-leb}
use mathlib.Core.List.{List}
use mathlib.Core.Logic.{◌≢◌}
use mathlib.Core.Option.{none}
use mathlib.Core.Path.{◌≡◌}
use lib.ListN.{length}
use Rattle.rules.specs.declared.Settings.{Settings}
use Rattle.writer.specs.Drills.{drill, first_refused, writing}
use Rattle.writer.specs.Room.{most_bytes, RoomSuffices}
use Rattle.writer.proofs.Refusals.{by_checks, refused_number}
use Rattle.writer.proofs.Lines.{few_bytes}
use Rattle.writer.proofs.Answers.{drill_length}

-- room is asked for only where no character is refused
pub enough_room : (s : Settings) (line : List ℕ) (room : ℕ) → (first_refused 0 line ≡ none → most_bytes line ≤ room)
    → (writing s line room).number ≢ 8
enough_room s line room enough =
    by_checks (λ d. d.number ≢ 8) s line room
    (λ z. omega arith)
    (refused_number (λ n. n ≢ 8) (λ z. omega arith) (λ z. omega arith) 0 line)
    (λ _ fine.
    let fits : length (drill s line) ≤ room = omega (arith, drill_length s line, few_bytes 0 line, enough fine) in
    rw (le-leb (length (drill s line)) room fits) (λ z. omega arith))

pub room_suffices : RoomSuffices
room_suffices s line room h = enough_room s line room (λ _. h)
