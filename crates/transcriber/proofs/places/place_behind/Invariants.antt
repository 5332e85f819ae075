-- The place behind the bytes so far; a line, and a line's bytes, are no more than those.
use Rattle.std.proofs.Common.{◌+◌, ◌≤◌, ◌≡◌, take, fold}
use Rattle.transcriber.specs.Places as places
use Rattle.transcriber.proofs.places.place_behind.Given as goal

abbrev pub invariant-loop-b : goal.invariant-loop-b
invariant-loop-b l =
    (l.place ≡ fold places.moved places.first (take l.b-index l.text)) × (l.place.line ≤ l.b-index + 1)
    × (l.place.column ≤ l.b-index + 1)
