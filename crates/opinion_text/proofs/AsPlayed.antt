-- `opinion` prints what `play` prints.
use Prim.Native.Nat.{◌≤◌}
use native.Mathlib.Omega.{arith}
use borrow.Author.Tests.{le-leb}
use mathlib.Core.Path.{◌≡◌}
use lib.ListN.{length}
use Rattle.keylog.specs.Reader.{read}
use Rattle.log_opinions.specs.OfLog.{on_log, opined}
use Rattle.log_opinions.specs.SameAsReader.{as_read}
use Rattle.log_opinions.proofs.SameAsReader.{same_as_reader}
use Rattle.play_text.specs.Printed.{closing, printed}
use Rattle.opinion_text.specs.Verdict.{lines}
use Rattle.opinion_text.specs.AsPlayed.{AsPlayed}

pub as_played : AsPlayed
unfolding printed closing lines opined
as_played l none short =
    let facts = same_as_reader (length l) l in
    let few : length (on_log l).words ≤ length l = omega (arith, facts.words_length) in
    let x : on_log l ≡ as_read (read (length l) l) = rw (le-leb (length (on_log l).words) (length l) few) at (facts.same none few) in
    rw x
