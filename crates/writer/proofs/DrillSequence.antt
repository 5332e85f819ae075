-- A drill has no list, and its events commit the line.
use Prim.Native.Nat.{ℕ}
use native.Mathlib.Omega.{arith}
use mathlib.Core.List.{List, [], ◌∷◌, ◌++◌, append_assoc, append-nil, foldl}
use mathlib.Core.Path.{◌≡◌, refl, sym, ◌∙◌, ap}
use lib.ListN.{length}
use Rattle.rules.specs.Pairs.{no_pairs}
use Rattle.rules.specs.Sequences.{waiting}
use Rattle.rules.specs.ZeroDelay.{signs}
use Rattle.rules.specs.declared.Settings.{Settings}
use Rattle.rules.specs.declared.Machine.{Machine}
use Rattle.rules.specs.declared.Event.{Event}
use Rattle.keylog.specs.Records.{stated, is_list}
use Rattle.keylog.specs.Walk.{Place, walk}
use Rattle.keylog.specs.LogRecords.{and_record, cut_up, records_of}
use Rattle.keylog.specs.LogSequence.{lent_behind, lent_of, log_lent}
use Rattle.keylog.proofs.Walking.{walk_records}
use Rattle.writer.specs.Drills.{settings_record, event_record, event_records, line_events, drill}
use Rattle.writer.specs.DrillSequence.{DrillSequenceStatement}
use Rattle.writer.proofs.Bytes.{event_is_whole, settings_are_whole}
use Rattle.writer.proofs.Read.{record_stepped}
use Rattle.writer.proofs.Played.{chain_leaves, chain_commits}
use Rattle.writer.proofs.RoundTrip.{line_plays}

all_kept : (rs more : List (List ℕ)) → foldl and_record rs more ≡ rs ++ more
all_kept rs [] = sym (append-nil rs)
all_kept rs (r ∷ more) = all_kept (and_record rs r) more ∙ append_assoc rs (r ∷ []) more

-- the records of a log with a whole record at its front
records_behind : (r more : List ℕ) → length r ≡ stated r → records_of (r ++ more) ≡ r ∷ records_of more
unfolding cut_up
records_behind r more h =
    ap (λ (w : Place (List (List ℕ))). w.state)
    (record_stepped and_record [] r more h ∙ walk_records and_record (r ∷ []) more)
    ∙ all_kept (r ∷ []) (records_of more)

none_lent : (es : List Event) → lent_behind (records_of (event_records es)) ≡ no_pairs
unfolding cut_up walk is_list
none_lent [] = refl
none_lent (e ∷ es) = ap lent_behind (records_behind (event_record e) (event_records es) (event_is_whole e))

drill_lends : (s : Settings) (line : List ℕ) → log_lent (drill s line) ≡ no_pairs
unfolding drill
drill_lends s line =
    ap lent_of (records_behind (settings_record s) (event_records (line_events 0 line)) (settings_are_whole s))
    ∙ none_lent (line_events 0 line)

pub drill_sequence : DrillSequenceStatement
drill_sequence s line r a =
    let plays = line_plays s r line 0 (record { 0 = 0 }) (omega arith) a in
    record {
      no_list = drill_lends s line;
      line_is = ap signs (chain_commits plays.chain) ∙ plays.signs_are;
      none_waits = ap (λ (m : Machine). waiting m.resting) (chain_leaves plays.chain);
    }
