-- A drill as a sequence of events, in the words of demand 3. The proof is proofs/DrillSequence.antt.
use Rattle.std.specs.Prelude.{ℕ, true, List, [], ◌≡◌}
use Rattle.std.proofs.Math.Option.{none}
use Rattle.rules.specs.Numbers.{in_range}
use Rattle.rules.specs.Pairs.{no_pairs}
use Rattle.rules.specs.Sequences.{waiting, state, line as committed_line}
use Rattle.rules.specs.declared.Settings.{Settings}
use Rattle.keylog.specs.LogSequence.{log_lent}
use Rattle.writer.specs.Drills.{line_events, drill, first_refused}

pub record DrillSequence (s : Settings) (line : List ℕ) : Type 0 where
  -- a drill is a log without a list (9/12)
  pub no_list : log_lent (drill s line) ≡ no_pairs
  -- so no pairs are lent with its events: from a fresh state they commit the line, and nothing waits behind them
  pub line_is : committed_line no_pairs s (line_events 0 line) ≡ line
  pub none_waits : waiting (state no_pairs s (line_events 0 line)).resting ≡ []

-- for all settings in range, and all lines of which no character is refused
abbrev pub DrillSequenceStatement : Type 0
DrillSequenceStatement = (s : Settings) (line : List ℕ) → in_range s ≡ true → first_refused 0 line ≡ none → DrillSequence s line
