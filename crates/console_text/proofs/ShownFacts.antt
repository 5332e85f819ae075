-- The lines of each keyboard, from what the console's log says of it.
use Prim.Native.Nat.{ℕ}
use native.Mathlib.Omega.{arith}
use borrow.Author.Tests.{ne_eqb}
use mathlib.Core.List.{List, ◌++◌}
use mathlib.Core.Logic.{◌≢◌}
use mathlib.Core.Path.{◌≡◌, refl, ap, ◌∙◌}
use lib.Count.{ones_in}
use Rattle.rules.specs.Numbers.{in_range, up, A, B, FJ, FL}
use Rattle.rules.specs.Layout.{table, code_point}
use Rattle.rules.specs.Held.{is_held, hold, release, how_many, held_formed}
use Rattle.rules.specs.Pairs.{names, is_of, pair_of, none_twice, is_pair_character, pair_good, each_good, in_some_pair, lent_good}
use Rattle.rules.specs.Pairs.{GN, P, alone}
use Rattle.rules.specs.States.{well_formed, opening}
use Rattle.rules.specs.OneEvent.{mark, same_thumb, same_key, second_character_takes_thumb, second_thumb_takes_character}
use Rattle.rules.specs.OneEvent.{short_overlap, pair_stays, short_pair, short_of, settle_in, settle, one_event}
use Rattle.rules.specs.ZeroDelay.{character, sent}
use Rattle.rules.specs.GivenBack.{input, is_new, judge, step_with, step}
use Rattle.row.specs.Row.{keyboard, step_at}
use Rattle.text.specs.Utf8.{utf8}
use Rattle.text.specs.Text.{sign, text}
use Rattle.status_line.specs.Decimal.{decimal}
use Rattle.status_line.specs.Status.{status}
use Rattle.keylog.specs.Records.{stated, is_settings, settings, is_event, event, is_list, list}
use Rattle.keylog.specs.Walk.{walk}
use Rattle.console_log.specs.ConsoleLog.{names_keyboard, inner_settings, inner_event, at_closed, at_open, at_board, in_front, behind_front}
use Rattle.console_log.specs.ConsoleLog.{by_record, read_record, stage_of, line_in, waiting_at, read}
use Rattle.console_log.specs.OwnLogs.{OwnLog}
use Rattle.console_log.specs.declared.Stage.{Stage}
use Rattle.console_log.specs.declared.Stage.TheVariants.{Open, Ended}
use Rattle.console_log.proofs.ConsoleRoom.{room_for_console}
use Rattle.console_log.proofs.OwnLogs.{own_logs}
use Rattle.console_log.proofs.EndedSeats.{ended_seats}
use Rattle.console_text.specs.Sheet.{label, first_line, second_line, two_lines, lines_of, board_lines, refusal_line, console_lines}
use Rattle.console_text.specs.Shows.{word_room}
use Rattle.console_text.specs.ShownFacts.{Never8, own_reading, OwnLinesStatement, ShownExamples}

pub never_8 : Never8
never_8 l h = room_for_console word_room l (omega arith)

-- behind a number that is not 0 nothing is told of what waits
no_waiting : (k n w v at : ℕ) → n ≢ 0 → second_line k n w at ≡ second_line k n v at
unfolding second_line status
no_waiting k n w v at h = rw (ne_eqb n 0 h)

pub own_lines : OwnLinesStatement
own_lines l k short below =
    record {
      not_named = λ h. ap (lines_of k (line_in k (read word_room l).words) (waiting_at (read word_room l) k)) (own.not_named.1 h);
      accepted = λ h. by Open h ∙ ap (λ (w : ℕ). two_lines k (own_reading l k).words 0 w 0) own.same_waiting;
      refused = λ n at h.
          by (Ended n at) h
          ∙ ap (λ (s : List ℕ). first_line k (own_reading l k).words ++ s)
          (no_waiting k n (waiting_at (read word_room l) k) 0 at (ended_seats.ended word_room l k n at h).not_0);
    }
  where
    own : OwnLog word_room word_room l k
    own = own_logs word_room word_room l k below (omega arith) (never_8 l short)

    by : (s : Stage) → stage_of (read word_room l) k ≡ s
        → board_lines (read word_room l) k ≡ lines_of k (own_reading l k).words (waiting_at (read word_room l) k) s
    by s h = rw (h, own.same_line)

pub shown_examples : ShownExamples
unfolding in_range up A B FJ FL table code_point is_held hold release how_many held_formed ones_in well_formed opening mark same_thumb
    same_key second_character_takes_thumb second_thumb_takes_character short_overlap pair_stays short_pair short_of settle settle_in
    in_some_pair GN P alone one_event character sent input is_new judge step step_with stated is_settings settings is_event event
    is_list list lent_good none_twice each_good pair_good is_pair_character pair_of is_of names walk keyboard step_at names_keyboard
    inner_settings inner_event at_closed at_open at_board in_front behind_front by_record read_record read utf8 sign text decimal status
    label first_line second_line refusal_line console_lines
shown_examples = record { two_keyboards = refl; whole_log = refl }
