-- A keyboard that the C host drives: opening, one event and asking for the distance, each as the numbers that the host hands over
-- and gets. The numbers of a machine are `machine_numbers`'s. g is what is lent (9/12).
use Rattle.std.specs.Prelude.{ℕ, List, map, ℤ, pos, length, get_or}
use Rattle.std.proofs.Math.Option.{Option, none, some}
use Rattle.choice.specs.Choice.{if◌then◌orelse◌}
use Rattle.rules.specs.Layout.{code_point}
use Rattle.rules.specs.Pairs.{Lent, lent_good}
use Rattle.rules.specs.States.{Opening}
use Rattle.rules.specs.ZeroDelay.{mark_word}
use Rattle.rules.specs.GivenBack.{Answer, step}
use Rattle.rules.specs.Distance.{Asking, not_answered, asking}
use Rattle.rules.specs.declared.Stamp.{Stamp}
use Rattle.rules.specs.declared.Machine.{Machine}
use Rattle.rules.specs.declared.Item.{Item}
use Rattle.rules.specs.declared.Item.TheVariants.{Character, Mark, Together}
use Rattle.rules.specs.declared.Event.{Event}
use Rattle.pairs.specs.Lent.{lent}
use Rattle.preview.specs.Views.{packed_sendings}
use Rattle.preview.specs.declared.Sendings.{Sendings}
use Rattle.machine_numbers.specs.Fields.{in_numbers, named, numbers_of}
use Rattle.machine_numbers.specs.declared.MachineNumbers.{MachineNumbers}
use Rattle.keyboard.specs.declared.OpenAnswer.{OpenAnswer}
use Rattle.keyboard.specs.declared.StepAnswer.{StepAnswer}
use Rattle.keyboard.specs.declared.DistanceAnswer.{DistanceAnswer}
use Rattle.keyboard.specs.declared.Commits.{Commits}

-- Opening.

-- beside a refusal, zeros
abbrev pub open_numbers : Opening → OpenAnswer
open_numbers o = record { machine = numbers_of o.machine; number = o.number }

-- One event.

abbrev pub event_of : ℕ → ℕ → Stamp → Event
event_of kind key stamp = record { kind = kind; key = record { 0 = key }; stamp = stamp }

-- what is lent, from the numbers that the host hands over: the list, T_s and N
abbrev pub lent_of : List ℕ → ℕ → ℕ → Lent
lent_of pairs ts n = lent pairs (record { ts = ts; n = n })

-- an item as a word: a character's code point, 0 for an empty face; 1 for the left mark, 2 for the right one; a pair's own character
abbrev pub word_of : Item → ℕ
word_of (Character k f) = code_point k f
word_of (Mark O) = mark_word O
word_of (Together M K c) = c

-- how many items, and their words
abbrev pub words_of : List Item → Commits
words_of l = record { items = length l; first = get_or (map word_of l) 0 0; second = get_or (map word_of l) 1 0 }

abbrev pub answer_numbers : MachineNumbers → ℕ → Commits → Sendings → StepAnswer
answer_numbers f n c q =
    record {
      machine = f;
      number = n;
      items = c.items;
      first = c.first;
      second = c.second;
      backspaces = q.backspaces;
      sent_first = q.signs.first;
      sent_second = q.signs.second;
      sent_third = q.signs.third;
    }

-- an answer of document 01, what is sent in its packed form
abbrev pub answered_numbers : Answer → StepAnswer
answered_numbers a = answer_numbers (in_numbers a.machine) a.number (words_of a.items) (packed_sendings a.sendings)

-- refused: nothing committed, nothing sent, the numbers as given
abbrev pub refused_numbers : MachineNumbers → ℕ → StepAnswer
refused_numbers f n =
    record {
      machine = f;
      number = n;
      items = 0;
      first = 0;
      second = 0;
      backspaces = 0;
      sent_first = 0;
      sent_second = 0;
      sent_third = 0;
    }

-- numbers that name no machine are refused 2, but 12 comes first
abbrev pub no_machine_number : Lent → ℕ
no_machine_number g = if lent_good g then 2 orelse 12

abbrev pub step_named : Lent → MachineNumbers → Event → Option Machine → StepAnswer
step_named g f e none = refused_numbers f (no_machine_number g)
step_named g f e (some x) = answered_numbers (step g x e)

unfoldable pub step_numbers : Lent → MachineNumbers → Event → StepAnswer
step_numbers g f e = step_named g f e (named f)

-- Asking.

-- the number, whether there is a deadline, and the distance
abbrev pub told_numbers : ℕ → Option ℤ → DistanceAnswer
told_numbers n none = record { number = n; deadline = 0; milliseconds = pos 0 }
told_numbers n (some z) = record { number = n; deadline = 1; milliseconds = z }

abbrev pub asked_numbers : Asking → DistanceAnswer
asked_numbers a = told_numbers a.number a.distance

-- the same numbers
abbrev pub distance_named : Lent → Stamp → Option Machine → DistanceAnswer
distance_named g now none = asked_numbers (not_answered (no_machine_number g))
distance_named g now (some x) = asked_numbers (asking g x now)

unfoldable pub distance_numbers : Lent → MachineNumbers → Stamp → DistanceAnswer
distance_numbers g f now = distance_named g now (named f)
