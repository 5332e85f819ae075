-- What the loops over decisions answer: the words of all decisions, counted and written, and how many characters wait.
use Rattle.std.specs.Prelude.{ℕ, suc, ◌*◌, ◌<◌, List, [], ◌++◌, ◌≡◌, length, Option, None, Some}
use Rattle.rules.specs.ZeroDelay.{signs}
use Rattle.rules.specs.Sequences.{Press}
use Rattle.rules.specs.declared.Settings.{Settings}
use Rattle.keylog.specs.Runs.{high_first, encoded}
use Rattle.rules.specs.Items.{listed}
use Rattle.rules.specs.declared.Few.{Few}
use Rattle.opinions.specs.Opinion as opinions
use Rattle.opinions.specs.Opinion.{Told, told, free}
use Rattle.second_opinion.specs.Places.{from_place}
use Rattle.second_opinion.specs.Views.{from}
use Rattle.second_opinion.specs.Decided.{waiting, still_set}
use Rattle.second_opinion.specs.declared.decisions.Next.{Next}
use Rattle.second_opinion.specs.declared.decisions.Next.TheVariants as next
use Rattle.second_opinion.specs.declared.due_stamps.Opened.{Opened}
use Rattle.second_opinion.specs.declared.telling.Total.{Total}
use Rattle.second_opinion.specs.declared.telling.Telling.{Telling}

-- what is told of n events
abbrev pub told_of : Settings → List ℕ → ℕ → Told
told_of s bytes n = opinions.from s (suc (2 * n)) free (from_place bytes n 0)

abbrev pub told_in : Opened → Told
told_in o = told_of o.settings o.events.bytes.now o.events.n

abbrev pub words_of : Opened → List ℕ
words_of o = signs (told_in o).items

-- words as a run of bytes has them: two bytes a word, the high one first
abbrev pub packed : List ℕ → List ℕ
packed words = encoded high_first words

pub record Counts (o : Opened) (r : Total) : Type 0 where
  pub words : r.words ≡ length (words_of o)
  pub waiting : r.waiting ≡ length (told_in o).waiting

-- what is left to tell
abbrev pub untold_by : Opened → ℕ → Next → Told
untold_by o left (next.Over w) = told [] (waiting w)
untold_by o left (next.On h i) = opinions.from o.settings left (still_set h) (from o.events i)

abbrev pub untold : Telling → Told
untold t = untold_by t.opened t.left t.next

-- what waits at the end
abbrev pub waits : Next → List Press
waits (next.Over w) = waiting w
waits (next.On h i) = []

-- the next decision's words are told
pub record More (before after : Telling) (words : List ℕ) : Type 0 where
  pub words_told : signs (untold before).items ≡ words ++ signs (untold after).items
  pub waiting_told : (untold before).waiting ≡ (untold after).waiting
  pub fewer : after.left < before.left

-- the words of the next decision; or all has been told
abbrev pub Tells : Telling → Option (Few ℕ) → Telling → Type 0
Tells before None after = untold before ≡ told [] (waits after.next)
Tells before (Some words) after = More before after (listed words)
