-- What decisions in code say, as the definitions of the second opinion have it.
use Rattle.std.specs.Prelude.{List, [], ◌∷◌, Option, None, Some}
use Rattle.rules.specs.Sequences.{Press, press}
use Rattle.rules.specs.declared.Thumb.{Thumb}
use Rattle.rules.specs.declared.Item.{Item}
use Rattle.rules.specs.declared.Item.TheVariants.{Mark}
use Rattle.rules.specs.Items.{listed}
use Rattle.opinions.specs.Opinion as opinions
use Rattle.second_opinion.specs.Views.{ListFrom}
use Rattle.second_opinion.specs.declared.places.Heard.{Heard}
use Rattle.second_opinion.specs.declared.decisions.Set.{Set}
use Rattle.second_opinion.specs.declared.decisions.Set.TheVariants as set
use Rattle.second_opinion.specs.declared.decisions.Decision.{Decision}
use Rattle.second_opinion.specs.declared.decisions.Next.{Next}
use Rattle.second_opinion.specs.declared.decisions.Next.TheVariants as next

-- the letter that waits
abbrev pub waiting : Option Heard → List Press
waiting None = []
waiting (Some e) = press e.event.key e.event.stamp ∷ []

-- a mark that comes first
abbrev pub marks : Option Thumb → List Item
marks None = []
marks (Some O) = Mark O ∷ []

abbrev pub still_set : Set → opinions.Set
still_set set.Free = opinions.free
still_set (set.Thumb O) = opinions.thumb O.event
still_set (set.Given O) = opinions.given O.event

abbrev pub decided_by : ListFrom → List Item → Next → opinions.Decision
decided_by from items (next.Over w) = opinions.over items (waiting w)
decided_by from items (next.On h i) = opinions.on items (still_set h) (from i)

abbrev pub decided : ListFrom → Decision → opinions.Decision
decided from d = decided_by from (listed d.items) d.next
