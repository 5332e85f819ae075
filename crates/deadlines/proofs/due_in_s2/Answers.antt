-- `deadlines::due_in_s2` meets its contract.
use borrow.Author.Rules.{rules}
use mathlib.Core.Path.{sym, ◌∙◌, ap}
use mathlib.Core.Bool.{not}
use Rattle.deadlines.proofs.Over.{over_alone, not_yet, in_a_pair, in_no_pair}
use Rattle.deadlines.proofs.due_in_s2.Goals as goal

pub returns-then-not-in_some_pair : goal.returns-then-not-in_some_pair
returns-then-not-in_some_pair c =
    over_alone _ (record { t = search rules; j = search rules; l = search rules }) _ _ (search rules) _ c.since-waited.ensures _ _
    (record { t_s = search rules; n = search rules }) _
    (ap not c.if-not-in_some_pair.true ∙
    in_no_pair _ _ _ _ (sym c.in_some_pair.ensures ∙ c.if-not-in_some_pair.true)
    (sym c.character_wait_below.ensures ∙ c.if-character_wait_below.true))

pub returns-else-not-in_some_pair : goal.returns-else-not-in_some_pair
returns-else-not-in_some_pair c =
    over_alone _ (record { t = search rules; j = search rules; l = search rules }) _ _ (search rules) _ c.since-waited.ensures _ _
    (record { t_s = search rules; n = search rules }) _
    (c.pair_wait_below.ensures ∙
    in_a_pair _ _ _ _ (sym c.in_some_pair.ensures ∙ c.if-not-in_some_pair.false)
    (sym c.character_wait_below.ensures ∙ c.if-character_wait_below.true))

pub returns-else-character_wait_below : goal.returns-else-character_wait_below
returns-else-character_wait_below c =
    over_alone _ (record { t = search rules; j = search rules; l = search rules }) _ _ (search rules) _ c.since-waited.ensures _ _
    (record { t_s = search rules; n = search rules }) _
    (c.if-character_wait_below.false ∙
    not_yet _ _ _ _ (sym c.character_wait_below.ensures ∙ c.if-character_wait_below.false))
