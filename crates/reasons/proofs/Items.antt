-- The reasons' items are the items that are committed, and the line that a cause names commits them.
use mathlib.Core.Bool.{Bool, true, false}
use mathlib.Core.List.{List, [], ◌∷◌, ◌++◌, map}
use mathlib.Core.Path.{◌≡◌, refl, ap, ◌∙◌}
use Rattle.choice.specs.Choice.{if◌then◌orelse◌}
use Rattle.rules.specs.Pairs.{Lent, lent_good}
use Rattle.rules.specs.States.{deadline, fresh}
use Rattle.rules.specs.OneEvent.{Done, late as late_line, act, due_by, one_event, and_then}
use Rattle.rules.specs.GivenBack.{Verdict, refused, accepted, judge, refusal, answer, step_with, step}
use Rattle.rules.specs.Sequences.{along, items_in}
use Rattle.rules.specs.declared.Stamp.{Stamp}
use Rattle.rules.specs.declared.Settings.{Settings}
use Rattle.rules.specs.declared.Resting.{Resting}
use Rattle.rules.specs.declared.Resting.TheVariants.{S1, S2, S3, S4, S5, S6, S7, S8}
use Rattle.rules.specs.declared.Machine.{Machine}
use Rattle.rules.specs.declared.Item.{Item}
use Rattle.rules.specs.declared.Event.{Event}
use Rattle.rules.specs.declared.Input.{Input}
use Rattle.rules.specs.declared.Input.TheVariants.{Tick}
use Rattle.rules.proofs.Late.{late_and_event}
use Rattle.rules.proofs.Ticks.{settle_due, settle_not_due}
use Rattle.reasons.specs.Reason.{late, by, Reason, Reasoned, with_reason, reasoned_if, step_reasons, reasons_in}
use Rattle.reasons.specs.ReasonFacts.{item_of, SameItems, SameItemsAlong, commits, TrueCause}

items_with : (r : Reason) (l : List Item) → map item_of (map (with_reason r) l) ≡ l
items_with r [] = refl
items_with r (c ∷ l) = ap (λ k. c ∷ k) (items_with r l)

items_if : (g : Lent) (m : Machine) (now : Stamp) (v : Verdict) → map item_of (reasoned_if g m now v) ≡ (answer g m now v).items
items_if g m now (refused n) = refl
items_if g m now (accepted i) = items_with _ _

pub same_items : (g : Lent) (m : Machine) (e : Event) → SameItems g m e
unfolding step_reasons step step_with
same_items g m e = go (lent_good g)
  where
    go : (t : Bool) → map item_of (if t then reasoned_if g m e.stamp (judge g m e) orelse [])
        ≡ (if t then answer g m e.stamp (judge g m e) orelse refusal m 12).items
    go true = items_if g m e.stamp (judge g m e)
    go false = refl

map_append : (a b : List Reasoned) → map item_of (a ++ b) ≡ map item_of a ++ map item_of b
map_append [] b = refl
map_append (c ∷ a) b = ap (λ k. c.item ∷ k) (map_append a b)

along_items : (g : Lent) (m : Machine) (es : List Event) → map item_of (along g (reasons_in g) m es) ≡ along g items_in m es
along_items g m [] = refl
along_items g m (e ∷ es) =
    map_append (step_reasons g m e) _ ∙ rw (same_items g m e, along_items g (step g m e).machine es)

pub same_items_along : (g : Lent) (s : Settings) (es : List Event) → SameItemsAlong g s es
same_items_along g s es = along_items g (fresh s) es

-- what is late comes first, and the event then commits nothing; or nothing is late
pub when_late : (g : Lent) (s : Settings) (now : Stamp) (x : Resting) (i : Input) → due_by now (deadline g s x) ≡ true
    → one_event g s now x i ≡ and_then (late_line g s x) (λ y. act g s now y i)
unfolding one_event
when_late g s now x i h = rw (settle_due g s now x h)

pub when_in_time : (g : Lent) (s : Settings) (now : Stamp) (x : Resting) (i : Input) → due_by now (deadline g s x) ≡ false
    → one_event g s now x i ≡ act g s now x i
unfolding one_event
when_in_time g s now x i h = rw (settle_not_due g s now x h)

no_tick : (g : Lent) (s : Settings) (now : Stamp) (x : Resting) → (act g s now x Tick).items ≡ []
no_tick g s now S1 = refl
no_tick g s now (S2 M m) = refl
no_tick g s now (S3 O o) = refl
no_tick g s now (S4 M m O o) = refl
no_tick g s now (S5 O o M m) = refl
no_tick g s now (S6 O o M m r) = refl
no_tick g s now (S7 M m K k) = refl
no_tick g s now (S8 M m K k r) = refl

pub true_cause : (g : Lent) (s : Settings) (now : Stamp) (x : Resting) (i : Input) → TrueCause g s now x i
true_cause g s now x i = record { commits_it = go (due_by now (deadline g s x)) refl; not_by_tick = no_tick g s now x }
  where
    go : (t : Bool) → due_by now (deadline g s x) ≡ t → (one_event g s now x i).items ≡ commits g s now x (if t then late orelse by i)
    go true h = ap (λ (d : Done). d.items) (when_late g s now x i h ∙ late_and_event g s now x i)
    go false h = ap (λ (d : Done). d.items) (when_in_time g s now x i h)
