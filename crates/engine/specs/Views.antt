-- What the answers of this crate say.
use Rattle.std.specs.Prelude.{ℕ, List, [], ◌≡◌, eqb, Result, Ok, Err}
use Rattle.choice.specs.Choice.{if◌then◌orelse◌}
use Rattle.rules.specs.Numbers.{keys}
use Rattle.rules.specs.OneEvent.{Done}
use Rattle.rules.specs.GivenBack as given_back
use Rattle.rules.specs.GivenBack.{Answer, Verdict, refusal, acceptance}
use Rattle.rules.specs.Refusal.{number_of}
use Rattle.rules.specs.declared.Stamp.{Stamp}
use Rattle.rules.specs.declared.Key.{Key}
use Rattle.rules.specs.declared.Machine.{Machine}
use Rattle.rules.specs.declared.Item.{Item}
use Rattle.rules.specs.declared.Kind.{Kind}
use Rattle.rules.specs.declared.Refusal.{Refusal}
use Rattle.rules.specs.Items.{listed}
use Rattle.preview.specs.Views.{sending_list, packed_sendings}
use Rattle.preview.specs.declared.Sendings.{Sendings}
use Rattle.states.specs.Meant.{meant}
use Rattle.engine.specs.declared.Stepped.{Stepped}
use Rattle.engine.specs.declared.Taken.{Taken}

-- how many keys an event of a kind may name (`input` in rules/specs/GivenBack.antt): 31 character keys, two thumbs, and the number 0
abbrev pub keys_of : ℕ → ℕ
keys_of kind =
    if eqb kind 1 then keys orelse
    if eqb kind 2 then keys orelse
    if eqb kind 3 then 2 orelse
    if eqb kind 4 then 2 orelse
    if eqb kind 5 then 1 orelse
    if eqb kind 6 then 1 orelse 0

-- the verdict on an event of a key: accepted as what a kind means, or refused with a number
abbrev pub judged : Key → Result Kind Refusal → Verdict
judged k (Ok kind) = given_back.accepted (meant kind k)
judged k (Err e) = given_back.refused (number_of e)

-- the number, the items and the sendings as lists, and the machine; a refused event hands the machine m back as given
abbrev pub stepped : Machine → Result Stepped Refusal → Answer
stepped m (Ok r) =
    record {
      number = 0;
      items = listed r.items;
      sendings = sending_list r.sendings;
      machine = r.machine;
    }
stepped m (Err e) = refusal m (number_of e)

-- what is sent, in its packed form: nothing by a refused event
abbrev pub sent_by : Result Stepped Refusal → Sendings
sent_by (Ok r) = r.sendings
sent_by (Err e) = packed_sendings []

-- What is given back of an event at the machine m is an answer, and in one form only: the number, the machine and the items by the
-- answer itself, the sendings by their packed form.
pub record Gives (m : Machine) (r : Result Stepped Refusal) (a : Answer) : Type 0 where
  pub answer : stepped m r ≡ a
  pub packed : sent_by r ≡ packed_sendings a.sendings

-- the items of an accepted event, and the machine after it, with the keys of h held
pub record Changes (r : Taken) (m : Machine) (now : Stamp) (h : ℕ) (d : Done) : Type 0 where
  pub same_items : listed r.items ≡ d.items
  pub same_machine : r.machine ≡ (acceptance m now h d).machine

-- an answer apart from what is sent: refused with a number, or the items and the machine
pub data Kept : Type 0 where
  refused : ℕ → Kept
  accepted : List Item → Machine → Kept

abbrev pub apart_from_sent : Answer → Kept
apart_from_sent a = if eqb a.number 0 then accepted a.items a.machine orelse refused a.number

abbrev pub taken : Result Taken Refusal → Kept
taken (Ok r) = accepted (listed r.items) r.machine
taken (Err e) = refused (number_of e)
