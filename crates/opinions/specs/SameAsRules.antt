-- Document 02, 11/12, for sequences of events: with held keys and with an empty pair list the second opinion says what the rules commit.
-- The proof is proofs/SameAsRules.antt.
use Rattle.std.specs.Prelude.{ℕ, true, List, [], reverse, ◌≡◌}
use Rattle.rules.specs.Numbers.{in_range}
use Rattle.rules.specs.Pairs.{Lent, lent_good}
use Rattle.rules.specs.GivenBack.{step}
use Rattle.rules.specs.Sequences.{waiting, state, items, accepted_events}
use Rattle.rules.specs.declared.Settings.{Settings}
use Rattle.rules.specs.declared.Event.{Event}
use Rattle.opinions.specs.Earlier.{number_after, accepted}
use Rattle.opinions.specs.Opinion.{told, opinion}

-- of what is lent, settings s and a sequence es, refused events among it
pub record SameAsRules (g : Lent) (s : Settings) (es : List Event) : Type 0 where
  -- the same events are accepted
  pub same_events : accepted [] es ≡ accepted_events g s es
  -- every event that comes then is given the same number
  pub same_number : (e : Event) → number_after (reverse (accepted [] es)) e ≡ (step g (state g s es) e).number
  -- the accepted ones commit the same items, and the same press waits
  pub same_told : opinion s (accepted_events g s es) ≡ told (items g s es) (waiting (state g s es).resting)

-- the statement: with an accepted list of no pairs, and settings in range
abbrev pub SameAsRulesStatement : Type 0
SameAsRulesStatement =
    (t_s n : ℕ) → lent_good (record { pairs = []; t_s = t_s; n = n }) ≡ true → (s : Settings) → in_range s ≡ true
    → (es : List Event) → SameAsRules (record { pairs = []; t_s = t_s; n = n }) s es
