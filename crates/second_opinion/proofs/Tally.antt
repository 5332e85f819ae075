-- Decision after decision: what is left to tell from here, beside the words so far, is the whole.
use Rattle.std.proofs.Common.{◌≡◌, ℕ, zero, suc, ◌+◌, ◌-◌, ◌*◌, ◌≤◌, List, [], ◌++◌, append-nil, refl, sym, ap, ◌∙◌, arith, length, take, drop, length-append, add-zero}
use Rattle.std.proofs.lemmas.List.{take-append-drop}
use Rattle.rules.specs.ZeroDelay.{signs}
use Rattle.rules.specs.Sequences.{Press}
use Rattle.rules.specs.declared.Settings.{Settings}
use Rattle.rules.specs.declared.Event.{Event}
use Rattle.rules.specs.Items.{listed}
use Rattle.opinions.specs.Opinion as opinions
use Rattle.opinions.specs.Opinion.{Told, told, tell}
use Rattle.second_opinion.specs.Views.{from}
use Rattle.second_opinion.specs.Decided.{still_set, decided}
use Rattle.second_opinion.specs.Telling.{untold_by, untold, told_in, words_of, packed, More}
use Rattle.filled.specs.Filled.{filled, Stored}
use Rattle.filled.proofs.Filling.{stored_both}
use Rattle.keylog.specs.Runs.{high_first, encoded}
use Rattle.keylog.proofs.Encoded.{encoded_append}
use Rattle.second_opinion.specs.declared.telling.Telling.{Telling}
use Rattle.second_opinion.specs.declared.due_stamps.Opened.{Opened}
use Rattle.second_opinion.specs.declared.decisions.Set.{Set}
use Rattle.second_opinion.specs.declared.decisions.Next.{Next}
use Rattle.second_opinion.specs.declared.decisions.Next.TheVariants.{Over, On}
use Rattle.second_opinion.specs.declared.decisions.Decision.{Decision}

module _ (s : Settings) (h : opinions.Set) (es : List Event) where
  pub no_decision : (left : ℕ) → left ≡ 0 → opinions.from s left h es ≡ told [] []
  unfolding opinions.from
  no_decision zero none = refl
  no_decision (suc k) none = absurd (omega arith)

  pub one_decision : (left : ℕ) → (left ≡ 0 → ⊥)
      → opinions.from s left h es ≡ opinions.follow (opinions.from s (left - 1)) (opinions.decide s h es)
  unfolding opinions.from
  one_decision zero some = absurd (some refl)
  one_decision (suc k) some = let e : suc k - 1 ≡ k = omega arith in rw e

-- what is told from a place, by the decision that the code makes there
module _ (o : Opened) (left : ℕ) (set : Set) (at : ℕ) (some : left ≡ 0 → ⊥) where
  pub told_by : (d : Decision) → decided (from o.events) d ≡ opinions.decide o.settings (still_set set) (from o.events at)
      → untold_by o left (On set at) ≡ tell (listed d.items) (untold_by o (left - 1) d.next)
  told_by d is = one_decision o.settings (still_set set) (from o.events at) left some ∙ rw (← is) (by_next d.items d.next)
    where
      by_next : (items : _) (n : Next) → opinions.follow (opinions.from o.settings (left - 1)) (decided (from o.events) (record { items = items; next = n })) ≡ tell (listed items) (untold_by o (left - 1) n)
      by_next items (Over w) = rw append-nil
      by_next items (On h i) = refl

-- Counting: the words so far and those that are left are all.
pub record Counting (o : Opened) (t : Telling) (words : ℕ) : Type 0 where
  pub sum : words + length (signs (untold t).items) ≡ length (words_of o)
  pub waiting : (untold t).waiting ≡ (told_in o).waiting
  pub few : words + 2 * t.left ≤ 2 * (2 * o.events.n + 1)

-- what a run holds with something stored at a place
abbrev placed : ℕ → List ℕ → List ℕ → List ℕ
placed at new run = take at run ++ new ++ drop (at + length new) run

-- Writing into a run that held `before`: the next word comes to a place `behind`.
pub record Writing (o : Opened) (t : Telling) (behind : ℕ) (before run : List ℕ) : Type 0 where
  pub whole : placed behind (packed (signs (untold t).items)) run ≡ filled (packed (words_of o)) before
  pub room : behind + length (packed (signs (untold t).items)) ≤ length run

module _ (o : Opened) (t : Telling) (behind : ℕ) (before run : List ℕ) (w : Writing o t behind before run) where
  pub writing_ends : (waiting : List Press) → untold t ≡ told [] waiting → run ≡ filled (packed (words_of o)) before
  unfolding encoded
  writing_ends waiting none =
      let all : placed behind [] run ≡ run = rw (append-nil, add-zero) (take-append-drop behind run) in
      sym all ∙ (rw none at w.whole)

  module _ (u : Telling) (words : List ℕ) (more : More t u words) where
    split : packed (signs (untold t).items) ≡ packed words ++ packed (signs (untold u).items)
    split = ap packed more.words_told ∙ encoded_append high_first words (signs (untold u).items)

    both_fit : behind + (length (packed words) + length (packed (signs (untold u).items))) ≤ length run
    both_fit = omega (arith, w.room, ap length split, length-append (packed words) (packed (signs (untold u).items)))

    pub next_fits : behind + length (packed words) ≤ length run
    next_fits = omega (arith, both_fit)

    pub writing_goes_on : (next : ℕ) (after : List ℕ) → Stored behind (packed words) run next after → length after ≡ length run
        → Writing o u next before after
    writing_goes_on next after s long =
        let rest : List ℕ = packed (signs (untold u).items) in
        let last : Stored next rest after (next + length rest) (placed next rest after) = record { behind = refl; stored = refl } in
        let both = stored_both behind (packed words) rest run next after _ _ (omega (arith, both_fit)) s last in
        record { whole = both.stored ∙ (rw split at w.whole); room = omega (arith, both_fit, s.behind) }
