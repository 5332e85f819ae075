-- What the machine does at the strokes of one character: from nothing resting and no key held to the same, and the character is
-- committed. So the same character once more is a press and not a repeat.
use Prim.Native.Nat.{ℕ, ◌+◌, ◌-◌, ◌^◌, ◌≤◌, ◌<◌}
use native.Mathlib.Nat.{div-eq_of_lt, sub_self, zero-mul}
use native.Mathlib.Omega.{arith}
use mathlib.Core.Bool.{true, false}
use mathlib.Core.List.{List, [], ◌∷◌, ◌++◌, append_assoc}
use mathlib.Core.Option.{some}
use mathlib.Core.Path.{◌≡◌, refl, sym, ◌∙◌, ap, subst}
use lib.Count.{ones_in}
use borrow.Author.Tests.{lt-ltb, le-leb, lt-leb, eq-eqb}
use Rattle.rules.specs.Numbers.{keys, largest_stamp, in_range, up, A, FJ}
use Rattle.rules.specs.Held.{is_held, hold, release, how_many, held_formed}
use Rattle.rules.specs.Pairs.{no_pairs, in_some_pair, alone}
use Rattle.rules.specs.States.{well_formed}
use Rattle.rules.specs.OneEvent.{◌leaving◌, nothing, plain, chord, same_key, settle_in, settle, one_event}
use Rattle.rules.specs.GivenBack.{input, is_new, too_many, Answer, acceptance, step}
use Rattle.rules.specs.Sequences.{after, along, items_in}
use Rattle.rules.specs.declared.Stamp.{Stamp}
use Rattle.rules.specs.declared.Key.{Key}
use Rattle.rules.specs.declared.Thumb.{Thumb}
use Rattle.rules.specs.declared.Thumb.TheVariants.{Left, Right}
use Rattle.rules.specs.declared.Settings.{Settings}
use Rattle.rules.specs.declared.Face.{Face}
use Rattle.rules.specs.declared.Face.TheVariants.{Plain, With}
use Rattle.rules.specs.declared.Resting.{Resting}
use Rattle.rules.specs.declared.Resting.TheVariants.{S1, S2, S4}
use Rattle.rules.specs.declared.Machine.{Machine}
use Rattle.rules.specs.declared.Item.{Item}
use Rattle.rules.specs.declared.Item.TheVariants.{Character}
use Rattle.rules.specs.declared.Event.{Event}
use Rattle.rules.specs.declared.Input.TheVariants.{CharacterDown, CharacterUp, ThumbDown, ThumbUp, Tick}
use Rattle.rules.proofs.Tests.{range_bounds}
use Rattle.rules.proofs.Bounds.{A_positive}
use Rattle.rules.proofs.Held.{held_facts, formed_test, formed_hold, none_held, empty_formed}
use Rattle.rules.proofs.Steps.{step_accepted}
use Rattle.keylog.proofs.Lent.{no_pairs_good}
use Rattle.writer.specs.Drills.{thumb_key, key_down, key_up, thumb_down, thumb_up, tick, strokes_on}
use Rattle.writer.proofs.Read.{AllAccepted, no_more, and_more}

-- Inputs.

down_input : (k : Key) → k.0 < keys → input 1 k ≡ some (CharacterDown k)
unfolding input
down_input k h = rw (lt-ltb k.0 keys h)

up_input : (k : Key) → k.0 < keys → input 2 k ≡ some (CharacterUp k)
unfolding input
up_input k h = rw (lt-ltb k.0 keys h)

thumb_down_input : (O : Thumb) → input 3 (thumb_key O) ≡ some (ThumbDown O)
unfolding input
thumb_down_input Left = refl
thumb_down_input Right = refl

thumb_up_input : (O : Thumb) → input 4 (thumb_key O) ≡ some (ThumbUp O)
unfolding input
thumb_up_input Left = refl
thumb_up_input Right = refl

tick_input : input 6 (record { 0 = 0 }) ≡ some Tick
unfolding input
tick_input = refl

-- A sequence of accepted events, with what it leaves and commits.
pub data Chain : Machine → List Event → Machine → List Item → Type 0 where
  end : {m : Machine} → Chain m [] m []
  go : {m : Machine} {e : Event} {es : List Event} {a : Answer} {left : Machine} {items : List Item} → e.stamp.0 < 256 ^ 8
      → step no_pairs m e ≡ a → a.number ≡ 0 → Chain a.machine es left items → Chain m (e ∷ es) left (a.items ++ items)

pub chain_accepted : {m left : Machine} {es : List Event} {items : List Item} → Chain m es left items → AllAccepted m es
chain_accepted end = no_more
chain_accepted (go {es = es} small e z c) =
    and_more small (ap (λ (a : Answer). a.number) e ∙ z)
    (subst (λ (a : Answer). AllAccepted a.machine es) (sym e) (chain_accepted c))

pub chain_leaves : {m left : Machine} {es : List Event} {items : List Item} → Chain m es left items → after no_pairs m es ≡ left
chain_leaves end = refl
chain_leaves (go {es = es} small e z c) = ap (λ (a : Answer). after no_pairs a.machine es) e ∙ chain_leaves c

pub chain_commits : {m left : Machine} {es : List Event} {items : List Item} → Chain m es left items
    → along no_pairs items_in m es ≡ items
chain_commits end = refl
chain_commits (go {es = es} {a = a} small e z c) =
    ap (λ (b : Answer). b.items ++ along no_pairs items_in b.machine es) e ∙ ap (λ (l : List Item). a.items ++ l) (chain_commits c)

-- one after the other
pub chain_append : {m n left : Machine} {es fs : List Event} {items more : List Item} → Chain m es n items → Chain n fs left more
    → Chain m (es ++ fs) left (items ++ more)
chain_append end d = d
chain_append {m = m} {left = left} {fs = fs} {more = more} (go {e = e} {es = es} {a = a} {items = items} small h z c) d =
    subst (λ (l : List Item). Chain m (e ∷ (es ++ fs)) left l) (sym (append_assoc a.items items more)) (go small h z (chain_append c d))

abbrev pub machine_at : Settings → Resting → Stamp → ℕ → Machine
machine_at s x last h = record { settings = s; resting = x; last = last; held = h }

module _ (s : Settings) (r : in_range s ≡ true) (t : Stamp) (low : t.0 ≤ largest_stamp) (k : Key) (b : k.0 < keys) where
  -- k alone is held
  abbrev one : ℕ
  one = hold 0 k

  one_formed : held_formed one ≡ true
  unfolding how_many ones_in
  one_formed = formed_test one (formed_hold 0 k empty_formed (λ e. omega arith))

  one_held : is_held one k ≡ true
  one_held = (held_facts 0 k).holds b

  none_again : release one k ≡ 0
  none_again = (held_facts 0 k).back b (none_held k)

  -- the machine before the character, and while k is held
  abbrev free : Stamp → Machine
  free last = machine_at s S1 last 0

  abbrev holding : Resting → Machine
  holding x = machine_at s x t one

  free_well_formed : (last : Stamp) → last.0 ≤ t.0 → well_formed no_pairs (free last) ≡ true
  unfolding well_formed
  free_well_formed last h = rw (r, le-leb last.0 largest_stamp (omega arith), formed_test 0 empty_formed)

  S1_well_formed : well_formed no_pairs (holding S1) ≡ true
  unfolding well_formed
  S1_well_formed = rw (r, le-leb t.0 largest_stamp low, one_formed)

  S2_well_formed : well_formed no_pairs (holding (S2 k t)) ≡ true
  unfolding well_formed
  S2_well_formed = rw (r, lt-ltb k.0 keys b, le-leb t.0 t.0 (omega arith), le-leb t.0 largest_stamp low, one_formed)

  S4_well_formed : (O : Thumb) → well_formed no_pairs (holding (S4 k t O t)) ≡ true
  unfolding well_formed
  S4_well_formed O = rw (r, lt-ltb k.0 keys b, le-leb t.0 t.0 (omega arith), le-leb t.0 largest_stamp low, one_formed)

  -- Each stroke. Nothing is due in S1; in S2 not before A, which is not 0; in S4 at once, since the thumb came with the key.

  room : (last : Stamp) → too_many (free last) (key_down t k) ≡ false
  unfolding is_new how_many ones_in
  room last = rw (none_held k)

  key_goes_down : (last : Stamp) → last.0 ≤ t.0
      → step no_pairs (free last) (key_down t k) ≡ acceptance (free last) t one (nothing leaving S2 k t)
  unfolding one_event settle settle_in
  key_goes_down last h =
      step_accepted no_pairs (free last) (key_down t k) (CharacterDown k) no_pairs_good (free_well_formed last h)
      (down_input k b) low h (room last)
      ∙ rw (none_held k)

  S2_waits : t.0 < t.0 + A s
  S2_waits = let a = A_positive s (range_bounds s r) in omega arith

  key_comes_up : step no_pairs (holding (S2 k t)) (key_up t k) ≡ acceptance (holding (S2 k t)) t 0 (plain k leaving S1)
  unfolding one_event settle settle_in alone in_some_pair same_key is_new
  key_comes_up =
      step_accepted no_pairs (holding (S2 k t)) (key_up t k) (CharacterUp k) no_pairs_good S2_well_formed
      (up_input k b) low (omega arith) refl
      ∙ rw (one_held, none_again, lt-leb (t.0 + A s) t.0 S2_waits, eq-eqb k.0 k.0 refl)

  thumb_goes_down : (O : Thumb)
      → step no_pairs (holding (S2 k t)) (thumb_down t O) ≡ acceptance (holding (S2 k t)) t one (nothing leaving S4 k t O t)
  unfolding one_event settle settle_in alone in_some_pair is_new
  thumb_goes_down O =
      step_accepted no_pairs (holding (S2 k t)) (thumb_down t O) (ThumbDown O) no_pairs_good S2_well_formed
      (thumb_down_input O) low (omega arith) refl
      ∙ ap (acceptance (holding (S2 k t)) t one) (rw (lt-leb (t.0 + A s) t.0 S2_waits))

  no_wait : FJ s (t.0 - t.0) ≡ 0
  unfolding FJ up
  no_wait =
      let bounds = range_bounds s r in
      rw (sub_self, zero-mul) (div-eq_of_lt (omega arith))

  chord_comes_out : (O : Thumb)
      → step no_pairs (holding (S4 k t O t)) (tick t) ≡ acceptance (holding (S4 k t O t)) t one (chord k O leaving S1)
  unfolding one_event settle settle_in is_new
  chord_comes_out O =
      step_accepted no_pairs (holding (S4 k t O t)) (tick t) Tick no_pairs_good (S4_well_formed O)
      tick_input low (omega arith) refl
      ∙ ap (acceptance (holding (S4 k t O t)) t one) (rw (le-leb (t.0 + FJ s (t.0 - t.0)) t.0 (rw no_wait (omega arith))))

  thumb_comes_up : (O : Thumb) → step no_pairs (holding S1) (thumb_up t O) ≡ acceptance (holding S1) t one (nothing leaving S1)
  unfolding one_event settle settle_in is_new
  thumb_comes_up O =
      step_accepted no_pairs (holding S1) (thumb_up t O) (ThumbUp O) no_pairs_good S1_well_formed
      (thumb_up_input O) low (omega arith) refl

  key_comes_up_last : step no_pairs (holding S1) (key_up t k) ≡ acceptance (holding S1) t 0 (nothing leaving S1)
  unfolding one_event settle settle_in is_new
  key_comes_up_last =
      step_accepted no_pairs (holding S1) (key_up t k) (CharacterUp k) no_pairs_good S1_well_formed
      (up_input k b) low (omega arith) refl
      ∙ rw (one_held, none_again)

  small : t.0 < 256 ^ 8
  small = omega arith

  -- the strokes on a face commit the character and leave nothing resting and no key held
  pub strokes_play : (last : Stamp) → last.0 ≤ t.0 → (f : Face)
      → Chain (machine_at s S1 last 0) (strokes_on t k f) (machine_at s S1 t 0) (Character k f ∷ [])
  strokes_play last h Plain = go small (key_goes_down last h) refl (go small key_comes_up refl end)
  strokes_play last h (With O) =
      go small (key_goes_down last h) refl
      (go small (thumb_goes_down O) refl
      (go small (chord_comes_out O) refl (go small (thumb_comes_up O) refl (go small key_comes_up_last refl end))))
