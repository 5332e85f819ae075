-- What the functions of the keyboard's face make of the answers below them.
use Prim.Native.Nat.{ℕ}
use mathlib.Core.Bool.{Bool, true, false}
use mathlib.Core.List.{[], ◌∷◌, cons≢nil}
use mathlib.Core.Path.{◌≡◌, refl, sym, ap, ◌∙◌}
use lib.Dec.{eqb}
use borrow.Author.Tests.{eqb-true}
use Rattle.choice.specs.Choice.{if◌then◌orelse◌}
use Rattle.rules.specs.ZeroDelay.{sign_unless_0, character, sign_of}
use Rattle.rules.specs.GivenBack.{Answer}
use Rattle.rules.specs.declared.Thumb.TheVariants.{Left, Right}
use Rattle.std.specs.Prelude.{Ok, Err}
use mathlib.Core.Option.{some}
use Rattle.rules.specs.Refusal.{number_of}
use Rattle.rules.specs.declared.Refusal.{Refusal}
use Rattle.rules.specs.declared.Machine.{Machine}
use Rattle.rules.specs.declared.Item.{Item}
use Rattle.rules.specs.declared.Item.TheVariants.{Character, Mark, Together}
use Rattle.rules.specs.Items.{listed}
use Rattle.preview.specs.Views.{packed_sendings}
use Rattle.engine.specs.Views.{Gives}
use Rattle.engine.specs.declared.Stepped.{Stepped}
use Rattle.machine_numbers.specs.Fields.{in_numbers, named}
use Rattle.machine_numbers.proofs.RoundTrip.{loses_nothing}
use Rattle.machine_numbers.specs.declared.MachineNumbers.{MachineNumbers}
use Rattle.keyboard.specs.Keyboard.{word_of, words_of, answer_numbers, answered_numbers, refused_numbers}

-- a word is known by its signs
same_word : (a b : ℕ) → sign_unless_0 a ≡ sign_unless_0 b → a ≡ b
same_word a b = go (eqb a 0) (eqb b 0) refl refl
  where
    go : (s t : Bool) → eqb a 0 ≡ s → eqb b 0 ≡ t → (if s then [] orelse (a ∷ [])) ≡ (if t then [] orelse (b ∷ [])) → a ≡ b
    go true true e f h = eqb-true a 0 e ∙ sym (eqb-true b 0 f)
    go true false e f h = absurd (cons≢nil (sym h))
    go false true e f h = absurd (cons≢nil h)
    go false false e f h = cc

word_is : (w : ℕ) (i : Item) → sign_unless_0 w ≡ sign_of i → w ≡ word_of i
unfolding character
word_is w (Character k f) h = same_word w (word_of (Character k f)) h
word_is w (Mark Left) h = same_word w 1 h
word_is w (Mark Right) h = same_word w 2 h
word_is w (Together M K c) h = same_word w c h

-- the words of one item and of two
pub one_word : (v : ℕ) (i : Item) → sign_unless_0 v ≡ sign_of i → record { items = 1; first = v; second = 0 } ≡ words_of (i ∷ [])
one_word v i e = rw (word_is v i e)

pub two_words : (v w : ℕ) (i j : Item) → sign_unless_0 v ≡ sign_of i → sign_unless_0 w ≡ sign_of j
    → record { items = 2; first = v; second = w } ≡ words_of (i ∷ j ∷ [])
two_words v w i j e f = rw (word_is v i e, word_is w j f)

-- the engine's answer as numbers
pub accepted_numbers : {x : Machine} (r : Stepped) {a : Answer} → Gives x (Ok r) a
    → answer_numbers (in_numbers r.machine) 0 (words_of (listed r.items)) r.sendings ≡ answered_numbers a
accepted_numbers r {a} g =
    ap (answer_numbers (in_numbers r.machine) 0 (words_of (listed r.items))) g.packed
    ∙ ap (λ (b : Answer). answer_numbers (in_numbers b.machine) b.number (words_of b.items) (packed_sendings a.sendings)) g.answer

-- a refusal: the numbers as given are those of the machine that they name
pub refusal_numbers : {f : MachineNumbers} {x : Machine} (e : Refusal) {a : Answer} → named f ≡ some x → Gives x (Err e) a
    → refused_numbers f (number_of e) ≡ answered_numbers a
refusal_numbers {f} {x} e {a} n g =
    rw (← loses_nothing.one_form f x n)
    (ap (λ (b : Answer). answer_numbers (in_numbers b.machine) b.number (words_of b.items) (packed_sendings b.sendings)) g.answer)
