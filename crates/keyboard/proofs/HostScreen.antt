-- The numbers of a step say all that it sends and commits, and the host's screen is the committed line and what is shown.
use Prim.Native.Nat.{ℕ, zero, suc, ◌≤◌}
use native.Mathlib.Omega.{arith}
use mathlib.Core.Bool.{true, false}
use mathlib.Core.List.{List, [], ◌∷◌, ◌++◌, append_assoc, append-nil, map, foldl}
use mathlib.Core.Option.{Option, none, some}
use mathlib.Core.Path.{◌≡◌, refl, sym, ap, ◌∙◌}
use lib.IntN.{ℤ}
use lib.ListN.{length, get_or, take, replicate}
use borrow.Author.Tests.{ne_eqb}
use Rattle.rules.specs.Pairs.{Lent, lent_good}
use Rattle.rules.specs.States.{fresh}
use Rattle.rules.specs.ZeroDelay.{sign_unless_0, character, sign_of, signs, Sending, backspace, send}
use Rattle.rules.specs.GivenBack.{step}
use Rattle.rules.specs.Sequences.{along, items_in, sendings_in, without_last, typed, signs_among}
use Rattle.rules.specs.StepFacts.{NoneIs0, Sendable}
use Rattle.rules.specs.Distance.{asking}
use Rattle.rules.specs.declared.Stamp.{Stamp}
use Rattle.rules.specs.declared.Thumb.TheVariants.{Left, Right}
use Rattle.rules.specs.declared.Machine.{Machine}
use Rattle.rules.specs.declared.Item.{Item}
use Rattle.rules.specs.declared.Item.TheVariants.{Character, Mark, Together}
use Rattle.rules.specs.declared.Event.{Event}
use Rattle.rules.proofs.Screen.{typed_append, typed_send, signs_append, run_shows}
use Rattle.rules.proofs.StepFacts.{step_sizes, step_sendable}
use Rattle.preview.specs.Views.{backspaces_among, packed_sendings}
use Rattle.machine_numbers.specs.Fields.{no_machine, named}
use Rattle.machine_numbers.specs.declared.MachineNumbers.{MachineNumbers}
use Rattle.keyboard.specs.declared.StepAnswer.{StepAnswer}
use Rattle.keyboard.specs.Keyboard.{word_of, words_of, answer_numbers, answered_numbers, step_numbers, told_numbers, distance_numbers}
use Rattle.keyboard.specs.KeyboardFacts.{answers}
use Rattle.keyboard.specs.HostScreen.{signs_sent, taken_back, shows, grows, sendings_read, HostFacts}
use Rattle.keyboard.proofs.HandedOn.{keyboard_facts}

-- What is sent.

three_back : (q : List ℕ) → length q ≤ 3 → NoneIs0 q
    → sign_unless_0 (get_or q 0 0) ++ sign_unless_0 (get_or q 1 0) ++ sign_unless_0 (get_or q 2 0) ≡ q
three_back [] le n = refl
three_back (a ∷ []) le n = rw (ne_eqb a 0 n.0)
three_back (a ∷ b ∷ []) le n = rw (ne_eqb a 0 n.0, ne_eqb b 0 n.1.0)
three_back (a ∷ b ∷ c ∷ []) le n = rw (ne_eqb a 0 n.0, ne_eqb b 0 n.1.0, ne_eqb c 0 n.1.1.0)
three_back (a ∷ b ∷ c ∷ d ∷ q) le n = absurd (omega arith)

-- the backspaces and the signs, each counted among both
backspaces_back : (n : ℕ) (q : List ℕ) → backspaces_among (replicate n backspace ++ send q) ≡ n
backspaces_back zero [] = refl
backspaces_back zero (c ∷ q) = backspaces_back zero q
backspaces_back (suc n) q = ap suc (backspaces_back n q)

signs_back_among : (n : ℕ) (q : List ℕ) → signs_among (replicate n backspace ++ send q) ≡ q
signs_back_among zero [] = refl
signs_back_among zero (c ∷ q) = ap (λ (l : List ℕ). c ∷ l) (signs_back_among zero q)
signs_back_among (suc n) q = signs_back_among n q

-- nothing else of an answer plays a part
packed_back : {l : List Sending} → Sendable l → sendings_read (answer_numbers no_machine 0 (words_of []) (packed_sendings l)) ≡ l
packed_back {l} s =
    let n = s.backspaces in
    let q = s.signs in
    rw (s.sends, backspaces_back n q, signs_back_among n q, three_back q s.at_most_3_signs s.none_is_0)

sendings_back : (g : Lent) (x : Machine) (e : Event) → sendings_read (answered_numbers (step g x e)) ≡ (step g x e).sendings
sendings_back g x e = packed_back (step_sendable g x e)

-- the header's rule types what was sent
shows_typed : (screen : List ℕ) (r : StepAnswer) → shows screen r ≡ typed screen (sendings_read r)
shows_typed screen r = go r.backspaces screen
  where
    go : (n : ℕ) (l : List ℕ) → taken_back n l ++ signs_sent r ≡ typed l (replicate n backspace ++ send (signs_sent r))
    go zero l = sym (typed_send l (signs_sent r))
    go (suc n) l = go n (without_last l)

shows_all : (g : Lent) (screen : List ℕ) (x : Machine) (es : List Event)
    → foldl shows screen (map answered_numbers (answers g x es)) ≡ typed screen (along g sendings_in x es)
shows_all g screen x [] = refl
shows_all g screen x (e ∷ es) =
    shows_all g (shows screen (answered_numbers (step g x e))) (step g x e).machine es
    ∙ ap (λ (l : List ℕ). typed l (along g sendings_in (step g x e).machine es))
    (shows_typed screen (answered_numbers (step g x e)) ∙ ap (typed screen) (sendings_back g x e))
    ∙ sym (typed_append screen (step g x e).sendings (along g sendings_in (step g x e).machine es))

-- What is committed.

word_sign : (i : Item) → sign_unless_0 (word_of i) ≡ sign_of i
unfolding character
word_sign (Character k f) = refl
word_sign (Mark Left) = refl
word_sign (Mark Right) = refl
word_sign (Together M K c) = refl

words_back : (l : List Item) → length l ≤ 2 → take (words_of l).items ((words_of l).first ∷ (words_of l).second ∷ []) ≡ map word_of l
words_back [] le = refl
words_back (i ∷ []) le = refl
words_back (i ∷ j ∷ []) le = refl
words_back (i ∷ j ∷ k ∷ l) le = absurd (omega arith)

signs_back : (l : List Item) → length l ≤ 2 → sign_unless_0 (words_of l).first ++ sign_unless_0 (words_of l).second ≡ signs l
signs_back [] le = refl
signs_back (i ∷ []) le = ap (λ (w : List ℕ). w ++ []) (word_sign i)
signs_back (i ∷ j ∷ []) le = rw (word_sign i, word_sign j, append-nil)
signs_back (i ∷ j ∷ k ∷ l) le = absurd (omega arith)

grows_all : (g : Lent) (line : List ℕ) (x : Machine) (es : List Event)
    → foldl grows line (map answered_numbers (answers g x es)) ≡ line ++ signs (along g items_in x es)
grows_all g line x [] = sym (append-nil line)
grows_all g line x (e ∷ es) =
    grows_all g (grows line (answered_numbers (step g x e))) (step g x e).machine es
    ∙ append_assoc line _ (signs (along g items_in (step g x e).machine es))
    ∙ ap (λ (l : List ℕ). line ++ l)
    (ap (λ (l : List ℕ). l ++ signs (along g items_in (step g x e).machine es))
    (signs_back (step g x e).items (step_sizes g x e).at_most_2_items)
    ∙ sym (signs_append (step g x e).items (along g items_in (step g x e).machine es)))

-- The number.

number_back : (g : Lent) (f : MachineNumbers) (x : Machine) (e : Event) → named f ≡ some x → (step_numbers g f e).number ≡ (step g x e).number
unfolding step_numbers
number_back g f x e h = rw h

told_number : (n : ℕ) (d : Option ℤ) → (told_numbers n d).number ≡ n
told_number n none = refl
told_number n (some z) = refl

asked_back : (g : Lent) (f : MachineNumbers) (x : Machine) (now : Stamp) → named f ≡ some x
    → (distance_numbers g f now).number ≡ (asking g x now).number
unfolding distance_numbers
asked_back g f x now h = rw h (told_number (asking g x now).number (asking g x now).distance)

no_machine_12 : (g : Lent) (f : MachineNumbers) (e : Event) (now : Stamp) → named f ≡ none → lent_good g ≡ false
    → ((step_numbers g f e).number ≡ 12) × ((distance_numbers g f now).number ≡ 12)
unfolding step_numbers distance_numbers
no_machine_12 g f e now h bad = (rw (h, bad), rw (h, bad))

no_machine_2 : (g : Lent) (f : MachineNumbers) (e : Event) (now : Stamp) → named f ≡ none → lent_good g ≡ true
    → ((step_numbers g f e).number ≡ 2) × ((distance_numbers g f now).number ≡ 2)
unfolding step_numbers distance_numbers
no_machine_2 g f e now h good = (rw (h, good), rw (h, good))

pub host_facts : (g : Lent) → HostFacts g
host_facts g =
    record {
      number_back = number_back g;
      asked_back = asked_back g;
      no_machine_12 = no_machine_12 g;
      no_machine_2 = no_machine_2 g;
      sendings_back = sendings_back g;
      words_back = λ x e. words_back (step g x e).items (step_sizes g x e).at_most_2_items;
      line_is = λ {s} {first} {es} run. ap (foldl grows []) ((keyboard_facts g).runs run) ∙ grows_all g [] (fresh s) es;
      screen_is = λ {s} {first} {es} run.
          ap (foldl shows []) ((keyboard_facts g).runs run) ∙ shows_all g [] (fresh s) es ∙ run_shows g [] (fresh s) es;
    }
