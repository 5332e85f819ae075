-- Laws of signs and of what is sent.
use mathlib.Core.Path.{◌≡◌, refl, ap, subst, ◌∙◌}
use mathlib.Core.Bool.{false}
use mathlib.Core.List.{List, [], ◌∷◌, ◌++◌, append-nil, append_assoc}
use Prim.Native.Nat.{ℕ, ◌≤◌}
use native.Mathlib.Omega.{arith}
use lib.Dec.{eqb}
use lib.ListN.{length, get_or, drop, length-append, get_or-eq_default}
use borrow.Author.Tests.{eq-eqb, ne_eqb}
use Rattle.rules.specs.ZeroDelay.{sign_unless_0, backspace, send, take_back, sent}
use Rattle.rules.specs.Sequences.{signs_among}
use Rattle.choice.proofs.Choices.{both_ways, by_test}
use Rattle.preview.specs.Views.{shown_list, sign_list, packed, Holds, put_before, behind_first, backspaces_among, Sends}
use Rattle.preview.specs.declared.Signs.{Signs}
use Rattle.preview.specs.declared.Shown.{Shown}
use Rattle.preview.specs.declared.Sendings.{Sendings}

-- a word is one sign at most
one_sign : (x : ℕ) → length (sign_unless_0 x) ≤ 1
one_sign x = both_ways (λ (l : List ℕ). length l ≤ 1) (eqb x 0) (omega arith) (omega arith)

abbrev words : ℕ → ℕ → ℕ → ℕ → Signs
words a b c d = record { first = a; second = b; third = c; fourth = d }

pub holds_none : Holds (words 0 0 0 0) []
holds_none = record { form = refl; list = refl }

-- the last of four places is free where a list has three at most
last_free : {q : Signs} {l : List ℕ} → Holds q l → length l ≤ 3 → q.fourth ≡ 0
last_free {q} {l} h few = ap (λ (x : Signs). x.fourth) h.form ∙ get_or-eq_default l 0 few

-- a word in front of up to three signs
holds_front : (w : ℕ) {q : Signs} {l : List ℕ} → eqb w 0 ≡ false → Holds q l → length l ≤ 3
    → Holds (words w q.first q.second q.third) (w ∷ l)
holds_front w {q} {l} e h few =
    let three : sign_unless_0 q.first ++ sign_unless_0 q.second ++ sign_unless_0 q.third ≡ l =
    rw (last_free h few, append-nil) at h.list in
    record {
      form = ap (λ (x : Signs). words w x.first x.second x.third) h.form;
      list = rw e (ap (λ (m : List ℕ). w ∷ m) three);
    }

pub holds_before : (w : ℕ) {q : Signs} {l : List ℕ} → Holds q l → length l ≤ 3 → Holds (put_before w q) (sign_unless_0 w ++ l)
unfolding put_before
holds_before w {q} {l} h few =
    by_test
    (λ (x : List ℕ). Holds (put_before w q) (x ++ l))
    (eqb w 0)
    (λ e. rw e h)
    (λ e. rw e (holds_front w e h few))

pub holds_two : (a b : ℕ) {q : Signs} {l : List ℕ} → Holds q l → length l ≤ 2
    → Holds (put_before a (put_before b q)) (sign_unless_0 a ++ (sign_unless_0 b ++ l))
holds_two a b {q} {l} h few =
    holds_before a (holds_before b h (omega arith)) (omega (arith, length-append (sign_unless_0 b) l, one_sign b))

-- what is shown, as signs: two at most
pub holds_shown : (a b : ℕ) → Holds (put_before a (put_before b (words 0 0 0 0))) (sign_unless_0 a ++ sign_unless_0 b)
holds_shown a b = rw append-nil at (holds_two a b holds_none (omega arith))

two_shown : (p : Shown) → length (shown_list p) ≤ 2
two_shown p =
    omega (
      arith,
      length-append (sign_unless_0 p.first) (sign_unless_0 p.second),
      one_sign p.first,
      one_sign p.second,
    )

-- the signs of one item or two, in front of what is shown
pub holds_item : (p : Shown) {q : Signs} → Holds q (shown_list p) → (a : ℕ)
    → Holds (put_before a q) ((sign_unless_0 a ++ []) ++ shown_list p)
holds_item p h a = rw append-nil (holds_before a h (omega (arith, two_shown p)))

pub holds_items : (p : Shown) {q : Signs} → Holds q (shown_list p) → (a b : ℕ)
    → Holds (put_before a (put_before b q)) ((sign_unless_0 a ++ (sign_unless_0 b ++ [])) ++ shown_list p)
holds_items p h a b = rw (append-nil, append_assoc) (holds_two a b h (two_shown p))

-- packed signs whose first is shown already: those behind it
pub holds_behind : (q : Signs) → q ≡ packed (sign_list q) → (q.first ≡ 0 → ⊥) → Holds (behind_first q) (drop 1 (sign_list q))
holds_behind q e h =
    rw (ne_eqb q.first 0 h)
    (let rest = sign_unless_0 q.second ++ sign_unless_0 q.third ++ sign_unless_0 q.fourth in
    let all : q ≡ packed (q.first ∷ rest) = rw (ne_eqb q.first 0 h) at e in
    let few : length rest ≤ 3 =
    omega (
      arith,
      length-append (sign_unless_0 q.second ++ sign_unless_0 q.third) (sign_unless_0 q.fourth),
      length-append (sign_unless_0 q.second) (sign_unless_0 q.third),
      one_sign q.second,
      one_sign q.third,
      one_sign q.fourth,
    ) in
    let no_more : get_or rest 3 0 ≡ 0 = get_or-eq_default rest 0 few in
    record {
      form = rw no_more (ap (λ (x : Signs). words x.second x.third x.fourth 0) all);
      list = simp append-nil;
    })

-- the shown signs that q begins with stay
pub kept : (p : ℕ) (ps q : List ℕ) → (p ≡ 0 → ⊥) → p ≡ get_or q 0 0 → sent ps (drop 1 q) ≡ sent (p ∷ ps) q
unfolding sent
kept p ps [] h e = absurd (h e)
kept p ps (c ∷ q) h e = rw (eq-eqb p c e)

-- the others are taken back
pub taken_back : (p : ℕ) (ps q : List ℕ) → (p ≡ get_or q 0 0 → ⊥) → take_back (p ∷ ps) ++ send q ≡ sent (p ∷ ps) q
unfolding sent
taken_back p ps [] e = append-nil _
taken_back p ps (c ∷ q) e = rw (ne_eqb p c e)

-- what packed signs are sent as
sends_no_backspace : (l : List ℕ) → backspaces_among (send l) ≡ 0
sends_no_backspace [] = refl
sends_no_backspace (c ∷ l) = sends_no_backspace l

sends_signs : (l : List ℕ) → signs_among (send l) ≡ l
sends_signs [] = refl
sends_signs (c ∷ l) = ap (λ (m : List ℕ). c ∷ m) (sends_signs l)

pub sends_plainly : {q : Signs} {l : List ℕ} → Holds q l → Sends (record { backspaces = 0; signs = q }) (send l)
sends_plainly {q} {l} h = record { form = rw (sends_no_backspace l, sends_signs l, ← h.form); list = rw h.list }

pub sends_after_one : {q : Signs} {l : List ℕ} → Holds q l → Sends (record { backspaces = 1; signs = q }) (backspace ∷ send l)
sends_after_one {q} {l} h = record { form = rw (sends_no_backspace l, sends_signs l, ← h.form); list = rw h.list }

pub sends_after_two : {q : Signs} {l : List ℕ} → Holds q l
    → Sends (record { backspaces = 2; signs = q }) (backspace ∷ backspace ∷ send l)
sends_after_two {q} {l} h = record { form = rw (sends_no_backspace l, sends_signs l, ← h.form); list = rw h.list }

-- two shown, of which the first stays: as if the second alone had been shown, with the signs behind the first
module _ (p : Shown) (q : Signs) (shown : p.first ≡ 0 → ⊥) (stays : p.first ≡ q.first) (form : q ≡ packed (sign_list q)) where
  behind : Holds (behind_first q) (drop 1 (sign_list q))
  behind = holds_behind q form (λ z. shown (stays ∙ z))

  pub behind_packed : {b : Signs} → b ≡ behind_first q → b ≡ packed (sign_list b)
  behind_packed e = rw (e, behind.list) behind.form

  on : {b : Signs} → b ≡ behind_first q → sent (sign_unless_0 p.second) (sign_list b) ≡ sent (shown_list p) (sign_list q)
  on e =
      rw (ne_eqb p.first 0 shown, e, behind.list)
      (kept p.first (sign_unless_0 p.second) (sign_list q) shown (stays ∙ ap (λ (x : Signs). x.first) form))

  pub first_stays : {b : Signs} → b ≡ behind_first q → {r : Sendings} → Sends r (sent (sign_unless_0 p.second) (sign_list b))
      → Sends r (sent (shown_list p) (sign_list q))
  first_stays {b} e {r} = subst (Sends r) (on e)

-- two shown, of which the first does not stay
module _ (p : Shown) (q : Signs) (shown : p.first ≡ 0 → ⊥) (form : q ≡ packed (sign_list q)) (other : p.first ≡ q.first → ⊥) where
  goes : take_back (p.first ∷ sign_unless_0 p.second) ++ send (sign_list q) ≡ sent (shown_list p) (sign_list q)
  goes =
      rw (ne_eqb p.first 0 shown)
      (taken_back p.first (sign_unless_0 p.second) (sign_list q) (rw (ap (λ (x : Signs). x.first) form) at other))

  pub one_back : p.second ≡ 0 → Sends (record { backspaces = 1; signs = q }) (sent (shown_list p) (sign_list q))
  one_back e = rw (← goes, eq-eqb p.second 0 e) (sends_after_one (record { form = form; list = refl }))

  pub two_back : (p.second ≡ 0 → ⊥) → Sends (record { backspaces = 2; signs = q }) (sent (shown_list p) (sign_list q))
  two_back h = rw (← goes, ne_eqb p.second 0 h) (sends_after_two (record { form = form; list = refl }))
