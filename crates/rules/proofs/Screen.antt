-- The screen after what a step sends, and what a backspace can take.
use Prim.Native.Nat.{ℕ, suc, ◌≤◌}
use native.Mathlib.Omega.{arith}
use mathlib.Core.List.{List, [], ◌∷◌, ◌++◌, append_assoc, append-nil, nil≢cons, tail-eq_of_cons-eq}
use mathlib.Core.Path.{◌≡◌, refl, sym, ◌∙◌, ap}
use lib.Dec.{eqb}
use lib.ListN.{length}
use borrow.Author.Tests.{eqb-true}
use Rattle.rules.specs.Pairs.{Lent}
use Rattle.rules.specs.OneEvent.{one_event}
use Rattle.rules.specs.ZeroDelay.{sign_of, signs, shown, Sending, backspace, sign, send, take_back, sent}
use Rattle.rules.specs.GivenBack.{acts_as, Answer, step}
use Rattle.rules.specs.Sequences.{after, along, items_in, sendings_in, without_last, typed, signs_among}
use Rattle.rules.specs.Demand3.{Begins}
use Rattle.rules.specs.declared.Machine.{Machine}
use Rattle.rules.specs.declared.Item.{Item}
use Rattle.rules.specs.declared.Event.{Event}
use Rattle.choice.proofs.Choices.{by_test}
use Rattle.rules.proofs.Steps.{step_cases}

-- The last sign.

without_last_append : (l : List ℕ) (c : ℕ) (p : List ℕ) → without_last (l ++ (c ∷ p)) ≡ l ++ without_last (c ∷ p)
without_last_append [] c p = refl
without_last_append (a ∷ []) c p = refl
without_last_append (a ∷ (b ∷ l)) c p = ap (λ (r : List ℕ). a ∷ r) (without_last_append (b ∷ l) c p)

length_without_last : (c : ℕ) (p : List ℕ) → length (without_last (c ∷ p)) ≡ length p
length_without_last c [] = refl
length_without_last c (d ∷ p) = ap suc (length_without_last d p)

-- Typing.

pub typed_append : (l : List ℕ) (a b : List Sending) → typed l (a ++ b) ≡ typed (typed l a) b
typed_append l [] b = refl
typed_append l (backspace ∷ a) b = typed_append (without_last l) a b
typed_append l (sign c ∷ a) b = typed_append (l ++ (c ∷ [])) a b

pub typed_send : (l q : List ℕ) → typed l (send q) ≡ l ++ q
typed_send l [] = sym (append-nil l)
typed_send l (c ∷ q) = typed_send (l ++ (c ∷ [])) q ∙ append_assoc l (c ∷ []) q

-- as many backspaces as signs behind l leave l
typed_take_back : (l r p : List ℕ) → length r ≡ length p → typed (l ++ r) (take_back p) ≡ l
typed_take_back l [] [] e = append-nil l
typed_take_back l [] (c ∷ p) e = absurd (omega arith)
typed_take_back l (a ∷ r) [] e = absurd (omega arith)
typed_take_back l (a ∷ r) (c ∷ p) e =
    ap (λ (k : List ℕ). typed k (take_back p)) (without_last_append l a r)
    ∙ typed_take_back l (without_last (a ∷ r)) p (length_without_last a r ∙ omega arith)

-- What is sent turns p, shown behind a line, into q.
pub typed_sent : (l p q : List ℕ) → typed (l ++ p) (sent p q) ≡ l ++ q
unfolding sent
typed_sent l [] q = ap (λ (k : List ℕ). typed k (send q)) (append-nil l) ∙ typed_send l q
typed_sent l (c ∷ p) [] = typed_take_back l (c ∷ p) (c ∷ p) refl ∙ sym (append-nil l)
typed_sent l (c ∷ p) (d ∷ q) =
    by_test (λ (a : List Sending). typed (l ++ (c ∷ p)) a ≡ l ++ (d ∷ q)) (eqb c d)
    (λ same.
    ap (λ (k : List ℕ). typed k (sent p q)) (sym (append_assoc l (c ∷ []) p))
    ∙ typed_sent (l ++ (c ∷ [])) p q
    ∙ append_assoc l (c ∷ []) q
    ∙ ap (λ (k : ℕ). l ++ (k ∷ q)) (eqb-true c d same))
    (λ _.
    typed_append (l ++ (c ∷ p)) (take_back (c ∷ p)) (send (d ∷ q))
    ∙ ap (λ (k : List ℕ). typed k (send (d ∷ q))) (typed_take_back l (c ∷ p) (c ∷ p) refl)
    ∙ typed_send l (d ∷ q))

pub signs_append : (a b : List Item) → signs (a ++ b) ≡ signs a ++ signs b
signs_append [] b = refl
signs_append (i ∷ a) b =
    ap (λ (l : List ℕ). sign_of i ++ l) (signs_append a b) ∙ sym (append_assoc (sign_of i) (signs a) (signs b))

-- Sentence 4, one event and then a sequence: l is the line before.

abbrev Shows : List ℕ → Machine → Answer → Type 0
Shows l m r = typed (l ++ shown m.resting) r.sendings ≡ (l ++ signs r.items) ++ shown r.machine.resting

step_shows : (g : Lent) (l : List ℕ) (m : Machine) (e : Event) → Shows l m (step g m e)
step_shows g l m e =
    step_cases (Shows l m) g m e
    (λ n _. ap (λ (k : List ℕ). k ++ shown m.resting) (sym (append-nil l)))
    (λ i _.
    let d = one_event g m.settings e.stamp m.resting (acts_as m.held i) in
    typed_sent l (shown m.resting) (signs d.items ++ shown d.resting)
    ∙ sym (append_assoc l (signs d.items) (shown d.resting)))

pub run_shows : (g : Lent) (l : List ℕ) (m : Machine) (es : List Event)
    → typed (l ++ shown m.resting) (along g sendings_in m es) ≡ (l ++ signs (along g items_in m es)) ++ shown (after g m es).resting
run_shows g l m [] = ap (λ (k : List ℕ). k ++ shown m.resting) (sym (append-nil l))
run_shows g l m (e ∷ es) =
    let n = (step g m e).machine in
    let new = signs (step g m e).items in
    let more = signs (along g items_in n es) in
    typed_append (l ++ shown m.resting) (step g m e).sendings (along g sendings_in n es)
    ∙ ap (λ (k : List ℕ). typed k (along g sendings_in n es)) (step_shows g l m e)
    ∙ run_shows g (l ++ new) n es
    ∙ ap (λ (k : List ℕ). k ++ shown (after g n es).resting)
    (append_assoc l new more ∙ ap (λ (k : List ℕ). l ++ k) (sym (signs_append (step g m e).items (along g items_in n es))))

-- Sentence 5.

-- a backspace, behind `before` among sendings, leaves a line l and comes before every sign
pub record Harmless (l p : List ℕ) (before : List Sending) : Type 0 where
  pub line_stays : Begins (typed (l ++ p) (before ++ (backspace ∷ []))) l
  pub no_sign_before : signs_among before ≡ []

no_backspace_sent : (q : List ℕ) (before behind : List Sending) → send q ≡ before ++ (backspace ∷ behind) → ⊥
no_backspace_sent [] [] behind e = nil≢cons e
no_backspace_sent [] (b ∷ before) behind e = nil≢cons e
no_backspace_sent (c ∷ q) [] behind e = let z : ◌≡◌ {A = ℕ} 0 1 = cc in omega arith
no_backspace_sent (c ∷ q) (b ∷ before) behind e = no_backspace_sent q before behind (tail-eq_of_cons-eq e)

-- backspaces for p, then signs: every backspace among them, r being at least as long as p
taken_back : (l r p q : List ℕ) (before behind : List Sending) → length p ≤ length r
    → take_back p ++ send q ≡ before ++ (backspace ∷ behind) → Harmless l r before
taken_back l r [] q before behind le e = absurd (no_backspace_sent q before behind e)
taken_back l [] (c ∷ p) q before behind le e = absurd (omega arith)
taken_back l (a ∷ r) (c ∷ p) q [] behind le e =
    record { line_stays = record { rest = without_last (a ∷ r); joined = without_last_append l a r }; no_sign_before = refl }
taken_back l (a ∷ r) (c ∷ p) q (backspace ∷ before) behind le e =
    let more = taken_back l (without_last (a ∷ r)) p q before behind (rw (length_without_last a r) (omega arith)) (tail-eq_of_cons-eq e) in
    record {
      line_stays = record {
        rest = more.line_stays.rest;
        joined = ap (λ (k : List ℕ). typed k (before ++ (backspace ∷ []))) (without_last_append l a r) ∙ more.line_stays.joined;
      };
      no_sign_before = more.no_sign_before;
    }
taken_back l (a ∷ r) (c ∷ p) q (sign d ∷ before) behind le e = absurd (let z : ◌≡◌ {A = ℕ} 0 1 = cc in omega arith)

pub sent_harmless : (l p q : List ℕ) (before behind : List Sending) → sent p q ≡ before ++ (backspace ∷ behind) → Harmless l p before
unfolding sent
sent_harmless l [] q before behind e = taken_back l [] [] q before behind (omega arith) e
sent_harmless l (c ∷ p) [] before behind e =
    taken_back l (c ∷ p) (c ∷ p) [] before behind (omega arith) (append-nil (take_back (c ∷ p)) ∙ e)
sent_harmless l (c ∷ p) (d ∷ q) before behind e =
    by_test (λ (a : List Sending). a ≡ before ++ (backspace ∷ behind) → Harmless l (c ∷ p) before) (eqb c d)
    (λ _ f.
    let more = sent_harmless (l ++ (c ∷ [])) p q before behind f in
    record {
      line_stays = record {
        rest = c ∷ more.line_stays.rest;
        joined =
            ap (λ (k : List ℕ). typed k (before ++ (backspace ∷ []))) (sym (append_assoc l (c ∷ []) p))
            ∙ more.line_stays.joined
            ∙ append_assoc l (c ∷ []) more.line_stays.rest;
      };
      no_sign_before = more.no_sign_before;
    })
    (λ _ f. taken_back l (c ∷ p) (c ∷ p) (d ∷ q) before behind (omega arith) f)
    e

pub step_harmless : (g : Lent) (l : List ℕ) (m : Machine) (e : Event) (before behind : List Sending)
    → (step g m e).sendings ≡ before ++ (backspace ∷ behind) → Harmless l (shown m.resting) before
step_harmless g l m e before behind =
    step_cases (λ (r : Answer). r.sendings ≡ before ++ (backspace ∷ behind) → Harmless l (shown m.resting) before) g m e
    (λ n _ f. absurd (no_backspace_sent [] before behind f))
    (λ i _ f. sent_harmless l (shown m.resting) _ before behind f)
