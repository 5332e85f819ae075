-- `place_of` is the inverse of the layout.
use Prim.Native.Nat.{ℕ, zero, suc, ◌+◌, ◌<◌}
use native.Mathlib.Nat.{le_of_suc-le-suc, not-suc-le-zero, add-zero, add-suc, suc-add, zero-add}
use mathlib.Core.List.{List, [], ◌∷◌}
use mathlib.Core.Logic.{◌≢◌}
use mathlib.Core.Option.{Option, none, some}
use mathlib.Core.Path.{◌≡◌, refl, sym, ◌∙◌, ap, ap₂}
use native.Mathlib.Omega.{arith}
use lib.Dec.{eqb}
use lib.ListN.{length, get_or}
use borrow.Author.Tests.{eqb-true, eqb-false}
use Rattle.rules.specs.Layout.{table, face_of, code_point}
use Rattle.rules.specs.declared.Key.{Key}
use Rattle.rules.specs.declared.Thumb.TheVariants.{Left, Right}
use Rattle.rules.specs.declared.Face.{Face}
use Rattle.rules.specs.declared.Face.TheVariants.{Plain, With}
use Rattle.choice.proofs.Choices.{by_test}
use Rattle.rules.proofs.LayoutFacts.{layout_facts, is_there}
use Rattle.lookup.specs.Places.{Place, place, key_from, on_face, or_else, place_of}
use Rattle.lookup.specs.PlaceFacts.{PlaceFacts}

pub none_is_not_some : {X : Type 0} {x : X} → none ≡ some x → ⊥
none_is_not_some e =
    let z : ◌≡◌ {A = ℕ} 0 1 = cc in
    omega arith

some_injective : {X : Type 0} {x y : X} → some x ≡ some y → x ≡ y
some_injective e = cc

-- Searching one face.

-- what is found among l, counted from n, stands there
record StandsIn (n : ℕ) (f : Face) (c : ℕ) (l : List ℕ) (p : Place) : Type 0 where
  at : ℕ
  is_place : p ≡ place (n + at) f
  has_code : get_or l at 0 ≡ c

stands : (n : ℕ) (f : Face) (c : ℕ) (l : List ℕ) (p : Place) → key_from n f c l ≡ some p → StandsIn n f c l p
stands n f c [] p = λ e. absurd (none_is_not_some e)
stands n f c (d ∷ l) p =
    by_test (λ (o : Option Place). o ≡ some p → StandsIn n f c (d ∷ l) p) (eqb d c)
    (λ same e.
    record { at = 0; is_place = sym (some_injective e) ∙ ap (λ (k : ℕ). place k f) (sym (add-zero n)); has_code = eqb-true d c same })
    (λ _ e.
    let r = stands (suc n) f c l p e in
    let next : suc n + r.at ≡ n + suc r.at = suc-add n r.at ∙ sym (add-suc n r.at) in
    record { at = suc r.at; is_place = r.is_place ∙ ap (λ (k : ℕ). place k f) next; has_code = r.has_code })

-- what stands among l is found
missed : (n : ℕ) (f : Face) (c : ℕ) (l : List ℕ) (i : ℕ) → i < length l → get_or l i 0 ≡ c → key_from n f c l ≢ none
missed n f c [] i h e = absurd (not-suc-le-zero h)
missed n f c (d ∷ l) zero h e =
    by_test (λ (o : Option Place). o ≢ none) (eqb d c) (λ _ z. none_is_not_some (sym z)) (λ differs. absurd (eqb-false d c differs e))
missed n f c (d ∷ l) (suc i) h e =
    by_test (λ (o : Option Place). o ≢ none) (eqb d c) (λ _ z. none_is_not_some (sym z))
    (λ _. missed (suc n) f c l i (le_of_suc-le-suc h) e)

-- All three faces.

-- a character that is found on a face is the layout's there
agrees_on : (f : Face) (c : ℕ) (p : Place) → on_face f c ≡ some p → code_point p.key p.face ≡ c
unfolding code_point
agrees_on f c p e =
    let r = stands 0 f c (face_of f table) p e in
    ap (λ (q : Place). get_or (face_of q.face table) q.key.0 0) r.is_place
    ∙ ap (λ (k : ℕ). get_or (face_of f table) k 0) (zero-add r.at)
    ∙ r.has_code

either : (a b : Option Place) (p : Place) (X : Type 0) → (a ≡ some p → X) → (b ≡ some p → X) → or_else a b ≡ some p → X
either (some q) b p X f g e = f e
either none b p X f g e = g e

first_none : (a b : Option Place) → or_else a b ≡ none → a ≡ none
first_none (some q) b e = e
first_none none b e = refl

second_none : (a b : Option Place) → or_else a b ≡ none → b ≡ none
second_none (some q) b e = absurd (none_is_not_some (sym e))
second_none none b e = e

pub agrees : (c : ℕ) (p : Place) → place_of c ≡ some p → code_point p.key p.face ≡ c
unfolding place_of
agrees c p =
    by_test (λ (o : Option Place). o ≡ some p → code_point p.key p.face ≡ c) (eqb c 0)
    (λ _ e. absurd (none_is_not_some e))
    (λ _. either (on_face Plain c) _ p _ (agrees_on Plain c p)
    (either (on_face (With Left) c) _ p _ (agrees_on (With Left) c p) (agrees_on (With Right) c p)))

-- a character of the layout is on the face where it stands
on_its_face : (k : Key) (f : Face) → code_point k f ≢ 0 → on_face f (code_point k f) ≢ none
unfolding code_point
on_its_face k f n = missed 0 f (code_point k f) (face_of f table) k.0 (rw (layout_facts.thirty_one_keys f) (is_there k f n)) refl

not_missed : (k : Key) (f : Face) → code_point k f ≢ 0 → place_of (code_point k f) ≢ none
unfolding place_of
not_missed k f n =
    by_test (λ (o : Option Place). o ≢ none) (eqb (code_point k f) 0)
    (λ z. absurd (n (eqb-true _ _ z)))
    (λ _ e. on_its_face k f n (none_on f e))
  where
    none_on : (g : Face)
        → or_else (on_face Plain (code_point k f))
        (or_else (on_face (With Left) (code_point k f)) (on_face (With Right) (code_point k f))) ≡ none
        → on_face g (code_point k f) ≡ none
    none_on Plain e = first_none (on_face Plain (code_point k f)) _ e
    none_on (With Left) e = first_none (on_face (With Left) (code_point k f)) _ (second_none (on_face Plain (code_point k f)) _ e)
    none_on (With Right) e = second_none (on_face (With Left) (code_point k f)) _ (second_none (on_face Plain (code_point k f)) _ e)

is_found : (k : Key) (f : Face) → code_point k f ≢ 0 → place_of (code_point k f) ≡ some (record { key = k; face = f })
is_found k f n = go (place_of (code_point k f)) refl
  where
    go : (o : Option Place) → place_of (code_point k f) ≡ o → o ≡ some (record { key = k; face = f })
    go none e = absurd (not_missed k f n e)
    go (some p) e =
        let there = agrees (code_point k f) p e in
        let same = layout_facts.none_twice k p.key f p.face n (sym there) in
        ap₂ (λ (q : Key) (g : Face). some (record { key = q; face = g })) (sym same.same_key) (sym same.same_face)

pub no_empty_face : (p : Place) → place_of 0 ≢ some p
unfolding place_of
no_empty_face p e = none_is_not_some e

pub nothing_else : (c : ℕ) → ((k : Key) (f : Face) → code_point k f ≢ c) → place_of c ≡ none
nothing_else c h = go (place_of c) refl
  where
    go : (o : Option Place) → place_of c ≡ o → o ≡ none
    go none e = refl
    go (some p) e = absurd (h p.key p.face (agrees c p e))

pub place_facts : PlaceFacts
place_facts = record { agrees = agrees; no_empty_face = no_empty_face; is_found = is_found; nothing_else = nothing_else }
