-- The code's table. That it is the one of `place_of` is a test that antt computes over all 256 entries, where `entry` is proved.
use Prim.Native.Nat.{ℕ, zero, suc, ◌+◌, ◌-◌, ◌<◌, ◌≤◌, ◌*◌, ◌/◌, ◌%◌}
use native.Mathlib.Nat.{add-zero, add-suc, suc-add, le_of_suc-le-suc, not-suc-le-zero}
use native.Mathlib.Omega.{arith}
use mathlib.Core.Bool.{Bool, true, false, ◌||◌, true≢false}
use mathlib.Core.List.{List, [], ◌∷◌}
use mathlib.Core.Option.{Option, none, some}
use mathlib.Core.Path.{◌≡◌, refl, sym, ◌∙◌, ap}
use lib.Dec.{eqb}
use lib.ListN.{get_or}
use borrow.Author.Tests.{eqb-true, ne_eqb, le-leb, lt-leb}
use Rattle.rules.specs.Numbers.{within}
use Rattle.rules.specs.Layout.{table, face_of, code_point}
use Rattle.rules.specs.declared.Key.{Key}
use Rattle.rules.specs.declared.Thumb.TheVariants.{Left, Right}
use Rattle.rules.specs.declared.Face.{Face}
use Rattle.rules.specs.declared.Face.TheVariants.{Plain, With}
use Rattle.rules.proofs.LayoutFacts.{every, every_at, is_there}
use Rattle.lookup.proofs.PlaceFacts.{agrees, no_empty_face, nothing_else}
use Rattle.lookup.specs.Places.{Place, place, place_of}
use Rattle.lookup.specs.Entries.{face_number, entry_of, place_at}

-- what f gives from i on, n times
abbrev pub counted : (ℕ → ℕ) → ℕ → ℕ → List ℕ
counted f i zero = []
counted f i (suc n) = f i ∷ counted f (suc i) n

counted_at : (f : ℕ → ℕ) (i n k : ℕ) → k < n → get_or (counted f i n) k 0 ≡ f (i + k)
counted_at f i zero k h = absurd (not-suc-le-zero h)
counted_at f i (suc n) zero h = ap f (sym (add-zero i))
counted_at f i (suc n) (suc k) h = counted_at f (suc i) n k (le_of_suc-le-suc h) ∙ ap f (suc-add i k ∙ sym (add-suc i k))

-- U+3000 to U+30FF
unfoldable pub entries : List ℕ
entries = counted (λ c. entry_of (place_of c)) 0x3000 256

pub entry_at : (i : ℕ) → i < 256 → get_or entries i 0 ≡ entry_of (place_of (0x3000 + i))
unfolding entries
entry_at i h = counted_at (λ c. entry_of (place_of c)) 0x3000 256 i h

-- An entry says what it was made of.

face_and_key : (n k : ℕ) → k < 32 → ((32 * n + k) / 32 ≡ n) × ((32 * n + k) % 32 ≡ k)
face_and_key n k h = (omega arith, omega arith)

decode_place : (k : ℕ) (f : Face) → k < 32 → place_at (32 * face_number f + k) ≡ some (place k f)
unfolding place_at
decode_place k Plain h = rw ((face_and_key 1 k h).0, (face_and_key 1 k h).1)
decode_place k (With Left) h = rw ((face_and_key 2 k h).0, (face_and_key 2 k h).1)
decode_place k (With Right) h = rw ((face_and_key 3 k h).0, (face_and_key 3 k h).1)

decode_none : place_at 0 ≡ none
unfolding place_at
decode_none = refl

pub decoded : (c : ℕ) → place_at (entry_of (place_of c)) ≡ place_of c
decoded c = go (place_of c) refl
  where
    go : (o : Option Place) → place_of c ≡ o → place_at (entry_of o) ≡ o
    go none e = decode_none
    go (some p) e =
        let there : p.key.0 < 31 = is_there p.key p.face (λ z. no_empty_face p (ap place_of (sym z ∙ agrees c p e) ∙ e)) in
        decode_place p.key.0 p.face (omega arith)

-- Code points outside the table.

abbrev is_usual : ℕ → Bool
is_usual d = (eqb d 0 || eqb d 0xFF0E) || (eqb d 0xFF0C || within 0x3000 0x30FF d)

all_usual : (f : Face) → every is_usual (face_of f table) ≡ true
unfolding table
all_usual Plain = refl
all_usual (With Left) = refl
all_usual (With Right) = refl

-- a code point of the layout passes that test
usual : (k : Key) (f : Face) → is_usual (code_point k f) ≡ true
unfolding code_point
usual k f = every_at is_usual (face_of f table) refl (all_usual f) k.0

-- what is not in the table and is neither of the two signs is on no face
pub outside : (c : ℕ) → is_usual c ≡ false → place_of c ≡ none
outside c h = nothing_else c (λ k f e. true≢false (sym (usual k f) ∙ ap is_usual e ∙ h))

-- 0 is none of them, by the definition
zero_nowhere : place_of 0 ≡ none
unfolding place_of
zero_nowhere = refl

nowhere : (c : ℕ) → (c ≡ 0xFF0E → ⊥) → (c ≡ 0xFF0C → ⊥) → within 0x3000 0x30FF c ≡ false → none ≡ place_of c
nowhere c a b w = go (eqb c 0) refl
  where
    go : (t : Bool) → eqb c 0 ≡ t → none ≡ place_of c
    go true z = sym (ap place_of (eqb-true c 0 z) ∙ zero_nowhere)
    go false z = sym (outside c (rw (z, ne_eqb c 0xFF0E a, ne_eqb c 0xFF0C b, w)))

pub below_table : (c : ℕ) → (c ≡ 0xFF0E → ⊥) → (c ≡ 0xFF0C → ⊥) → c < 0x3000 → none ≡ place_of c
below_table c a b h = nowhere c a b (rw (lt-leb 0x3000 c h))

pub above_table : (c : ℕ) → (c ≡ 0xFF0E → ⊥) → (c ≡ 0xFF0C → ⊥) → 0x30FF < c → none ≡ place_of c
above_table c a b h = nowhere c a b (rw (le-leb 0x3000 c (omega arith), lt-leb c 0x30FF h))

pub ruleset outside_table = (below_table, above_table)

-- what the entry of a code point of the table says
pub in_table : (c e : ℕ) (r : Option Place) → 0x3000 ≤ c → e ≡ entry_of (place_of (0x3000 + (c - 0x3000))) → r ≡ place_at e
    → r ≡ place_of c
in_table c e r h entry read =
    let same : 0x3000 + (c - 0x3000) ≡ c = omega arith in
    read ∙ ap place_at (entry ∙ ap (λ (n : ℕ). entry_of (place_of n)) same) ∙ decoded c
