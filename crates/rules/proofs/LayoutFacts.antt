-- The facts of the layout. Two tests are computed over all entries of the table, and each is turned into a law for every key
-- and face.
use Prim.Native.Nat.{ℕ, zero, suc, ◌+◌, ◌<◌, ◌≤◌}
use mathlib.Core.Bool.{Bool, true, false, not, ◌&&◌, ◌||◌, and-eq-true_iff}
use mathlib.Core.List.{List, [], ◌∷◌, ◌++◌}
use mathlib.Core.Logic.{◌≢◌}
use mathlib.Core.Path.{◌≡◌, refl, sym, ◌∙◌, ap}
use native.Mathlib.Decide.{dec_lt}
use native.Mathlib.Omega.{arith}
use borrow.Author.Tests.{ltb-true, eqb-true, eqb-false, not-true}
use lib.Dec.{ltb, eqb}
use lib.ListN.{length, get_or, get_or-append, get_or-eq_default}
use lib.Seq.{get_or-append-add}
use Rattle.rules.specs.Layout.{table, face_of, code_point}
use Rattle.rules.specs.LayoutFacts.{key, all_faces, SamePlace, LayoutFacts}
use Rattle.rules.specs.declared.Key.{Key}
use Rattle.rules.specs.declared.Thumb.TheVariants.{Left, Right}
use Rattle.rules.specs.declared.Face.{Face}
use Rattle.rules.specs.declared.Face.TheVariants.{Plain, With}

-- every entry passes the test f
abbrev pub every : (ℕ → Bool) → List ℕ → Bool
every f [] = true
every f (c ∷ l) = f c && every f l

pub every_at : (f : ℕ → Bool) (l : List ℕ) → f 0 ≡ true → every f l ≡ true → (i : ℕ) → f (get_or l i 0) ≡ true
every_at f [] z e i = z
every_at f (c ∷ l) z e zero = ((and-eq-true_iff (f c) (every f l)).0 e).0
every_at f (c ∷ l) z e (suc i) = every_at f l z ((and-eq-true_iff (f c) (every f l)).0 e).1 i

-- c is not among the entries
abbrev absent : ℕ → List ℕ → Bool
absent c [] = true
absent c (d ∷ l) = not (eqb c d) && absent c l

-- no entry but 0 stands twice
abbrev distinct : List ℕ → Bool
distinct [] = true
distinct (c ∷ l) = (eqb c 0 || absent c l) && distinct l

absent_at : (c : ℕ) (l : List ℕ) → c ≢ 0 → absent c l ≡ true → (i : ℕ) → c ≢ get_or l i 0
absent_at c [] n e i = n
absent_at c (d ∷ l) n e zero = eqb-false c d (not-true (eqb c d) ((and-eq-true_iff (not (eqb c d)) (absent c l)).0 e).0)
absent_at c (d ∷ l) n e (suc i) = absent_at c l n ((and-eq-true_iff (not (eqb c d)) (absent c l)).0 e).1 i

absent_after : (c : ℕ) (l : List ℕ) → c ≢ 0 → (eqb c 0 || absent c l) ≡ true → absent c l ≡ true
absent_after c l n e = go (eqb c 0) refl e
  where
    go : (b : Bool) → eqb c 0 ≡ b → (b || absent c l) ≡ true → absent c l ≡ true
    go true q h = absurd (n (eqb-true c 0 q))
    go false q h = h

-- an entry that is not 0 stands at one place
one_place : (l : List ℕ) → distinct l ≡ true → (i j : ℕ) → get_or l i 0 ≢ 0 → get_or l i 0 ≡ get_or l j 0 → i ≡ j
one_place [] d i j n e = absurd (n refl)
one_place (c ∷ l) d zero zero n e = refl
one_place (c ∷ l) d zero (suc j) n e =
    absurd (absent_at c l n (absent_after c l n ((and-eq-true_iff (eqb c 0 || absent c l) (distinct l)).0 d).0) j e)
one_place (c ∷ l) d (suc i) zero n e =
    let m : c ≢ 0 = λ z. n (e ∙ z) in
    absurd (absent_at c l m (absent_after c l m ((and-eq-true_iff (eqb c 0 || absent c l) (distinct l)).0 d).0) i (sym e))
one_place (c ∷ l) d (suc i) (suc j) n e = ap suc (one_place l ((and-eq-true_iff (eqb c 0 || absent c l) (distinct l)).0 d).1 i j n e)

-- where a key's face stands among all faces
abbrev place : Face → ℕ → ℕ
place Plain k = k
place (With Left) k = 31 + k
place (With Right) k = 31 + (31 + k)

each_31 : (f : Face) → length (face_of f table) ≡ 31
unfolding table
each_31 Plain = refl
each_31 (With Left) = refl
each_31 (With Right) = refl

beyond : (k : Key) (f : Face) → 31 ≤ k.0 → code_point k f ≡ 0
unfolding code_point
beyond k f h = get_or-eq_default (face_of f table) 0 (rw each_31 h)

-- a key with a character is one of the thirty-one
pub is_there : (k : Key) (f : Face) → code_point k f ≢ 0 → k.0 < 31
is_there k f n = go (dec_lt k.0 31)
  where
    go : Dec (k.0 < 31) → k.0 < 31
    go (yes h) = h
    go (no h) = absurd (n (beyond k f (omega arith)))

-- three lists behind one another: the entries of each
module _ (p l r : List ℕ) (i : ℕ) where
  of_first : i < length p → get_or (p ++ (l ++ r)) i 0 ≡ get_or p i 0
  of_first h = get_or-append p (l ++ r) 0 i h

  of_second : {n : ℕ} → length p ≡ n → i < length l → get_or (p ++ (l ++ r)) (n + i) 0 ≡ get_or l i 0
  of_second e h = rw (← e) (get_or-append-add p (l ++ r) i 0 ∙ get_or-append l r 0 i h)

  of_third : {n m : ℕ} → length p ≡ n → length l ≡ m → get_or (p ++ (l ++ r)) (n + (m + i)) 0 ≡ get_or r i 0
  of_third e d = rw (← e, ← d) (get_or-append-add p (l ++ r) (length l + i) 0 ∙ get_or-append-add l r i 0)

among_all : (k : Key) (f : Face) → k.0 < 31 → get_or (all_faces table) (place f k.0) 0 ≡ code_point k f
unfolding code_point
among_all k Plain h = of_first (face_of Plain table) (face_of (With Left) table) (face_of (With Right) table) k.0 (rw each_31 h)
among_all k (With Left) h =
    of_second (face_of Plain table) (face_of (With Left) table) (face_of (With Right) table) k.0 (each_31 Plain) (rw each_31 h)
among_all k (With Right) h =
    of_third (face_of Plain table) (face_of (With Left) table) (face_of (With Right) table) k.0 (each_31 Plain) (each_31 (With Left))

same : {k k' : ℕ} (f : Face) → k ≡ k' → SamePlace (key k) (key k') f f
same f e = record { same_key = ap key e; same_face = refl }

same_place : (f f' : Face) (k k' : ℕ) → k < 31 → k' < 31 → place f k ≡ place f' k' → SamePlace (key k) (key k') f f'
same_place Plain Plain k k' h h' e = same Plain e
same_place Plain (With Left) k k' h h' e = absurd (omega arith)
same_place Plain (With Right) k k' h h' e = absurd (omega arith)
same_place (With Left) Plain k k' h h' e = absurd (omega arith)
same_place (With Left) (With Left) k k' h h' e = same (With Left) (omega arith)
same_place (With Left) (With Right) k k' h h' e = absurd (omega arith)
same_place (With Right) Plain k k' h h' e = absurd (omega arith)
same_place (With Right) (With Left) k k' h h' e = absurd (omega arith)
same_place (With Right) (With Right) k k' h h' e = same (With Right) (omega arith)

all_distinct : distinct (all_faces table) ≡ true
unfolding table
all_distinct = refl

once : (k k' : Key) (f f' : Face) → code_point k f ≢ 0 → code_point k f ≡ code_point k' f' → SamePlace k k' f f'
once k k' f f' n e =
    let h : k.0 < 31 = is_there k f n in
    let h' : k'.0 < 31 = is_there k' f' (λ z. n (e ∙ z)) in
    let p = among_all k f h in
    let p' = among_all k' f' h' in
    same_place f f' k.0 k'.0 h h' (one_place (all_faces table) all_distinct _ _ (λ z. n (sym p ∙ z)) (p ∙ e ∙ sym p'))

all_below : (f : Face) → every (λ c. ltb c 65_536) (face_of f table) ≡ true
unfolding table
all_below Plain = refl
all_below (With Left) = refl
all_below (With Right) = refl

below : (k : Key) (f : Face) → code_point k f < 65_536
unfolding code_point
below k f = ltb-true _ _ (every_at (λ c. ltb c 65_536) (face_of f table) refl (all_below f) k.0)

pub layout_facts : LayoutFacts
unfolding code_point table
layout_facts =
    record {
      thirty_one_keys = each_31;
      characters_86 = refl;
      empty_7 = refl;
      none_twice = once;
      below_65536 = below;
      stop = refl;
      comma = refl;
      C06_right = refl;
      C07_right = refl;
      C06_left = refl;
      key_21_plain = refl;
      key_21_left = refl;
      key_21_right = refl;
      key_24_plain = refl;
      key_24_left = refl;
      key_24_right = refl;
    }
