-- The laws of lent lists, and the lists to try, which are computed.
use Prim.Native.Nat.{ℕ}
use mathlib.Core.Bool.{Bool, true, false, not, ◌&&◌, ◌||◌, and-eq-true_iff, false≢true}
use mathlib.Core.List.{List, [], ◌∷◌, ◌++◌}
use mathlib.Core.Option.{some, none-ne-some, some-injective}
use mathlib.Core.Path.{◌≡◌, refl, sym, ◌∙◌, ap}
use borrow.Author.Tests.{eqb-true, eq-eqb, le-leb, not-true}
use lib.Dec.{ltb, eqb}
use Rattle.rules.specs.OneEvent.{same_key}
use Rattle.rules.specs.Pairs.{Pair, T_s_least, T_s_most, N_least, N_most, names, is_of, pair_of, is_some, is_pair}
use Rattle.rules.specs.Pairs.{in_some_pair, none_twice, is_pair_character, pair_good, each_good, lent_good}
use Rattle.rules.specs.PairFacts.{turned, Partner, PairFacts, NoPairsGood, TrialsHold}
use Rattle.rules.specs.declared.Key.{Key}
use Rattle.choice.proofs.Choices.{either}

or_swap : (s t : Bool) → (s || t) ≡ (t || s)
or_swap true true = refl
or_swap true false = refl
or_swap false true = refl
or_swap false false = refl

and_swap : (s t : Bool) → (s && t) ≡ (t && s)
and_swap true true = refl
and_swap true false = refl
and_swap false true = refl
and_swap false false = refl

swapped : (p : Pair) (a b : Key) → is_of p a b ≡ is_of p b a
unfolding is_of
swapped p a b = or_swap (names p a b) (names p b a)

either_order : (l : List Pair) (a b : Key) → pair_of l a b ≡ pair_of l b a
unfolding pair_of
either_order [] a b = refl
either_order (p ∷ l) a b = rw (swapped p a b, either_order l a b)

names_turned : (p : Pair) (a b : Key) → names (turned p) a b ≡ names p b a
unfolding names
names_turned p a b = and_swap (same_key p.second a) (same_key p.first b)

turned_alike : (p : Pair) (a b : Key) → is_of (turned p) a b ≡ is_of p a b
unfolding is_of
turned_alike p a b = rw (names_turned p a b, names_turned p b a) (or_swap (names p b a) (names p a b))

as_listed : (l : List Pair) (a b : Key) (p : Pair) → pair_of (turned p ∷ l) a b ≡ pair_of (p ∷ l) a b
unfolding pair_of
as_listed l a b p = rw (turned_alike p a b)

-- a pair's two keys, by their numbers
pub named : (p : Pair) (a b : Key) → names p a b ≡ true → (p.first.0 ≡ a.0) × (p.second.0 ≡ b.0)
unfolding names same_key
named p a b e =
    let both = (and-eq-true_iff (eqb p.first.0 a.0) (eqb p.second.0 b.0)).0 e in
    (eqb-true p.first.0 a.0 both.0, eqb-true p.second.0 b.0 both.1)

naming : (p : Pair) (a b : Key) → p.first.0 ≡ a.0 → p.second.0 ≡ b.0 → names p a b ≡ true
unfolding names same_key
naming p a b e d = rw (eq-eqb p.first.0 a.0 e, eq-eqb p.second.0 b.0 d)

pub one_of : {P : Type 0} (s t : Bool) → (s || t) ≡ true → (s ≡ true → P) → (t ≡ true → P) → P
one_of true t e f g = f refl
one_of false t e f g = g e

or_right : (s t : Bool) → t ≡ true → (s || t) ≡ true
or_right true t e = refl
or_right false t e = e

-- p, with its keys in one order or the other, is the pair of x and y
pub as_named : (p : Pair) (x y : Key) → p.first.0 ≡ x.0 → p.second.0 ≡ y.0 → is_of p x y ≡ true
unfolding is_of
as_named p x y e d = rw (naming p x y e d)

pub as_turned : (p : Pair) (x y : Key) → p.first.0 ≡ y.0 → p.second.0 ≡ x.0 → is_of p x y ≡ true
unfolding is_of
as_turned p x y e d = or_right (names p x y) (names p y x) (naming p y x e d)

-- two pairs of the same keys: one is of the other's keys
shared : (p q : Pair) (a b : Key) → is_of p a b ≡ true → is_of q a b ≡ true → is_of p q.first q.second ≡ true
unfolding is_of
shared p q a b e d =
    one_of (names p a b) (names p b a) e
    (λ h. let n = named p a b h in
    one_of (names q a b) (names q b a) d
    (λ k. let m = named q a b k in as_named p q.first q.second (n.0 ∙ sym m.0) (n.1 ∙ sym m.1))
    (λ k. let m = named q b a k in as_turned p q.first q.second (n.0 ∙ sym m.1) (n.1 ∙ sym m.0)))
    (λ h. let n = named p b a h in
    one_of (names q a b) (names q b a) d
    (λ k. let m = named q a b k in as_turned p q.first q.second (n.0 ∙ sym m.1) (n.1 ∙ sym m.0))
    (λ k. let m = named q b a k in as_named p q.first q.second (n.0 ∙ sym m.0) (n.1 ∙ sym m.1)))

pub found : (upto rest : List Pair) (p : Pair) (x y : Key) → is_of p x y ≡ true → is_pair (upto ++ (p ∷ rest)) x y ≡ true
unfolding pair_of
found [] rest p x y e = rw e
found (q ∷ upto) rest p x y e = either (is_of q x y) (λ h. rw h) (λ h. rw h (found upto rest p x y e))

-- no pair before p is of the same keys, or it would stand twice
at_place : (upto rest : List Pair) (p : Pair) (a b : Key) → none_twice (upto ++ (p ∷ rest)) ≡ true → is_of p a b ≡ true
    → pair_of (upto ++ (p ∷ rest)) a b ≡ some p.character
unfolding pair_of none_twice
at_place [] rest p a b once e = rw e
at_place (q ∷ upto) rest p a b once e =
    let both = (and-eq-true_iff (not (is_pair (upto ++ (p ∷ rest)) q.first q.second)) (none_twice (upto ++ (p ∷ rest)))).0 once in
    either (is_of q a b)
    (λ h. absurd (false≢true (sym (not-true _ both.0) ∙ found upto rest p q.first q.second (shared p q a b e h))))
    (λ h. rw h (at_place upto rest p a b both.1 e))

one_character : (l : List Pair) (a b : Key) → none_twice l ≡ true → (upto rest : List Pair) (p : Pair) → l ≡ upto ++ (p ∷ rest)
    → is_of p a b ≡ true → pair_of l a b ≡ some p.character
one_character l a b once upto rest p e of = rw e (at_place upto rest p a b (rw e at once) of)

first_key : (p : Pair) (a b : Key) → is_of p a b ≡ true → (same_key p.first a || same_key p.second a) ≡ true
unfolding is_of names
first_key p a b e =
    one_of (names p a b) (names p b a) e
    (λ h. rw ((and-eq-true_iff (same_key p.first a) (same_key p.second b)).0 h).0)
    (λ h.
    or_right (same_key p.first a) (same_key p.second a) ((and-eq-true_iff (same_key p.first b) (same_key p.second a)).0 h).1)

first_in : (l : List Pair) (a b : Key) → is_pair l a b ≡ true → in_some_pair l a ≡ true
unfolding pair_of in_some_pair
first_in [] a b e = absurd (false≢true e)
first_in (p ∷ l) a b e =
    either (is_of p a b)
    (λ h. rw (first_key p a b h))
    (λ h. or_right (same_key p.first a || same_key p.second a) (in_some_pair l a) (first_in l a b (rw h at e)))

second_in : (l : List Pair) (a b : Key) → is_pair l a b ≡ true → in_some_pair l b ≡ true
second_in l a b e = first_in l b a (ap is_some (either_order l b a) ∙ e)

same_number : (x k : Key) → same_key x k ≡ true → x.0 ≡ k.0
unfolding same_key
same_number x k e = eqb-true x.0 k.0 e

behind : (p : Pair) (l : List Pair) (x y : Key) → is_pair l x y ≡ true → is_pair (p ∷ l) x y ≡ true
unfolding pair_of
behind p l x y e = either (is_of p x y) (λ h. rw h) (λ h. rw h e)

has_partner : (l : List Pair) (k : Key) → in_some_pair l k ≡ true → Partner l k
unfolding in_some_pair
has_partner [] k e = absurd (false≢true e)
has_partner (p ∷ l) k e =
    one_of (same_key p.first k || same_key p.second k) (in_some_pair l k) e
    (λ h.
    one_of (same_key p.first k) (same_key p.second k) h
    (λ f.
    let of = as_named p k p.second (same_number p.first k f) refl in
    record { other = p.second; together = found [] l p k p.second of })
    (λ f.
    let of = as_turned p k p.first refl (same_number p.second k f) in
    record { other = p.first; together = found [] l p k p.first of }))
    (λ h.
    let w = has_partner l k h in
    record { other = w.other; together = behind p l k w.other w.together })

character_is : (p : Pair) → pair_good p ≡ true → is_pair_character p.character ≡ true
unfolding pair_good
character_is p e =
    ((and-eq-true_iff (not (same_key p.first p.second) && ltb p.first.0 31 && ltb p.second.0 31) _).0 e).1

good_character : (l : List Pair) (a b : Key) → each_good l ≡ true → (c : ℕ) → pair_of l a b ≡ some c → is_pair_character c ≡ true
unfolding pair_of each_good
good_character [] a b e c q = absurd (none-ne-some c q)
good_character (p ∷ l) a b e c q =
    let both = (and-eq-true_iff (pair_good p) (each_good l)).0 e in
    either (is_of p a b)
    (λ h. rw (← some-injective p.character c (rw h at q)) (character_is p both.0))
    (λ h. good_character l a b both.1 c (rw h at q))

-- a pair of a key with itself has the same key twice
doubled : (p : Pair) (a : Key) → is_of p a a ≡ true → same_key p.first p.second ≡ true
unfolding is_of same_key
doubled p a e =
    let n = one_of (names p a a) (names p a a) e (λ h. named p a a h) (λ h. named p a a h) in
    eq-eqb p.first.0 p.second.0 (n.0 ∙ sym n.1)

keys_differ : (p : Pair) → pair_good p ≡ true → same_key p.first p.second ≡ false
unfolding pair_good
keys_differ p e = go (same_key p.first p.second) (ltb p.first.0 31) (ltb p.second.0 31) (is_pair_character p.character) e
  where
    go : (s t u v : Bool) → (not s && t && u && v) ≡ true → s ≡ false
    go true t u v e = absurd (false≢true e)
    go false t u v e = refl

not_itself : (l : List Pair) (a : Key) → each_good l ≡ true → is_pair l a a ≡ false
unfolding pair_of each_good
not_itself [] a e = refl
not_itself (p ∷ l) a e =
    let both = (and-eq-true_iff (pair_good p) (each_good l)).0 e in
    either (is_of p a a)
    (λ h. absurd (false≢true (sym (keys_differ p both.0) ∙ doubled p a h)))
    (λ h. rw h (not_itself l a both.1))

pub pair_facts : (l : List Pair) (a b : Key) → PairFacts l a b
pair_facts l a b =
    record {
      either_order = either_order l a b;
      as_listed = as_listed l a b;
      one_character = one_character l a b;
      first_in = first_in l a b;
      second_in = second_in l a b;
      has_partner = has_partner l a;
      good_character = good_character l a b;
      not_itself = not_itself l a;
    }

pub no_pairs_good : (t n : ℕ) → NoPairsGood t n
unfolding lent_good none_twice each_good
no_pairs_good t n a b c d = rw (le-leb T_s_least t a, le-leb t T_s_most b, le-leb N_least n c, le-leb n N_most d)

pub trials_hold : TrialsHold
unfolding lent_good none_twice each_good pair_good is_pair_character pair_of is_of names same_key
trials_hold = refl
