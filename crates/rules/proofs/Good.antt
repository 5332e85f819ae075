-- What is lent is accepted exactly when it is as document 02 asks, in numbers: each test and what it says, both ways.
use Prim.Native.Nat.{ℕ, ◌≤◌, ◌<◌}
use mathlib.Core.Bool.{true, false, not, ◌&&◌, and-eq-true_iff, false≢true}
use mathlib.Core.List.{List, [], ◌∷◌, ◌++◌}
use mathlib.Core.Logic.{◌⊎◌, inl, inr}
use mathlib.Core.Path.{◌≡◌, refl, sym, ◌∙◌, ap}
use borrow.Author.Tests.{ltb-true, leb-false, eqb-false, lt-ltb, le-leb, lt-leb, ne_eqb, not-true}
use lib.Dec.{ltb, leb, eqb}
use lib.ListN.{length}
use Rattle.rules.specs.Numbers.{keys, within}
use Rattle.rules.specs.OneEvent.{same_key}
use Rattle.rules.specs.Pairs.{Pair, Lent, pairs_most, T_s_least, T_s_most, N_least, N_most, names, is_of, pair_of}
use Rattle.rules.specs.Pairs.{is_pair, none_twice, is_pair_character, pair_good, each_good, lent_good}
use Rattle.rules.specs.PairFacts.{PairAsked, SameTwo, LentAsked, GoodExactly}
use Rattle.rules.specs.declared.Key.{Key}
use Rattle.choice.proofs.Choices.{either}
use Rattle.rules.proofs.Tests.{within_bounds, good_bounds}
use Rattle.rules.proofs.Pairs.{named, as_named, as_turned, found, one_of}

-- A character.

within_test : (least most n : ℕ) → least ≤ n → n ≤ most → within least most n ≡ true
within_test least most n a b = rw (le-leb least n a, le-leb n most b)

outside : (least most n : ℕ) → within least most n ≡ false → n < least ⊎ most < n
outside least most n e =
    either (leb least n) (λ h. inr (leb-false n most (rw h at e))) (λ h. inl (leb-false least n h))

outside_test : (least most n : ℕ) → n < least ⊎ most < n → within least most n ≡ false
outside_test least most n (inl below) = rw (lt-leb least n below)
outside_test least most n (inr above) = rw (lt-leb n most above) (either (leb least n) (λ h. rw h) (λ h. rw h))

-- A pair.

asked : (p : Pair) → pair_good p ≡ true → PairAsked p
unfolding pair_good is_pair_character same_key
asked p e =
    let c = p.character in
    let apart = not (eqb p.first.0 p.second.0) in
    let one = ltb p.first.0 keys in
    let two = ltb p.second.0 keys in
    let all = (and-eq-true_iff (apart && one && two) (within 0x20 0xFFFF c && not (within 0xD800 0xDFFF c))).0 e in
    let three = (and-eq-true_iff (apart && one) two).0 all.0 in
    let first = (and-eq-true_iff apart one).0 three.0 in
    let sign = (and-eq-true_iff (within 0x20 0xFFFF c) (not (within 0xD800 0xDFFF c))).0 all.1 in
    let bounds = within_bounds 0x20 0xFFFF c sign.0 in
    record {
      keys_differ = eqb-false p.first.0 p.second.0 (not-true _ first.0);
      first_below = ltb-true p.first.0 keys first.1;
      second_below = ltb-true p.second.0 keys three.1;
      from_0020 = bounds.0;
      to_FFFF = bounds.1;
      no_surrogate = outside 0xD800 0xDFFF c (not-true _ sign.1);
    }

passes : (p : Pair) → PairAsked p → pair_good p ≡ true
unfolding pair_good is_pair_character same_key
passes p a =
    rw (
      ne_eqb p.first.0 p.second.0 a.keys_differ,
      lt-ltb p.first.0 keys a.first_below,
      lt-ltb p.second.0 keys a.second_below,
      within_test 0x20 0xFFFF p.character a.from_0020 a.to_FFFF,
      outside_test 0xD800 0xDFFF p.character a.no_surrogate,
    )

good_at : (upto rest : List Pair) (p : Pair) → each_good (upto ++ (p ∷ rest)) ≡ true → pair_good p ≡ true
unfolding each_good
good_at [] rest p e = ((and-eq-true_iff (pair_good p) (each_good rest)).0 e).0
good_at (q ∷ upto) rest p e = good_at upto rest p ((and-eq-true_iff (pair_good q) (each_good (upto ++ (p ∷ rest)))).0 e).1

all_good : (l : List Pair) → ((upto rest : List Pair) (p : Pair) → l ≡ upto ++ (p ∷ rest) → PairAsked p) → each_good l ≡ true
unfolding each_good
all_good [] f = refl
all_good (p ∷ l) f =
    rw (passes p (f [] l p refl)) (all_good l (λ upto rest q e. f (p ∷ upto) rest q (ap (λ (k : List Pair). p ∷ k) e)))

-- No pair twice.

same_of : (p q : Pair) → SameTwo p q → is_of q p.first p.second ≡ true
same_of p q (inl e) = as_named q p.first p.second (sym e.0) (sym e.1)
same_of p q (inr e) = as_turned q p.first p.second (sym e.1) (sym e.0)

of_same : (p q : Pair) → is_of q p.first p.second ≡ true → SameTwo p q
unfolding is_of
of_same p q e =
    one_of (names q p.first p.second) (names q p.second p.first) e
    (λ h. let n = named q p.first p.second h in inl (sym n.0, sym n.1))
    (λ h. let n = named q p.second p.first h in inr (sym n.1, sym n.0))

not_again : (upto between rest : List Pair) (p q : Pair) → none_twice (upto ++ (p ∷ (between ++ (q ∷ rest)))) ≡ true → ¬ SameTwo p q
unfolding none_twice
not_again [] between rest p q e same =
    let behind = between ++ (q ∷ rest) in
    let once = ((and-eq-true_iff (not (is_pair behind p.first p.second)) (none_twice behind)).0 e).0 in
    false≢true (sym (not-true _ once) ∙ found between rest q p.first p.second (same_of p q same))
not_again (x ∷ upto) between rest p q e same =
    let behind = upto ++ (p ∷ (between ++ (q ∷ rest))) in
    not_again upto between rest p q ((and-eq-true_iff (not (is_pair behind x.first x.second)) (none_twice behind)).0 e).1 same

no_pair_of : (l : List Pair) (a b : Key) → ((upto rest : List Pair) (q : Pair) → l ≡ upto ++ (q ∷ rest) → is_of q a b ≡ false)
    → is_pair l a b ≡ false
unfolding pair_of
no_pair_of [] a b f = refl
no_pair_of (q ∷ l) a b f =
    rw (f [] l q refl) (no_pair_of l a b (λ upto rest x e. f (q ∷ upto) rest x (ap (λ (k : List Pair). q ∷ k) e)))

all_once : (l : List Pair)
    → ((upto between rest : List Pair) (p q : Pair) → l ≡ upto ++ (p ∷ (between ++ (q ∷ rest))) → ¬ SameTwo p q)
    → none_twice l ≡ true
unfolding none_twice
all_once [] f = refl
all_once (p ∷ l) f =
    rw (no_pair_of l p.first p.second once)
    (all_once l (λ upto between rest x y e. f (p ∷ upto) between rest x y (ap (λ (k : List Pair). p ∷ k) e)))
  where
    once : (between rest : List Pair) (q : Pair) → l ≡ between ++ (q ∷ rest) → is_of q p.first p.second ≡ false
    once between rest q e =
        either (is_of q p.first p.second)
        (λ h. absurd (f [] between rest p q (ap (λ (k : List Pair). p ∷ k) e) (of_same p q h)))
        (λ h. h)

-- The whole.

lent_asked : (g : Lent) → lent_good g ≡ true → LentAsked g
lent_asked g e =
    let b = good_bounds g e in
    record {
      at_most_64 = b.few;
      none_again = λ upto between rest p q at. not_again upto between rest p q (ap none_twice (sym at) ∙ b.once);
      each_pair = λ upto rest p at. asked p (good_at upto rest p (ap each_good (sym at) ∙ b.each));
      T_s_from_50 = b.T_s_bounds.0;
      T_s_to_1000 = b.T_s_bounds.1;
      N_from_1 = b.N_bounds.0;
      N_to_99 = b.N_bounds.1;
    }

lent_passes : (g : Lent) → LentAsked g → lent_good g ≡ true
unfolding lent_good
lent_passes g a =
    rw (
      le-leb (length g.pairs) pairs_most a.at_most_64,
      all_once g.pairs a.none_again,
      all_good g.pairs a.each_pair,
      within_test T_s_least T_s_most g.t_s a.T_s_from_50 a.T_s_to_1000,
      within_test N_least N_most g.n a.N_from_1 a.N_to_99,
    )

pub good_exactly : (g : Lent) → GoodExactly g
good_exactly g = (lent_asked g, lent_passes g)
