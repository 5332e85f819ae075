-- What is read off the words of a list is what the definitions read off its pairs.
use Prim.Native.Nat.{ℕ, suc}
use mathlib.Core.Bool.{Bool, true, false, ◌||◌}
use mathlib.Core.List.{List, [], ◌∷◌}
use mathlib.Core.Path.{◌≡◌, refl, ap, sym, ◌∙◌}
use lib.ListN.{length}
use Rattle.std.specs.List.{list_any, list_all}
use Rattle.rules.specs.Pairs.{same_key, is_pair, in_some_pair, none_twice, pair_good, each_good}
use Rattle.rules.specs.declared.Key.{Key}
use Rattle.pairs.specs.Lent.{pair_in, pairs_in}

pub length_pairs : (l : List ℕ) → length (pairs_in l) ≡ length l
length_pairs [] = refl
length_pairs (w ∷ l) = ap suc (length_pairs l)

pub any_names : (l : List ℕ) (k : Key)
    → list_any (λ w. same_key (pair_in w).first k || same_key (pair_in w).second k) l ≡ in_some_pair (pairs_in l) k
unfolding in_some_pair
any_names [] k = refl
any_names (w ∷ l) k = rw (any_names l k)

pub all_good : (l : List ℕ) → list_all (λ w. pair_good (pair_in w)) l ≡ each_good (pairs_in l)
unfolding each_good
all_good [] = refl
all_good (w ∷ l) = rw (all_good l)

-- a word and those behind it: whether its pair stands among theirs, by the two keys that are read off it
module _ (all l r : List ℕ) (w : ℕ) {x y : Key} {t : Bool} (again-is : t ≡ is_pair (pairs_in r) x y) (first-is : x ≡ (pair_in w).first)
    (second-is : y ≡ (pair_in w).second) (front : l ≡ w ∷ r) (same : none_twice (pairs_in l) ≡ none_twice (pairs_in all)) where
  pub found_twice : t ≡ true → false ≡ none_twice (pairs_in all)
  unfolding none_twice
  found_twice twice = rw (← same, front, ← first-is, ← second-is, ← again-is, twice)

  pub found_once : t ≡ false → none_twice (pairs_in r) ≡ none_twice (pairs_in all)
  unfolding none_twice
  found_once once = sym (rw (front, ← first-is, ← second-is, ← again-is, once)) ∙ same
