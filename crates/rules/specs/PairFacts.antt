-- What holds of the lists of Pairs.antt, and lists to try: those that are accepted, and those that each condition refuses. The
-- proofs are in proofs/Pairs.antt, that of GoodExactly in proofs/Good.antt, that of the longest wait in proofs/Longest.antt.
use Rattle.std.specs.Prelude.{ℕ, zero, suc, ◌≤◌, ◌<◌, Bool, true, false, List, [], ◌∷◌, ◌++◌, map, ◌↔◌, ◌≢◌, ◌⊎◌, ◌≡◌, length, take}
use Rattle.std.proofs.Math.Option.{some}
use Rattle.rules.specs.Numbers.{in_range, W}
use Rattle.rules.specs.LayoutFacts.{key}
use Rattle.rules.specs.Pairs.{Pair, Lent, T_s_least, T_s_most, N_least, N_most, is_of, pair_of, is_pair, in_some_pair}
use Rattle.rules.specs.Pairs.{none_twice, is_pair_character, each_good, lent_good, W_pairs, longest}
use Rattle.rules.specs.declared.Key.{Key}
use Rattle.rules.specs.declared.Settings.{Settings}

-- a pair with its keys the other way round
abbrev pub turned : Pair → Pair
turned p = record { first = p.second; second = p.first; character = p.character }

-- a key with which key k is a pair
pub record Partner (l : List Pair) (k : Key) : Type 0 where
  pub other : Key
  pub together : is_pair l k other ≡ true

-- of every list l and keys a, b
pub record PairFacts (l : List Pair) (a b : Key) : Type 0 where
  -- order within a pair ignored, as asked and as listed
  pub either_order : pair_of l a b ≡ pair_of l b a
  pub as_listed : (p : Pair) → pair_of (turned p ∷ l) a b ≡ pair_of (p ∷ l) a b
  -- a list with no pair twice has one character for two keys: that of their pair, wherever it stands
  pub one_character :
      none_twice l ≡ true → (upto rest : List Pair) (p : Pair) → l ≡ upto ++ (p ∷ rest)
      → is_of p a b ≡ true → pair_of l a b ≡ some p.character
  -- the keys of a pair are in some pair, and no others are
  pub first_in : is_pair l a b ≡ true → in_some_pair l a ≡ true
  pub second_in : is_pair l a b ≡ true → in_some_pair l b ≡ true
  pub has_partner : in_some_pair l a ≡ true → Partner l a
  -- of a list whose pairs are each good: what it gives is a pair's character, and no key is a pair with itself
  pub good_character : each_good l ≡ true → (c : ℕ) → pair_of l a b ≡ some c → is_pair_character c ≡ true
  pub not_itself : each_good l ≡ true → is_pair l a a ≡ false

-- What 9/12 asks of what is lent, in numbers. Of a pair: two different keys below 31, and its character.
pub record PairAsked (p : Pair) : Type 0 where
  pub keys_differ : p.first.0 ≢ p.second.0
  pub first_below : p.first.0 < 31
  pub second_below : p.second.0 < 31
  pub from_0020 : 0x0020 ≤ p.character
  pub to_FFFF : p.character ≤ 0xFFFF
  pub no_surrogate : p.character < 0xD800 ⊎ 0xDFFF < p.character

-- two pairs are of the same two keys, in either order
abbrev pub SameTwo : Pair → Pair → Type 0
SameTwo p q =
    (p.first.0 ≡ q.first.0 × p.second.0 ≡ q.second.0) ⊎ (p.first.0 ≡ q.second.0 × p.second.0 ≡ q.first.0)

-- of the whole: no pair p stands once more, as q, anywhere behind it
pub record LentAsked (g : Lent) : Type 0 where
  pub at_most_64 : length g.pairs ≤ 64
  pub none_again : (upto between rest : List Pair) (p q : Pair) → g.pairs ≡ upto ++ (p ∷ (between ++ (q ∷ rest))) → ¬ SameTwo p q
  pub each_pair : (upto rest : List Pair) (p : Pair) → g.pairs ≡ upto ++ (p ∷ rest) → PairAsked p
  pub T_s_from_50 : 50 ≤ g.t_s
  pub T_s_to_1000 : g.t_s ≤ 1_000
  pub N_from_1 : 1 ≤ g.n
  pub N_to_99 : g.n ≤ 99

-- it is accepted exactly when it is so
abbrev pub GoodExactly : Lent → Type 0
GoodExactly g = lent_good g ≡ true ↔ LentAsked g

-- no pairs, T_s and N in range
abbrev pub NoPairsGood : ℕ → ℕ → Type 0
NoPairsGood t n =
    T_s_least ≤ t → t ≤ T_s_most → N_least ≤ n → n ≤ N_most → lent_good (record { pairs = []; t_s = t; n = n }) ≡ true

-- The longest wait, of everything lent and settings in range.
pub record LongestWait (g : Lent) (s : Settings) : Type 0 where
  pub without_pairs : g.pairs ≡ [] → longest g s ≡ W s
  pub with_pairs : g.pairs ≢ [] → longest g s ≡ W_pairs g s
  -- pairs make it no shorter
  pub no_shorter : W s ≤ longest g s
  -- it is made from T, J, L, T_s and N alone
  pub from_numbers : (h : Lent) (u : Settings) → h.t_s ≡ g.t_s → h.n ≡ g.n → u.t ≡ s.t → u.j ≡ s.j → u.l ≡ s.l
      → W_pairs h u ≡ W_pairs g s

abbrev pub LongestWaitStatement : Type 0
LongestWaitStatement = (g : Lent) (s : Settings) → in_range s ≡ true → LongestWait g s

-- two keys and their character
abbrev pub pair : ℕ → ℕ → ℕ → Pair
pair a b c = record { first = key a; second = key b; character = c }

-- Lists to try: what is lent, and whether it is accepted.
pub record Trial : Type 0 where
  pub lent : Lent
  pub accepted : Bool

-- T_s and N
abbrev pub with_times : List Pair → ℕ → ℕ → Bool → Trial
with_times l t n r = record { lent = record { pairs = l; t_s = t; n = n }; accepted = r }

-- T_s=100, N=50 unless said
abbrev pub with_pairs : List Pair → Bool → Trial
with_pairs l r = with_times l 100 50 r

-- か where nothing hangs on the character
abbrev pub both : ℕ → ℕ → Pair
both a b = pair a b 0x304B

-- key k with each key below n; every pair of the keys below n
abbrev pub with_each : ℕ → ℕ → List Pair
with_each k zero = []
with_each k (suc n) = both k n ∷ with_each k n

abbrev pub all_below : ℕ → List Pair
all_below zero = []
all_below (suc n) = with_each n n ++ all_below n

abbrev pub trials : List Trial
trials =
    with_pairs [] true ∷
    with_pairs (both 21 24 ∷ both 24 0 ∷ both 30 21 ∷ []) true ∷
    -- the first key and the last
    with_pairs (both 0 30 ∷ []) true ∷
    -- up to 64: the keys below 12 have 66 pairs
    with_pairs (take 63 (all_below 12)) true ∷
    with_pairs (take 64 (all_below 12)) true ∷
    with_pairs (take 65 (all_below 12)) false ∷
    -- no pair twice, in either order, with any character
    with_pairs (both 21 24 ∷ both 0 1 ∷ both 21 24 ∷ []) false ∷
    with_pairs (both 21 24 ∷ both 0 1 ∷ both 24 21 ∷ []) false ∷
    with_pairs (pair 21 24 0x41 ∷ pair 24 21 0x42 ∷ []) false ∷
    -- no key with itself
    with_pairs (both 21 24 ∷ both 21 21 ∷ []) false ∷
    -- keys below 31
    with_pairs (both 31 21 ∷ []) false ∷
    with_pairs (both 21 31 ∷ []) false ∷
    -- its character
    with_pairs (pair 21 24 0x1F ∷ []) false ∷
    with_pairs (pair 21 24 0x20 ∷ []) true ∷
    with_pairs (pair 21 24 0xD7FF ∷ []) true ∷
    with_pairs (pair 21 24 0xD800 ∷ []) false ∷
    with_pairs (pair 21 24 0xDFFF ∷ []) false ∷
    with_pairs (pair 21 24 0xE000 ∷ []) true ∷
    with_pairs (pair 21 24 0xFFFF ∷ []) true ∷
    with_pairs (pair 21 24 0x10000 ∷ []) false ∷
    -- T_s, with no pairs too
    with_times [] 49 50 false ∷
    with_times [] 50 50 true ∷
    with_times [] 1_000 50 true ∷
    with_times [] 1_001 50 false ∷
    with_times (both 21 24 ∷ []) 49 50 false ∷
    with_times (both 21 24 ∷ []) 1_001 50 false ∷
    -- N
    with_times [] 100 0 false ∷
    with_times [] 100 1 true ∷
    with_times [] 100 99 true ∷
    with_times [] 100 100 false ∷
    with_times (both 21 24 ∷ []) 100 0 false ∷
    with_times (both 21 24 ∷ []) 100 100 false ∷ []

abbrev pub tried : Trial → Trial
tried t = record { lent = t.lent; accepted = lent_good t.lent }

abbrev pub TrialsHold : Type 0
TrialsHold = map tried trials ≡ trials
