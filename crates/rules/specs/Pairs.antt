-- Document 02, 9/12, "Two letters as a chord": what a desk lends, when it is accepted, what is read off its list, and the waits that
-- come with it. PairFacts.antt has the laws and lists to try.
use Rattle.std.specs.Prelude.{ℕ, ◌+◌, ◌-◌, ◌*◌, max, Bool, true, false, not, ◌&&◌, ◌||◌, List, [], ◌∷◌, ltb, leb, eqb, length}
use Rattle.std.proofs.Math.Option.{Option, none, some}
use Rattle.choice.specs.Choice.{if◌then◌orelse◌}
use Rattle.rules.specs.Numbers.{keys, within, up, A, D, FJ, W}
use Rattle.rules.specs.declared.Key.{Key}
use Rattle.rules.specs.declared.Settings.{Settings}

-- A pair: two character keys, and the code point of the character that they give together.
pub record Pair : Type 0 where
  pub first : Key
  pub second : Key
  pub character : ℕ

-- What is lent with every event, tick and asking: the list of pairs, T_s in milliseconds and N in percent.
pub record Lent : Type 0 where
  pub pairs : List Pair
  pub t_s : ℕ
  pub n : ℕ

abbrev pub pairs_most : ℕ
pairs_most = 64

abbrev pub T_s_least : ℕ
T_s_least = 50

abbrev pub T_s_most : ℕ
T_s_most = 1_000

abbrev pub N_least : ℕ
N_least = 1

abbrev pub N_most : ℕ
N_most = 99

unfoldable pub same_key : Key → Key → Bool
same_key a b = eqb a.0 b.0

-- a pair names two keys, in this order
unfoldable pub names : Pair → Key → Key → Bool
names p a b = same_key p.first a && same_key p.second b

-- order within a pair ignored
unfoldable pub is_of : Pair → Key → Key → Bool
is_of p a b = names p a b || names p b a

-- the character that the list gives two keys, none where they are no pair
unfoldable pub pair_of : List Pair → Key → Key → Option ℕ
pair_of [] a b = none
pair_of (p ∷ l) a b = if is_of p a b then some p.character orelse pair_of l a b

abbrev pub is_some : Option ℕ → Bool
is_some none = false
is_some (some c) = true

-- two keys are a pair of the list
abbrev pub is_pair : List Pair → Key → Key → Bool
is_pair l a b = is_some (pair_of l a b)

abbrev pub or_0 : Option ℕ → ℕ
or_0 none = 0
or_0 (some c) = c

-- the character that the list gives two keys; 0, which is no character, where they are no pair
abbrev pub pair_character : List Pair → Key → Key → ℕ
pair_character l a b = or_0 (pair_of l a b)

-- a key is in some pair of the list
unfoldable pub in_some_pair : List Pair → Key → Bool
in_some_pair [] k = false
in_some_pair (p ∷ l) k = same_key p.first k || same_key p.second k || in_some_pair l k

-- no pair twice
unfoldable pub none_twice : List Pair → Bool
none_twice [] = true
none_twice (p ∷ l) = not (is_pair l p.first p.second) && none_twice l

-- U+0020 to U+FFFF without the surrogates
unfoldable pub is_pair_character : ℕ → Bool
is_pair_character c = within 0x20 0xFFFF c && not (within 0xD800 0xDFFF c)

-- no key with itself; keys below 31; its character
unfoldable pub pair_good : Pair → Bool
pair_good p =
    not (same_key p.first p.second)
    && ltb p.first.0 keys
    && ltb p.second.0 keys
    && is_pair_character p.character

unfoldable pub each_good : List Pair → Bool
each_good [] = true
each_good (p ∷ l) = pair_good p && each_good l

-- Up to 64 pairs; no pair twice; each pair by itself; T_s 50 to 1,000; N 1 to 99. Else refused 12.
unfoldable pub lent_good : Lent → Bool
lent_good g =
    leb (length g.pairs) pairs_most
    && none_twice g.pairs
    && each_good g.pairs
    && within T_s_least T_s_most g.t_s
    && within N_least N_most g.n

-- No pairs. T_s and N are in range, and nothing hangs on them.
abbrev pub no_pairs : Lent
no_pairs = record { pairs = []; t_s = T_s_least; n = N_least }

-- GN(x) = x(100-N)/N, for a lag x, rounded up
unfoldable pub GN : ℕ → ℕ → ℕ
GN n x = up (x * (100 - n)) n

-- P = GN(T_s)
unfoldable pub P : Lent → ℕ
P g = GN g.n g.t_s

-- How long a character waits alone: A. If its key is in some pair: the larger of A and P.
unfoldable pub alone : Lent → Settings → Key → ℕ
alone g s M = if in_some_pair g.pairs M then max (A s) (P g) orelse A s

-- X where there are pairs: the largest of A, P and D
unfoldable pub X_pairs : Lent → Settings → ℕ
X_pairs g s = max (max (A s) (P g)) (D s)

-- W where there are pairs: X_pairs + the largest of X_pairs, FJ(X_pairs) and T_s + P
unfoldable pub W_pairs : Lent → Settings → ℕ
W_pairs g s = X_pairs g s + max (max (X_pairs g s) (FJ s (X_pairs g s))) (g.t_s + P g)

abbrev pub if_any : List Pair → ℕ → ℕ → ℕ
if_any [] without with_pairs = without
if_any (p ∷ l) without with_pairs = with_pairs

-- the longest wait: W where there are no pairs
unfoldable pub longest : Lent → Settings → ℕ
longest g s = if_any g.pairs (W s) (W_pairs g s)
