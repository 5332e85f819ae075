-- Document 01, "Numbers": the fixed numbers of the machine, the range of the settings, the four waits and the longest wait.
use Rattle.std.specs.Prelude.{ℕ, ◌+◌, ◌-◌, ◌*◌, ◌/◌, max, Bool, ◌&&◌, leb}
use Rattle.rules.specs.declared.Settings.{Settings}

-- the short-overlap time, in milliseconds
abbrev pub short_overlap_time : ℕ
short_overlap_time = 400

-- how many character keys there are
abbrev pub keys : ℕ
keys = 31

-- how many of them may be held at once (7/12 of document 02)
abbrev pub most_held : ℕ
most_held = 6

abbrev pub largest_stamp : ℕ
largest_stamp = 1_000_000_000_000

-- the bounds of T, in milliseconds (the upper one by 4/12 of document 02)
abbrev pub T_least : ℕ
T_least = 50

abbrev pub T_most : ℕ
T_most = 1_000

-- the bounds of J and L, in percent
abbrev pub percent_least : ℕ
percent_least = 1

abbrev pub percent_most : ℕ
percent_most = 99

-- n lies from the least to the most, both included
abbrev pub within : ℕ → ℕ → ℕ → Bool
within least most n = leb least n && leb n most

-- T 50 to 1,000; J and L 1 to 99; solo 0 or 1
unfoldable pub in_range : Settings → Bool
in_range s =
    within T_least T_most s.t
    && within percent_least percent_most s.j
    && within percent_least percent_most s.l
    && within 0 1 s.solo

-- T, J, L, solo
abbrev pub settings_of : ℕ → ℕ → ℕ → ℕ → Settings
settings_of t j l solo = record { t = t; j = j; l = l; solo = solo }

-- n / d, rounded up
unfoldable pub up : ℕ → ℕ → ℕ
up n d = (n + (d - 1)) / d

-- A = T(100-J)/J
unfoldable pub A : Settings → ℕ
A s = up (s.t * (100 - s.j)) s.j

-- B = T(100-L)/L
unfoldable pub B : Settings → ℕ
B s = up (s.t * (100 - s.l)) s.l

-- FJ(x) = xJ/(100-J), for a lag x
unfoldable pub FJ : Settings → ℕ → ℕ
FJ s x = up (x * s.j) (100 - s.j)

-- FL(x) = xL/(100-L), for a lag x
unfoldable pub FL : Settings → ℕ → ℕ
FL s x = up (x * s.l) (100 - s.l)

-- D = FL(B)
unfoldable pub D : Settings → ℕ
D s = FL s (B s)

-- X, the larger of A and D
unfoldable pub X : Settings → ℕ
X s = max (A s) (D s)

-- W, the longest wait: X + the larger of X and FJ(X)
unfoldable pub W : Settings → ℕ
W s = X s + max (X s) (FJ s (X s))
