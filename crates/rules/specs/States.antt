-- Document 01, "Resting states": deadlines, the fresh state and well-formedness.
-- In every state M is a character key pressed at m, K a second one pressed at k, O a thumb pressed at o; r is the release of the
-- thumb in S6, of M in S8. g is what is lent (9/12).
use Rattle.std.specs.Prelude.{ℕ, ◌+◌, ◌-◌, min, Bool, true, ◌&&◌, ltb, leb, eqb, Result, Ok, Err}
use Rattle.std.proofs.Math.Option.{Option, none, some}
use Rattle.choice.specs.Choice.{if◌then◌orelse◌}
use Rattle.rules.specs.Numbers.{keys, largest_stamp, in_range, B, FJ, FL}
use Rattle.rules.specs.Pairs.{Lent, is_pair, GN, alone}
use Rattle.rules.specs.Held.{held_formed}
use Rattle.rules.specs.declared.Stamp.{Stamp}
use Rattle.rules.specs.declared.Key.{Key}
use Rattle.rules.specs.declared.Settings.{Settings}
use Rattle.rules.specs.declared.Resting.{Resting}
use Rattle.rules.specs.declared.Resting.TheVariants.{S1, S2, S3, S4, S5, S6, S7, S8}
use Rattle.rules.specs.declared.Machine.{Machine}
use Rattle.rules.specs.declared.Refusal.{Refusal}
use Rattle.rules.specs.Refusal.{number_of}

-- the stamp of a number of milliseconds
abbrev pub at : ℕ → Stamp
at n = record { 0 = n }

-- the lag from stamp a to stamp b: b-a
abbrev pub lag : Stamp → Stamp → ℕ
lag a b = b.0 - a.0

-- the stamp a lag later
abbrev pub later : Stamp → ℕ → Stamp
later a x = at (a.0 + x)

-- the next deadline of a resting state, or none
abbrev pub deadline : Lent → Settings → Resting → Option Stamp
deadline g s S1 = none
deadline g s (S2 M m) = some (later m (alone g s M))
deadline g s (S3 O o) = if eqb s.solo 1 then some (later o (B s)) orelse none
deadline g s (S4 M m O o) = some (later o (FJ s (lag m o)))
deadline g s (S5 O o M m) = some (later m (FL s (min (lag o m) (B s))))
deadline g s (S6 O o M m r) = some (later r (lag m r))
deadline g s (S7 M m K k) = some (later k g.t_s)
deadline g s (S8 M m K k r) = some (later r (GN g.n (lag k r)))

-- a fresh state: no key is held
abbrev pub fresh : Settings → Machine
fresh s = record { settings = s; resting = S1; last = at 0; held = 0 }

-- keys below 31
abbrev pub is_key : Key → Bool
is_key k = ltb k.0 keys

abbrev pub keys_below : Resting → Bool
keys_below S1 = true
keys_below (S2 M m) = is_key M
keys_below (S3 O o) = true
keys_below (S4 M m O o) = is_key M
keys_below (S5 O o M m) = is_key M
keys_below (S6 O o M m r) = is_key M
keys_below (S7 M m K k) = is_key M && is_key K
keys_below (S8 M m K k r) = is_key M && is_key K

abbrev pub at_or_before : Stamp → Stamp → Bool
at_or_before a b = leb a.0 b.0

-- every stamp at most the last accepted one
abbrev pub stamps_by : Stamp → Resting → Bool
stamps_by last S1 = true
stamps_by last (S2 M m) = at_or_before m last
stamps_by last (S3 O o) = at_or_before o last
stamps_by last (S4 M m O o) = at_or_before m last && at_or_before o last
stamps_by last (S5 O o M m) = at_or_before o last && at_or_before m last
stamps_by last (S6 O o M m r) = at_or_before o last && at_or_before m last && at_or_before r last
stamps_by last (S7 M m K k) = at_or_before m last && at_or_before k last
stamps_by last (S8 M m K k r) = at_or_before m last && at_or_before k last && at_or_before r last

-- m≤o in S4, o≤m in S5, o≤m≤r in S6, m≤k in S7, m≤k≤r in S8
abbrev pub in_order : Resting → Bool
in_order S1 = true
in_order (S2 M m) = true
in_order (S3 O o) = true
in_order (S4 M m O o) = at_or_before m o
in_order (S5 O o M m) = at_or_before o m
in_order (S6 O o M m r) = at_or_before o m && at_or_before m r
in_order (S7 M m K k) = at_or_before m k
in_order (S8 M m K k r) = at_or_before m k && at_or_before k r

-- two waiting letters are a pair of the lent list
abbrev pub pair_lent : Lent → Resting → Bool
pair_lent g S1 = true
pair_lent g (S2 M m) = true
pair_lent g (S3 O o) = true
pair_lent g (S4 M m O o) = true
pair_lent g (S5 O o M m) = true
pair_lent g (S6 O o M m r) = true
pair_lent g (S7 M m K k) = is_pair g.pairs M K
pair_lent g (S8 M m K k r) = is_pair g.pairs M K

unfoldable pub well_formed : Lent → Machine → Bool
well_formed g x =
    in_range x.settings
    && keys_below x.resting
    && stamps_by x.last x.resting
    && at_or_before x.last (at largest_stamp)
    && in_order x.resting
    && held_formed x.held
    && pair_lent g x.resting

-- Opening a machine: the number given back, and the machine if there is one.
pub record Opening : Type 0 where
  pub number : ℕ
  pub machine : Option Machine

-- number 1 and no state where the settings are out of range, else a fresh state
unfoldable pub opening : Settings → Opening
opening s = if in_range s then record { number = 0; machine = some (fresh s) } orelse record { number = 1; machine = none }

-- what the cases of the answer of `Machine::open` say
abbrev pub opened : Result Machine Refusal → Opening
opened (Err e) = record { number = number_of e; machine = none }
opened (Ok m) = record { number = 0; machine = some m }
