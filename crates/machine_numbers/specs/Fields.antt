-- The numbers of a machine (`in_numbers`), and the machine that numbers name (`named`). M is a character key pressed at m, K a second one
-- pressed at k, O a thumb pressed at o, r the release of the thumb in S6, of M in S8. Any key, stamps and settings are allowed here:
-- whether a machine is well formed is asked of the machine.
use Rattle.std.specs.Prelude.{ℕ, Bool, ◌&&◌, ltb, eqb}
use Rattle.std.proofs.Math.Option.{Option, none, some}
use Rattle.choice.specs.Choice.{if◌then◌orelse◌}
use Rattle.rules.specs.States.{at}
use Rattle.rules.specs.declared.Stamp.{Stamp}
use Rattle.rules.specs.declared.Key.{Key}
use Rattle.rules.specs.declared.Thumb.{Thumb}
use Rattle.rules.specs.declared.Thumb.TheVariants.{Left, Right}
use Rattle.rules.specs.declared.Settings.{Settings}
use Rattle.rules.specs.declared.Resting.{Resting}
use Rattle.rules.specs.declared.Resting.TheVariants.{S1, S2, S3, S4, S5, S6, S7, S8}
use Rattle.rules.specs.declared.Machine.{Machine}
use Rattle.machine_numbers.specs.declared.MachineNumbers.{MachineNumbers}

-- 0 is the left thumb, 1 the right one
unfoldable pub thumb_number : Thumb → ℕ
thumb_number Left = 0
thumb_number Right = 1

-- the numbers of what rests
pub record Rest : Type 0 where
  pub state : ℕ
  pub key : ℕ
  pub m : Stamp
  pub second : ℕ
  pub k : Stamp
  pub thumb : ℕ
  pub o : Stamp
  pub r : Stamp

-- a number that a state does not use is 0
abbrev pub rest : Resting → Rest
rest S1 = record { state = 1; key = 0; m = at 0; second = 0; k = at 0; thumb = 0; o = at 0; r = at 0 }
rest (S2 M m) = record { state = 2; key = M.0; m = m; second = 0; k = at 0; thumb = 0; o = at 0; r = at 0 }
rest (S3 O o) = record { state = 3; key = 0; m = at 0; second = 0; k = at 0; thumb = thumb_number O; o = o; r = at 0 }
rest (S4 M m O o) = record { state = 4; key = M.0; m = m; second = 0; k = at 0; thumb = thumb_number O; o = o; r = at 0 }
rest (S5 O o M m) = record { state = 5; key = M.0; m = m; second = 0; k = at 0; thumb = thumb_number O; o = o; r = at 0 }
rest (S6 O o M m r) = record { state = 6; key = M.0; m = m; second = 0; k = at 0; thumb = thumb_number O; o = o; r = r }
rest (S7 M m K k) = record { state = 7; key = M.0; m = m; second = K.0; k = k; thumb = 0; o = at 0; r = at 0 }
rest (S8 M m K k r) = record { state = 8; key = M.0; m = m; second = K.0; k = k; thumb = 0; o = at 0; r = r }

-- these beside the settings, the last accepted stamp and the held keys
abbrev pub joined : Machine → Rest → MachineNumbers
joined x n =
    record {
      last = x.last;
      m = n.m;
      k = n.k;
      o = n.o;
      r = n.r;
      held = x.held;
      second = n.second;
      t = x.settings.t;
      j = x.settings.j;
      l = x.settings.l;
      solo = x.settings.solo;
      state = n.state;
      key = n.key;
      thumb = n.thumb;
    }

-- the numbers of a machine
unfoldable pub in_numbers : Machine → MachineNumbers
in_numbers x = joined x (rest x.resting)

-- a key's number is one of 8 bits
abbrev pub key_numbers : ℕ
key_numbers = 256

-- M and m are 0
unfoldable pub no_character : MachineNumbers → Bool
no_character f = eqb f.key 0 && eqb f.m.0 0

-- K and k are 0
unfoldable pub no_second : MachineNumbers → Bool
no_second f = eqb f.second 0 && eqb f.k.0 0

-- K's number has room in a key: it is below 256
unfoldable pub second_fits : MachineNumbers → Bool
second_fits f = ltb f.second key_numbers

-- O and o are 0
unfoldable pub no_thumb : MachineNumbers → Bool
no_thumb f = eqb f.thumb 0 && eqb f.o.0 0

-- r is 0
unfoldable pub no_release : MachineNumbers → Bool
no_release f = eqb f.r.0 0

-- M
abbrev pub character : MachineNumbers → Key
character f = record { 0 = f.key }

-- K
abbrev pub second_character : MachineNumbers → Key
second_character f = record { 0 = f.second }

-- what rests with O, if its number is 0 or 1
abbrev pub with_thumb : MachineNumbers → (Thumb → Resting) → Option Resting
with_thumb f x =
    if eqb f.thumb 0 then some (x Left) orelse
    if eqb f.thumb 1 then some (x Right) orelse none

-- what rests in each state, if what the state does not use is 0
unfoldable pub as_S1 : MachineNumbers → Option Resting
as_S1 f = if no_character f && no_second f && no_thumb f && no_release f then some S1 orelse none

unfoldable pub as_S2 : MachineNumbers → Option Resting
as_S2 f = if no_second f && no_thumb f && no_release f then some (S2 (character f) f.m) orelse none

unfoldable pub as_S3 : MachineNumbers → Option Resting
as_S3 f = if no_character f && no_second f && no_release f then with_thumb f (λ O. S3 O f.o) orelse none

unfoldable pub as_S4 : MachineNumbers → Option Resting
as_S4 f = if no_second f && no_release f then with_thumb f (λ O. S4 (character f) f.m O f.o) orelse none

unfoldable pub as_S5 : MachineNumbers → Option Resting
as_S5 f = if no_second f && no_release f then with_thumb f (λ O. S5 O f.o (character f) f.m) orelse none

unfoldable pub as_S6 : MachineNumbers → Option Resting
as_S6 f = if no_second f then with_thumb f (λ O. S6 O f.o (character f) f.m f.r) orelse none

unfoldable pub as_S7 : MachineNumbers → Option Resting
as_S7 f =
    if no_thumb f && no_release f && second_fits f then some (S7 (character f) f.m (second_character f) f.k) orelse none

unfoldable pub as_S8 : MachineNumbers → Option Resting
as_S8 f = if no_thumb f && second_fits f then some (S8 (character f) f.m (second_character f) f.k f.r) orelse none

-- a state is 1 to 8
unfoldable pub resting_named : MachineNumbers → Option Resting
resting_named f =
    if eqb f.state 1 then as_S1 f orelse
    if eqb f.state 2 then as_S2 f orelse
    if eqb f.state 3 then as_S3 f orelse
    if eqb f.state 4 then as_S4 f orelse
    if eqb f.state 5 then as_S5 f orelse
    if eqb f.state 6 then as_S6 f orelse
    if eqb f.state 7 then as_S7 f orelse
    if eqb f.state 8 then as_S8 f orelse none

abbrev pub settings_named : MachineNumbers → Settings
settings_named f = record { t = f.t; j = f.j; l = f.l; solo = f.solo }

-- the machine in which x rests
abbrev pub around : MachineNumbers → Option Resting → Option Machine
around f none = none
around f (some x) = some (record { settings = settings_named f; resting = x; last = f.last; held = f.held })

-- the machine that numbers name, or none
unfoldable pub named : MachineNumbers → Option Machine
named f = around f (resting_named f)

-- No machine: every number is 0.

-- numbers that name no machine: there is no state 0
abbrev pub no_machine : MachineNumbers
no_machine =
    record {
      last = at 0;
      m = at 0;
      k = at 0;
      o = at 0;
      r = at 0;
      held = 0;
      second = 0;
      t = 0;
      j = 0;
      l = 0;
      solo = 0;
      state = 0;
      key = 0;
      thumb = 0;
    }

abbrev pub numbers_of : Option Machine → MachineNumbers
numbers_of none = no_machine
numbers_of (some x) = in_numbers x

-- T, J, L and solo are 0
unfoldable pub no_settings : MachineNumbers → Bool
no_settings f = eqb f.t 0 && eqb f.j 0 && eqb f.l 0 && eqb f.solo 0

-- no state, no last stamp, no held key and no settings
unfoldable pub unopened : MachineNumbers → Bool
unopened f = eqb f.state 0 && eqb f.last.0 0 && eqb f.held 0 && no_settings f

unfoldable pub is_no_machine : MachineNumbers → Bool
is_no_machine f = unopened f && no_character f && no_second f && no_thumb f && no_release f
