-- Whether numbers name a machine that is well formed (`formed`), and a machine for any numbers (`machine_at`), which is the named one
-- where they name one. The proof of that is in proofs/Forms.antt.
use Rattle.std.specs.Prelude.{ℕ, ◌%◌, Bool, false, ◌&&◌, ◌≡◌, eqb}
use Rattle.std.proofs.Math.Option.{Option, none, some}
use Rattle.choice.specs.Choice.{if◌then◌orelse◌}
use Rattle.rules.specs.Pairs.{Lent}
use Rattle.rules.specs.States.{keys_below, stamps_by, in_order, pair_lent, well_formed}
use Rattle.rules.specs.declared.Key.{Key}
use Rattle.rules.specs.declared.Stamp.{Stamp}
use Rattle.rules.specs.declared.Thumb.{Thumb}
use Rattle.rules.specs.declared.Thumb.TheVariants.{Left, Right}
use Rattle.rules.specs.declared.Resting.{Resting}
use Rattle.rules.specs.declared.Resting.TheVariants.{S1, S2, S3, S4, S5, S6, S7, S8}
use Rattle.rules.specs.declared.Machine.{Machine}
use Rattle.machine_numbers.specs.declared.MachineNumbers.{MachineNumbers}
use Rattle.machine_numbers.specs.Fields.{key_numbers, character, settings_named, named}

-- a machine that is named, and well formed
abbrev pub names_formed : Lent → Option Machine → Bool
names_formed g none = false
names_formed g (some m) = well_formed g m

unfoldable pub formed : Lent → MachineNumbers → Bool
formed g f = names_formed g (named f)

-- what rests is named, and well formed by the last stamp
abbrev pub rest_formed : Lent → Stamp → Option Resting → Bool
rest_formed g last none = false
rest_formed g last (some x) = keys_below x && (stamps_by last x && in_order x) && pair_lent g x

-- a thumb for any number
unfoldable pub thumb_at : ℕ → Thumb
thumb_at n = if eqb n 0 then Left orelse Right

-- K for any number
abbrev pub second_at : MachineNumbers → Key
second_at f = record { 0 = f.second % key_numbers }

-- what rests, for any numbers
unfoldable pub resting_at : MachineNumbers → Resting
resting_at f =
    if eqb f.state 2 then S2 (character f) f.m orelse
    if eqb f.state 3 then S3 (thumb_at f.thumb) f.o orelse
    if eqb f.state 4 then S4 (character f) f.m (thumb_at f.thumb) f.o orelse
    if eqb f.state 5 then S5 (thumb_at f.thumb) f.o (character f) f.m orelse
    if eqb f.state 6 then S6 (thumb_at f.thumb) f.o (character f) f.m f.r orelse
    if eqb f.state 7 then S7 (character f) f.m (second_at f) f.k orelse
    if eqb f.state 8 then S8 (character f) f.m (second_at f) f.k f.r orelse S1

-- a machine for any numbers
unfoldable pub machine_at : MachineNumbers → Machine
machine_at f = record { settings = settings_named f; resting = resting_at f; last = f.last; held = f.held }

-- where numbers name a machine, it is that one
abbrev pub AtNamed : Type 0
AtNamed = (f : MachineNumbers) (m : Machine) → named f ≡ some m → machine_at f ≡ m
