-- FJ with N for J.
use Prim.Native.Nat.{ℕ, ◌-◌, ◌*◌}
use mathlib.Core.Path.{◌≡◌, refl}
use Rattle.rules.specs.Numbers.{settings_of, up, FJ}

pub by_N : (n x : ℕ) → FJ (settings_of 0 n 0 0) x ≡ up (x * n) (100 - n)
unfolding FJ
by_N n x = refl
