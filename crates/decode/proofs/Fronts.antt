-- A sequence lies within the bytes at whose front it stands.
use Prim.Native.Nat.{ℕ, zero, suc, ◌/◌, ◌%◌, ◌<◌}
use native.Mathlib.Omega.{arith}
use mathlib.Core.Bool.{Bool, true, false, not, ◌&&◌, false≢true}
use mathlib.Core.Path.{◌≡◌, refl}
use mathlib.Core.List.{List, [], ◌∷◌}
use lib.Dec.{eqb}
use lib.ListN.{length}
use Rattle.choice.specs.Choice.{if◌then◌orelse◌}
use Rattle.choice.proofs.Choices.{both_ways}
use Rattle.decode.specs.Sequences.{continues, joined, within, surrogate, two, three, four, byte, front}
use Rattle.decode.specs.Sequences.{Sequence}
use Rattle.decode.specs.Sequences.{Damaged, Word}

first_of : (p q : Bool) → p && q ≡ true → p ≡ true
first_of true q e = refl
first_of false q e = e

second_of : (p q : Bool) → p && q ≡ true → q ≡ true
second_of true q e = e
second_of false q e = absurd (false≢true e)

-- a byte that continues a sequence is there
there : (s : List ℕ) (i : ℕ) → continues (byte i s) ≡ true → i < length s
unfolding continues
there [] i e = absurd (false≢true e)
there (b ∷ s) zero e = omega arith
there (b ∷ s) (suc i) e = let h : i < length s = there s i e in omega arith

-- of the word at the front of n bytes, fewer bytes than n follow the first
pub data Follow (n : ℕ) : Sequence → Type 0 where
  none : Follow n Damaged
  some : {w more : ℕ} → more < n → Follow n (Word w more)

of_form : (n w more : ℕ) (p : Bool) → (p ≡ true → more < n) → Follow n (if p then Word w more orelse Damaged)
of_form n w more true f = some (f refl)
of_form n w more false f = none

front_within : (s : List ℕ) → 0 < length s → Follow (length s) (front s)
unfolding front two three four
front_within s h =
    let P : Sequence → Type 0 = Follow (length s) in
    let a : ℕ = byte 0 s in
    let b : ℕ = byte 1 s in
    let c : ℕ = byte 2 s in
    let d : ℕ = byte 3 s in
    let v : ℕ = joined (joined (a % 16) b) c in
    both_ways P (eqb (a / 128) 0b0) (some h)
    (both_ways P (eqb (a / 32) 0b110)
    (of_form _ _ _ (continues b && within 0x80 0x7FF (joined (a % 32) b)) (λ e. there s 1 (first_of _ _ e)))
    (both_ways P (eqb (a / 16) 0b1110)
    (of_form _ _ _ (continues b && continues c && within 0x800 0xFFFF v && not (surrogate v))
    (λ e. there s 2 (second_of (continues b) (continues c) (first_of _ _ (first_of _ _ e)))))
    (both_ways P (eqb (a / 8) 0b11110)
    (of_form _ _ _ (continues b && continues c && continues d && within 0x10000 0x10FFFF (joined (joined (joined (a % 8) b) c) d))
    (λ e. there s 3 (second_of (continues b && continues c) (continues d) (first_of _ _ e))))
    none)))

less : {n w more : ℕ} → Follow n (Word w more) → more < n
less (some l) = l

pub follow : (s : List ℕ) (w more : ℕ) → 0 < length s → front s ≡ Word w more → more < length s
follow s w more h e = less (rw e at (front_within s h))
