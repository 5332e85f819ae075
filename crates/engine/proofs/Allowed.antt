-- Which kinds and keys are allowed, by how many keys a kind may name.
use Prim.Native.Nat.{ℕ, zero, suc}
use native.Mathlib.Omega.{arith}
use borrow.Author.Tests.{le-ltb, ne_eqb}
use mathlib.Core.Bool.{true, false}
use mathlib.Core.Option.{none, some}
use mathlib.Core.Path.{◌≡◌, refl, sym, ◌∙◌}
use lib.Dec.{eqb, ltb}
use Rattle.choice.specs.Choice.{if◌then◌orelse◌}
use Rattle.rules.specs.GivenBack.{input}
use Rattle.rules.specs.declared.Key.{Key}
use Rattle.rules.specs.declared.Thumb.{Thumb}
use Rattle.rules.specs.declared.Thumb.TheVariants.{Left, Right}
use Rattle.rules.specs.declared.Input.{Input}
use Rattle.rules.specs.declared.Kind.{Kind}
use Rattle.rules.specs.declared.Kind.TheVariants as kinds
use Rattle.rules.specs.Refusal.{kind_number}
use Rattle.rules.specs.declared.Input.TheVariants.{ThumbDown, ThumbUp, FunctionDown, Tick}
use Rattle.states.specs.Meant.{meant}
use Rattle.engine.specs.Views.{keys_of}

-- a thumb is 0 or 1
two_keys : (f : Thumb → Input) (n : ℕ)
    → (if ltb n 2 then some (f (if eqb n 0 then Left orelse Right)) orelse none)
    ≡ (if eqb n 0 then some (f Left) orelse if eqb n 1 then some (f Right) orelse none)
two_keys f zero = refl
two_keys f (suc zero) = refl
two_keys f (suc (suc n)) =
    rw (le-ltb (suc (suc n)) 2 (omega arith), ne_eqb (suc (suc n)) 0 (λ e. omega arith), ne_eqb (suc (suc n)) 1 (λ e. omega arith))

-- no key is 0
one_key : (i : Input) (n : ℕ) → (if ltb n 1 then some i orelse none) ≡ (if eqb n 0 then some i orelse none)
one_key i zero = refl
one_key i (suc n) = rw (le-ltb (suc n) 1 (omega arith), ne_eqb (suc n) 0 (λ e. omega arith))

-- the kinds in turn
module _ (k : Key) where
  allowed : (kind : Kind) → (if ltb k.0 (keys_of (kind_number kind)) then some (meant kind k) orelse none)
      ≡ input (kind_number kind) k
  unfolding input
  allowed kinds.CharacterDown = refl
  allowed kinds.CharacterUp = refl
  allowed kinds.ThumbDown = two_keys (λ t. ThumbDown t) k.0
  allowed kinds.ThumbUp = two_keys (λ t. ThumbUp t) k.0
  allowed kinds.FunctionDown = one_key FunctionDown k.0
  allowed kinds.Tick = one_key Tick k.0

  module _ {n : ℕ} (kind : Kind) where
    -- by the test of `judge_event`: whether the key is lower than the number of keys
    pub is_allowed : n ≡ kind_number kind → ltb k.0 (keys_of (kind_number kind)) ≡ true → input n k ≡ some (meant kind k)
    is_allowed e h = rw e (sym (allowed kind) ∙ rw h)

    pub not_allowed : n ≡ kind_number kind → ltb k.0 (keys_of (kind_number kind)) ≡ false → input n k ≡ none
    not_allowed e h = rw e (sym (allowed kind) ∙ rw h)

  -- a number of no kind
  pub no_kind : (n : ℕ) → ((kind : Kind) → ¬ (n ≡ kind_number kind)) → input n k ≡ none
  unfolding input
  no_kind n h =
      rw (
        ne_eqb n 1 (h kinds.CharacterDown),
        ne_eqb n 2 (h kinds.CharacterUp),
        ne_eqb n 3 (h kinds.ThumbDown),
        ne_eqb n 4 (h kinds.ThumbUp),
        ne_eqb n 5 (h kinds.FunctionDown),
        ne_eqb n 6 (h kinds.Tick),
      )
