-- A text's line: the test for the line end behind it, as the library makes it and as the definition does.
use native.Mathlib.Numerals.{unary_clauses}
use Rattle.std.proofs.Common.{◌≡◌, ℕ, ◌-◌, ◌&&◌, true, false, List, [], ◌∷◌, length, drop, eqb, refl}
use lib.Pointwise.{pointwise}
use Rattle.drill.specs.Texts.{last_byte}

pub ends : (text : List ℕ) → pointwise eqb (drop (length text - 1) text) (10 ∷ []) ≡ eqb (last_byte text) 10
ends [] = refl
ends (b ∷ []) = elim (eqb b 10) as (λ t. t && true ≡ t) [ true ↦ refl | false ↦ refl ]
ends (b ∷ (c ∷ s)) = simp unary_clauses (simp unary_clauses at (ends (c ∷ s)))
