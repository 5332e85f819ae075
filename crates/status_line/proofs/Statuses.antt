-- The two statuses, put together from their parts.
use Prim.Native.Nat.{ℕ, ◌+◌, ◌≤◌}
use native.Mathlib.Omega.{arith}
use borrow.Author.Tests.{eq-eqb, ne_eqb}
use mathlib.Core.Path.{◌≡◌}
use mathlib.Core.List.{List, ◌++◌}
use lib.Dec.{eqb}
use lib.ListN.{length, length-append}
use Rattle.choice.proofs.Choices.{both_ways}
use Rattle.filled.specs.Filled.{Stored}
use Rattle.filled.proofs.Filling.{stored_both}
use Rattle.text.specs.Text.{ascii}
use Rattle.text.specs.Puts.{Puts}
use Rattle.status_line.specs.Decimal.{decimal}
use Rattle.status_line.specs.Status.{line_end, status, below}
use Rattle.status_line.proofs.Places.{decimal_short}

module _ (number waiting offset : ℕ) where
  pub status_short : length (status number waiting offset) ≤ 52
  unfolding status
  status_short =
      both_ways (λ (l : List ℕ). length l ≤ 52) (eqb number 0)
      (omega (arith, decimal_short waiting, length-append (ascii "waiting ") (decimal waiting)))
      (omega (
        arith,
        decimal_short number,
        decimal_short offset,
        length-append (ascii "refused ") (decimal number),
        length-append (ascii "refused " ++ decimal number) (ascii " at "),
        length-append (ascii "refused " ++ decimal number ++ ascii " at ") (decimal offset),
      ))

  -- 52 bytes are room for every status
  pub status_stored : (at : ℕ) (run : List ℕ) (r : ℕ) (after : List ℕ)
      → at + 52 ≤ length run → Puts at (status number waiting offset) run r after → Stored at (status number waiting offset) run r after
  status_stored at run r after h p = p.fits (omega (arith, status_short))

  -- the parts of what follows a line
  pub below_short : length (below number waiting offset) ≤ 54
  unfolding below
  below_short =
      let s : List ℕ = status number waiting offset in
      omega (arith, status_short, length-append line_end s, length-append (line_end ++ s) line_end)

  pub below_spelt : (run : List ℕ) (n1 : ℕ) (m1 : List ℕ) (n2 : ℕ) (m2 : List ℕ) (n3 : ℕ) (m3 : List ℕ)
      → Stored 0 line_end run n1 m1 → Stored n1 (status number waiting offset) m1 n2 m2 → Stored n2 line_end m2 n3 m3
      → Stored 0 (below number waiting offset) run n3 m3
  unfolding below
  below_spelt run n1 m1 n2 m2 n3 m3 s t u =
      let two = stored_both 0 line_end (status number waiting offset) run n1 m1 n2 m2 (omega arith) s t in
      stored_both 0 (line_end ++ status number waiting offset) line_end run n2 m2 n3 m3 (omega arith) two u

  -- 54 bytes are room for it
  pub below_stored : (at : ℕ) (run : List ℕ) (r : ℕ) (after : List ℕ)
      → at + 54 ≤ length run → Puts at (below number waiting offset) run r after → Stored at (below number waiting offset) run r after
  below_stored at run r after h p = p.fits (omega (arith, below_short))

  module _ (run : List ℕ) where
    pub waiting_status : (next : ℕ) (mid : List ℕ) (last : ℕ) (after : List ℕ)
        → number ≡ 0
        → Stored 0 (ascii "waiting ") run next mid
        → Stored next (decimal waiting) mid last after
        → Stored 0 (status number waiting offset) run last after
    unfolding status
    waiting_status next mid last after z s t =
        rw (eq-eqb number 0 z) (stored_both 0 (ascii "waiting ") (decimal waiting) run next mid last after (omega arith) s t)

    pub refused_status : (n1 : ℕ) (m1 : List ℕ) (n2 : ℕ) (m2 : List ℕ) (n3 : ℕ) (m3 : List ℕ) (last : ℕ) (after : List ℕ)
        → (number ≡ 0 → ⊥)
        → Stored 0 (ascii "refused ") run n1 m1
        → Stored n1 (decimal number) m1 n2 m2
        → Stored n2 (ascii " at ") m2 n3 m3
        → Stored n3 (decimal offset) m3 last after
        → Stored 0 (status number waiting offset) run last after
    unfolding status
    refused_status n1 m1 n2 m2 n3 m3 last after nz s t u v =
        rw (ne_eqb number 0 nz)
        (stored_both 0 (ascii "refused " ++ decimal number ++ ascii " at ") (decimal offset) run n3 m3 last after (omega arith)
        (stored_both 0 (ascii "refused " ++ decimal number) (ascii " at ") run n2 m2 n3 m3 (omega arith)
        (stored_both 0 (ascii "refused ") (decimal number) run n1 m1 n2 m2 (omega arith) s t) u) v)
