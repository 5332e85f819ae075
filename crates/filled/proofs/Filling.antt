-- Laws of a run that is filled from its front.
use Prim.Native.Nat.{ℕ, ◌+◌, ◌≤◌}
use native.Mathlib.Nat.{add_assoc}
use native.Mathlib.Numerals.{towards_suc}
use native.Mathlib.Omega.{arith}
use mathlib.Core.Path.{◌≡◌, sym, ap, ◌∙◌}
use mathlib.Core.List.{List, [], ◌∷◌, ◌++◌, append_assoc}
use lib.ListN.{length, take, drop, set, length-append, length-drop}
use lib.Seq.{length-take-le, take_at, take-append_seam, drop-append-add, drop-drop, sets-eq}
use Rattle.filled.specs.Filled.{filled, Stored}

-- filled with a, and b stored behind it: filled with both
pub filled_more : (a b run : List ℕ)
    → take (length a) (filled a run) ++ b ++ drop (length a + length b) (filled a run) ≡ filled (a ++ b) run
filled_more a b run = rw (take-append_seam, drop-append-add, drop-drop, length-append)

pub length_filled : (a run : List ℕ) → length a ≤ length run → length (filled a run) ≡ length run
length_filled a run h = simp (length-append, length-drop) (omega arith)

-- stored at a place, and more behind it: both are stored there
pub stored_both : (at : ℕ) (a b run : List ℕ) (next : ℕ) (mid : List ℕ) (last : ℕ) (after : List ℕ)
    → at ≤ length run
    → Stored at a run next mid
    → Stored next b mid last after
    → Stored at (a ++ b) run last after
stored_both at a b run next mid last after h s t =
    let front : List ℕ = take at run ++ a in
    let long : length front ≡ next =
    length-append (take at run) a ∙ ap (λ k. k + length a) (length-take-le at run h) ∙ sym s.behind in
    let kept : take next mid ≡ front = rw s.stored (take_at front _ next long) in
    let rest : drop (next + length b) mid ≡ drop (at + length a + length b) run =
    rw (s.stored, ← long, drop-append-add, drop-drop) in
    record {
      behind = t.behind ∙ rw (s.behind, length-append) (omega arith);
      stored = t.stored ∙ rw (kept, rest, append_assoc (take at run) a b, length-append, add_assoc);
    }

-- stores one by one, as code makes them
pub stored_1 : (run : List ℕ) (at a : ℕ) → at + 1 ≤ length run → set run at a ≡ take at run ++ (a ∷ []) ++ drop (at + 1) run
stored_1 run at a h = sets-eq (a ∷ []) run at h

pub stored_2 : (run : List ℕ) (at a b : ℕ)
    → at + 2 ≤ length run
    → set (set run at a) (at + 1) b ≡ take at run ++ (a ∷ b ∷ []) ++ drop (at + 2) run
stored_2 run at a b h = simp towards_suc (simp towards_suc at (sets-eq (a ∷ b ∷ []) run at h))

pub stored_3 : (run : List ℕ) (at a b c : ℕ)
    → at + 3 ≤ length run
    → set (set (set run at a) (at + 1) b) (at + 2) c ≡ take at run ++ (a ∷ b ∷ c ∷ []) ++ drop (at + 3) run
stored_3 run at a b c h = simp towards_suc (simp towards_suc at (sets-eq (a ∷ b ∷ c ∷ []) run at h))
