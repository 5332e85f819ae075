-- An event of a sequence at a row, seen from one keyboard of it: its own, or another's.
use Prim.Native.Nat.{ℕ}
use mathlib.Core.Bool.{true, false}
use mathlib.Core.List.{List}
use mathlib.Core.Option.{Option, none, some}
use mathlib.Core.Path.{◌≡◌, sym}
use lib.Dec.{eqb}
use borrow.Author.Tests.{eqb-true, eqb-false}
use Rattle.rules.specs.Pairs.{Lent}
use Rattle.rules.specs.GivenBack.{step}
use Rattle.rules.specs.declared.Machine.{Machine}
use Rattle.row.specs.Row.{keyboard, answered_at, step_found, step_at}
use Rattle.row.specs.RowFacts.{Found}
use Rattle.row.specs.RowRuns.{RowEvent, row_step}
use Rattle.row.proofs.Found.{step_here, put_own, put_other}

module _ (g : Lent) (k : ℕ) where
  pub step_own : (row : List Machine) (x : RowEvent) (m : Machine) → Found row k m → eqb x.board k ≡ true
      → row_step g row x ≡ answered_at row k (step g m x.event)
  step_own row x m f own = rw (eqb-true x.board k own) (step_here row k g x.event m f)

  pub found_own : (row : List Machine) (x : RowEvent) (m : Machine) → Found row k m → eqb x.board k ≡ true
      → Found (row_step g row x).row k (step g m x.event).machine
  found_own row x m f own = rw (step_own row x m f own) (put_own row k m (step g m x.event).machine f)

  pub found_other : (row : List Machine) (x : RowEvent) (m : Machine) → Found row k m → eqb x.board k ≡ false
      → Found (row_step g row x).row k m
  unfolding step_at
  found_other row x m f other = go (keyboard row x.board)
    where
      go : (o : Option Machine) → Found (step_found g row x.board x.event o).row k m
      go none = f
      go (some n) = put_other row k x.board m (step g n x.event).machine (λ e. eqb-false x.board k other (sym e)) f
