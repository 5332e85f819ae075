-- `preview::instead_of_one` meets its contract.
use mathlib.Core.List.{[]}
use mathlib.Core.Path.{refl, ap, ◌∙◌}
use borrow.Author.Tests.{eq-eqb, ne_eqb}
use Rattle.rules.specs.ZeroDelay.{sent}
use Rattle.preview.specs.declared.Signs.{Signs}
use Rattle.preview.proofs.Laws.{kept, taken_back, sends_plainly, sends_after_one, holds_behind}
use Rattle.preview.proofs.instead_of_one.Goals as goal

pub returns-then-p-eq0 : goal.returns-then-p-eq0
unfolding sent
returns-then-p-eq0 c = rw (eq-eqb _ 0 c.if-p-eq0.true) (sends_plainly (record { form = c.requires; list = refl }))

pub returns-then-p-q : goal.returns-then-p-q
unfolding sent
returns-then-p-q c = let shown = c.if-p-eq0.false in
    let same = c.if-p-q.true in
    let form = c.requires in
    rw (c.behind_first.ensures, ne_eqb _ 0 shown, ← kept _ [] _ shown (same ∙ ap (λ (x : Signs). x.first) form))
    (sends_plainly (holds_behind _ form (λ z. shown (same ∙ z))))

pub returns : goal.returns
unfolding sent
returns c = let form = c.requires in
    rw (
      ne_eqb _ 0 c.if-p-eq0.false,
      ← taken_back _ [] _ (rw (ap (λ (x : Signs). x.first) form) at c.if-p-q.false),
    )
    (sends_after_one (record { form = form; list = refl }))
