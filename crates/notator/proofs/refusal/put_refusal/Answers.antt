use Rattle.notator.proofs.Adding.{◌and_then◌, as_text, nothing_added}
use Rattle.notator.proofs.Lines.{refused_line, no_line}
use Rattle.notator.proofs.refusal.put_refusal.Goals as goal

pub returns-then-number-eq0 : goal.returns-then-number-eq0
returns-then-number-eq0 c = as_text (no_line _ _ c.if-number-eq0.true) (nothing_added _)

pub returns : goal.returns
returns c =
    as_text (refused_line _ _ c.if-number-eq0.false)
    (c.bytes.ensures and_then c.status.ensures and_then c.bytes-2.ensures and_then (rw c.meaning.ensures at c.bytes-3.ensures)
    and_then c.bytes-4.ensures)
