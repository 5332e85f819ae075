-- `walking::walk` meets its contract: a text's log, as far as its bytes were passed, is laid out in the run (`Walking`).
use Rattle.std.proofs.Common.{◌+◌, not, eqb, eq-eqb, ne_eqb, rules, arith}
use Rattle.transcriber.proofs.Laying.{Walking, walking_begins, wrong_measured, wrong_kept, number_fits, header_fits, written_on, measured_on}
use Rattle.transcriber.proofs.Laying.{all_measured, all_laid}
use Rattle.transcriber.proofs.walking.walk.Given.{Over}
use Rattle.transcriber.proofs.walking.walk.Goals as goal
use Rattle.transcriber.proofs.walking.walk.Goals.{Joined-this-ne0, then-this-ne0, else-this-ne0}

-- behind one byte more
walked : (g : Over) (c : Joined-this-ne0 g)
    → Walking (not (eqb g.row.WRITES 0)) c.args.text.now c.args.out.now c.if-this-ne0.out c.if-this-ne0.state (c.loop-i.i + 1)
walked g c =
    elim c.if-this-ne0.branch [
      | then-this-ne0 w ↦ rw (w.state-is, w.out-is)
          (written_on _ _ _ _ _ _ c.loop-i.invariant c.requires.text_len_bound c.requires.fits c.loop-i-test.true _ c.byte_at.ensures _
          c.advance.ensures.value _ _ c.in-Ok.is c.in-Ok.ensures.slow (rw (ne_eqb _ _ w.if-this-ne0.true)) _ w.put_output.ensures
          w.put_output.auto.out)
      | else-this-ne0 w ↦ rw (w.state-is, w.out-is)
          (measured_on _ _ _ _ _ _ c.loop-i.invariant c.requires.text_len_bound c.requires.fits c.loop-i-test.true _ c.byte_at.ensures _
          c.advance.ensures.value _ _ c.in-Ok.is c.in-Ok.ensures.slow (rw (eq-eqb _ _ w.if-this-ne0.false)))
    ]

pub loop-i-init : goal.loop-i-init
loop-i-init g c = rw c.begin-state.ensures (walking_begins _ _ _)

pub put_output-requires-clause-number_fits : goal.put_output-requires-clause-number_fits
put_output-requires-clause-number_fits g c =
    number_fits _ _ _ _ _ _ c.loop-i.invariant c.requires.text_len_bound c.requires.fits c.loop-i-test.true _ c.byte_at.ensures _
    c.advance.ensures.value _ _ c.in-Ok.is c.in-Ok.ensures.slow (rw (ne_eqb _ _ c.if-this-ne0.true))

pub put_output-requires-clause-header_fits : goal.put_output-requires-clause-header_fits
put_output-requires-clause-header_fits g c =
    header_fits _ _ _ _ _ _ c.loop-i.invariant c.requires.text_len_bound c.requires.fits c.loop-i-test.true _ c.byte_at.ensures _
    c.advance.ensures.value _ _ c.in-Ok.is c.in-Ok.ensures.slow (rw (ne_eqb _ _ c.if-this-ne0.true))

pub returns-in-Err-clause-value : goal.returns-in-Err-clause-value
returns-in-Err-clause-value g c = rw c.place_behind.ensures (search (wrong_measured, rules))

pub returns-in-Err-clause-run_holds : goal.returns-in-Err-clause-run_holds
returns-in-Err-clause-run_holds g c = search (wrong_kept, rules)

pub loop-i-preserved : goal.loop-i-preserved
loop-i-preserved g c = walked g (goal.at.loop-i-preserved g c).Joined-this-ne0

pub returns-after-this-ne0-clause-value : goal.returns-after-this-ne0-clause-value
returns-after-this-ne0-clause-value g c =
    all_measured _ _ _ _ _ _ (walked g (goal.at.returns-after-this-ne0-clause-value g c).Joined-this-ne0) c.requires.text_len_bound (omega arith)

pub returns-after-this-ne0-clause-run_holds : goal.returns-after-this-ne0-clause-run_holds
returns-after-this-ne0-clause-run_holds g c =
    all_laid _ _ _ _ _ _ (walked g (goal.at.returns-after-this-ne0-clause-run_holds g c).Joined-this-ne0) c.requires.text_len_bound (omega arith)
