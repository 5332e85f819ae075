-- `preview::step_signs` meets its contract.
use Rattle.preview.proofs.Laws.{holds_item, holds_items}
use Rattle.preview.proofs.step_signs.Goals as goal

pub returns-in-None : goal.returns-in-None
returns-in-None c = rw (← c.shown_words.ensures, c.in-None.is) c.shown_signs-last.ensures

pub returns-in-One : goal.returns-in-One
returns-in-One c =
    rw (
      ← c.shown_words.ensures,
      c.in-One.is,
      ← c.word.ensures,
      c.put_before.ensures,
    )
    (holds_item c.shown_words.result c.shown_signs-last.ensures _)

pub returns-in-Two : goal.returns-in-Two
returns-in-Two c =
    rw (
      ← c.shown_words.ensures,
      c.in-Two.is,
      ← c.word-in-Two.ensures,
      ← c.word-in-Two-2.ensures,
      c.put_before-in-Two-2.ensures,
      c.put_before-in-Two.ensures,
    )
    (holds_items c.shown_words.result c.shown_signs-last.ensures _ _)
