-- `text::encode` meets its contract: the run is filled with the text of the words passed (`Writing`).
use Rattle.std.proofs.Common.{rules}
use Rattle.text.proofs.Signs.{begun, written_more}
use Rattle.text.proofs.encode.Goals as goal

pub loop-w-init : goal.loop-w-init
loop-w-init c = begun _ _

pub loop-w-preserved : goal.loop-w-preserved
loop-w-preserved c = search (written_more, rules)
