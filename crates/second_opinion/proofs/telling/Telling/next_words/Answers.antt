-- `second_opinion::telling::Telling::next_words` meets its contract.
use Rattle.std.proofs.Common.{ap, ◌∙◌, arith}
use Rattle.rules.specs.Items.{listed}
use Rattle.rules.specs.ZeroDelay.{signs}
use Rattle.rules.proofs.Screen.{signs_append}
use Rattle.opinions.specs.Opinion.{Told}
use Rattle.second_opinion.proofs.Tally.{no_decision, told_by}
use Rattle.second_opinion.proofs.telling.Telling.next_words.Goals as goal

pub returns-then-self-eq0 : goal.returns-then-self-eq0
returns-then-self-eq0 c = rw c.in-On.is (no_decision _ _ _ _ c.if-self-eq0.true)

pub returns : goal.returns
returns c =
    let by = told_by c.args.self.now.opened c.args.self.now.left c.in-On.set c.in-On.at c.if-self-eq0.false c.decide-decision.result
    c.decide-decision.ensures in
    record {
      words_told = rw (c.in-On.is, c.of_items.ensures) (ap (λ (t : Told). signs t.items) by ∙ signs_append (listed c.decide-decision.result.items) _);
      waiting_told = rw c.in-On.is (ap (λ (t : Told). t.waiting) by);
      fewer = omega arith;
    }
