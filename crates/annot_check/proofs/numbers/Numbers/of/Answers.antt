use Rattle.std.proofs.Common.{sym}
use Rattle.annot_check.specs.Numbers.{greatest_at}
use Rattle.annot_check.proofs.NumberLemmas.{knows_more}
use Rattle.annot_check.proofs.numbers.Numbers.of.Goals as goal

pub loop-pair-preserved : goal.loop-pair-preserved
loop-pair-preserved c =
    knows_more (greatest_at c.loop-pair.numbers) (greatest_at c.add.new.self) c.args.pairs.now c.loop-pair.pair-index c.pair-item.result c.loop-pair-test.true
    (sym c.pair-item.is) c.loop-pair.invariant c.in_ok-add.ensures
