use Rattle.std.proofs.Common.{rules}
use Rattle.document_check.proofs.SizeLemmas.{one_size_more, one_size_fits}
use Rattle.document_check.proofs.facts.push_sizes.Goals as goal

pub loop-n-preserved : goal.loop-n-preserved
loop-n-preserved c = (
  one_size_more c.args.side c.args.sizes.now.items c.loop-n.sizes.items c.push.new.self.items c.loop-n.n c.loop-n.invariant.0 (search rules),
  λ all. one_size_fits c.args.side c.loop-n.sizes.items c.push.new.self.items c.loop-n.n (search rules) (c.loop-n.invariant.1 all) (search rules),
)
