use Rattle.std.proofs.Common.{subst}
use Rattle.log_checker.proofs.MarkLemmas.{IsLeft, left_of_popped}
use Rattle.log_checker.proofs.marks.unmark.Goals as goal

pub loop-lit-preserved : goal.loop-lit-preserved
loop-lit-preserved c =
    let popped = subst (λ ls. IsLeft c.args.vars c.loop-lit.table ls) c.in-Some.ensures.items c.loop-lit.invariant in
    rw c.place_of.ensures (left_of_popped c.args.vars c.loop-lit.table c.pop.new.self.items c.in-Some.lit popped)
