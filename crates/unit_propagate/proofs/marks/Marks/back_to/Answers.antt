use Rattle.std.proofs.Common.{◌≡◌, ◌∙◌, sym, arith}
use Rattle.unit_propagate.specs.Trail.{highest_level}
use Rattle.unit_propagate.proofs.TrailLemmas.{popped, filter-highest}
use Rattle.unit_propagate.proofs.marks.Marks.back_to.Goals as goal

pub loop-self-preserved : goal.loop-self-preserved
loop-self-preserved c =
    let is : c.level.result ≡ highest_level c.loop-self.self.marks = c.level.ensures.value in
    let k = popped c.args.level c.args.self.now.marks c.loop-self.self.marks c.pop-mark.new.self.marks c.pop-mark.result c.pop-mark.ensures.some c.pop-mark.ensures.none
    c.level.ensures.trail.rising (omega arith) c.loop-self.invariant.2 in
    (c.pop-mark.ensures.vars ∙ c.loop-self.invariant.0, k.0 ∙ c.loop-self.invariant.1, k.1)

pub returns-clause-exact : goal.returns-clause-exact
returns-clause-exact c =
    let is : c.level.result ≡ highest_level c.loop-self.self.marks = c.level.ensures.value in
    let same = sym (filter-highest c.args.level c.loop-self.self.marks (omega arith)) ∙ c.loop-self.invariant.1 in
    let vars = c.loop-self.invariant.0 in
    λ i. record { vars = vars i; marks = same i }
