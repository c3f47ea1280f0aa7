use Rattle.std.proofs.Common.{◌≡◌, ◌++◌, [], sym, subst, ◌∙◌}
use Rattle.refutation_log.specs.Entry.{clauses_of}
use Rattle.unit_propagate.specs.Trail.{TrailModel}
use Rattle.unit_propagate.specs.Sound.{AreSoundMarks}
use Rattle.unit_propagate.specs.Watched.{IsWatching}
use Rattle.conflict_learn.proofs.AssumeLemmas.{IsSound-assume}
use Rattle.layer_tests.proofs.learning.first_conflict.Goals as goal

pub loop-i-preserved : goal.loop-i-preserved
loop-i-preserved c =
    let cl = c.args.base.now.clauses.items ++ clauses_of [] in
    subst (λ (t : TrailModel). (t.vars ≡ c.args.base.now.vars) × IsWatching cl t.watched × AreSoundMarks cl t.marks) (sym c.assume.ensures)
    (c.propagate.ensures.vars ∙ c.loop-i.invariant.0, c.propagate.ensures.watching, IsSound-assume cl c.propagate.new.self.marks _ (c.propagate.ensures.sound c.loop-i.invariant.2))
