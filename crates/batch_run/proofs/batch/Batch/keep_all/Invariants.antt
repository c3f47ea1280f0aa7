use Rattle.std.proofs.Common.{All}
use Rattle.batch_run.specs.Answers.{AreKept, IsPlacedAnswer}
use Rattle.batch_run.proofs.batch.Batch.keep_all.Given as goal

abbrev pub invariant-loop-placed : goal.invariant-loop-placed
invariant-loop-placed g l = record {
  slots : AreKept (g.J.Job.is_answer l.self.job.now) l.self.tasks.now l.slots;
  rest : All (IsPlacedAnswer (g.J.Job.is_answer l.self.job.now) l.self.tasks.now) l.placed-iterator.rest.items;
}
