use Rattle.std.proofs.Common.{All}
use Rattle.batch_run.specs.Answers.{AreKept, IsPlacedAnswer}
use Rattle.batch_run.proofs.batch.Batch.in_order.Given as goal

abbrev pub invariant-loop-list : goal.invariant-loop-list
invariant-loop-list g l = record {
  slots : AreKept (g.J.Job.is_answer l.self.job.now) l.self.tasks.now l.slots.items;
  lists : All (λ list. All (IsPlacedAnswer (g.J.Job.is_answer l.self.job.now) l.self.tasks.now) list.items) l.list-iterator.rest.items;
}
