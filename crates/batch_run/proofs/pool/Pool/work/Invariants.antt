use Rattle.std.proofs.Common.{All}
use Rattle.batch_run.specs.Answers.{IsPlacedAnswer}
use Rattle.batch_run.proofs.pool.Pool.work.Given as goal

abbrev pub invariant-loop : goal.invariant-loop
invariant-loop g l = All (IsPlacedAnswer (g.J.Job.is_answer l.self.batch.now.job.now) l.self.batch.now.tasks.now) l.answers.items
