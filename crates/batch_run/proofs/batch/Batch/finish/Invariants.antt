use Rattle.std.proofs.Common.{◌≡◌, ◌+◌, drop, length}
use Rattle.batch_run.specs.Answers.{EachAnswers}
use Rattle.batch_run.proofs.batch.Batch.finish.Given as goal

abbrev pub invariant-loop-slot : goal.invariant-loop-slot
invariant-loop-slot g l = record {
  rest : drop (length l.answers.items) l.fn.slots.items ≡ l.slot-iterator.rest.items;
  count : length l.answers.items + length l.slot-iterator.rest.items ≡ length l.fn.slots.items;
  answers : EachAnswers (g.J.Job.is_answer l.self.job.now) l.self.tasks.now l.answers.items;
}
