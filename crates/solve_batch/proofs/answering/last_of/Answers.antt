use Rattle.std.proofs.Common.{IfOk}
use Rattle.batch_run.specs.Answers.{AreAnswers}
use Rattle.solve_batch.specs.SolvedBatch.{IsSolvedReply}
use Rattle.solve_batch.proofs.SolvedReplies.{last-holds}
use Rattle.solve_batch.proofs.answering.last_of.Goals as goal

pub returns-in-Some : goal.returns-in-Some
returns-in-Some c =
    last-holds (λ end. IfOk end (λ replies. AreAnswers (IsSolvedReply c.args._job.now) c.args._texts.now replies.items)) c.args.ends.items _ c.in-Some.replies
    (rw c.in-Some.is at c.pop.ensures.items) c.requires
