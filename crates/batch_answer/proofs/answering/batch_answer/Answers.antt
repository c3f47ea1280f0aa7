use Rattle.std.proofs.Common.{rules}
use Rattle.batch_answer.proofs.ReplyLemmas.{batch_answers}
use Rattle.batch_answer.proofs.answering.batch_answer.Goals as goal

pub returns-clause-answers : goal.returns-clause-answers
returns-clause-answers g c =
    batch_answers c.args.names.now c.args.texts.now c.args.settings c.new-job.result c.in_ok-replies.replies.items c.in_ok-batch_text.field-0.items
    c.requires.one_each c.new-job.ensures c.in_ok-replies.ensures (search rules)
