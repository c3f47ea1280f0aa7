use Rattle.std.proofs.Common.{rules}
use Rattle.solve_answer.specs.Parts.{limits_of}
use Rattle.solve_batch.proofs.SolvedReplies.{solved_answers}
use Rattle.solve_batch.proofs.answering.solve_batch.Goals as goal

pub returns-clause-answers : goal.returns-clause-answers
returns-clause-answers g c =
    solved_answers c.args.names.now c.args.texts.now (record { given = c.args.given; limits = limits_of c.args.refuting }) c.new-job.result c.in_ok-replies.replies.items c.in_ok-batch_text.field-0.items
    c.requires.one_each c.new-job.ensures c.in_ok-replies.ensures (search rules)
