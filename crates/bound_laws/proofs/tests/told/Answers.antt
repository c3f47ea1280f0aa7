use Rattle.std.proofs.lemmas.Result.{IfOk-weaker}
use Rattle.bound_laws.proofs.tests.told.Goals as goal

pub returns-clause-smallest : goal.returns-clause-smallest
returns-clause-smallest g c = IfOk-weaker c.told_answer.result _ _
    (λ t is. λ d x k ten states wanted less.
    c.no_smaller_circuits.ensures.satisfy c.args.text.now c.args.asked.kind c.args.asked.settings t.reply.bytes.items d x k
    (rw ten at is.answers) states wanted less)
    c.told_answer.ensures
