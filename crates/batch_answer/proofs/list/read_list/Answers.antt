use Rattle.std.proofs.Common.{rules}
use Rattle.batch_answer.proofs.ListLemmas.{read-next}
use Rattle.batch_answer.proofs.list.read_list.Goals as goal

pub loop-rest-preserved : goal.loop-rest-preserved
loop-rest-preserved c =
    read-next c.args.bytes.now c.loop-rest.names.items c.push.new.self.items c.loop-rest.rest.now c.in-Some.name.now c.len.result c.loop-rest.invariant
    (search rules) c.in-Some.ensures.next (search rules)
