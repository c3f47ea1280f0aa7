use Rattle.batch_answer.proofs.ListLemmas.{no_name_next}
use Rattle.batch_answer.proofs.list.next_name.Goals as goal

pub returns-clause-bad : goal.returns-clause-bad
returns-clause-bad c = no_name_next c.name_in.result c.args.count c.args.rest.now c.in_ok-line.line.now c.in_ok-line.ensures.line c.name_in.ensures.no_name
