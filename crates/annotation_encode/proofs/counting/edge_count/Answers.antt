use Rattle.machine_model.specs.Problem.{sized}
use Rattle.annotation_encode.proofs.ClauseCount.{length-edge}
use Rattle.annotation_encode.proofs.counting.edge_count.Goals as goal

pub returns-clause-value : goal.returns-clause-value
returns-clause-value c = cc (length-edge (sized c.args.problem.now c.args.size) c.args.edge)
