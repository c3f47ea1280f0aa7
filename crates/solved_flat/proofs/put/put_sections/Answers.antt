use Rattle.flat_lines.proofs.Pieces.{nothing_yet}
use Rattle.solved_flat.specs.Taken.{sections_of}
use Rattle.solved_flat.proofs.put.put_sections.Goals as goal

pub returns-in_err-shown-clause-front : goal.returns-in_err-shown-clause-front
returns-in_err-shown-clause-front g c = nothing_yet c.from_residual.result (g.K.Sink.written c.args.out.now) (sections_of c.args.taken.now)
