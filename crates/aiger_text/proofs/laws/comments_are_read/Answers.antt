use Rattle.std.proofs.Common.{◌^◌, ◌<◌, length, arith}
use Rattle.aiger_text.proofs.RoundTrip.{comments_are_read}
use Rattle.aiger_text.proofs.laws.comments_are_read.Goals as goal

pub returns : goal.returns
returns c = rw (← c.circuit.view_is) (comments_are_read _ c.circuit.invariant.0 (let few : length c.circuit.inside.outputs.items < 2 ^ 64 = omega (arith, c.circuit.inside.outputs.ok.1, c.circuit.inside.outputs.small) in few))
