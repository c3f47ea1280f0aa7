use Rattle.std.proofs.Common.{◌^◌, ◌<◌, arith}
use Rattle.std.proofs.Math.Pow.{pow-lt}
use Rattle.gate_build.proofs.tables.weight_of.Goals as goal

pub returns-clause-small : goal.returns-clause-small
returns-clause-small c = let p : 2 ^ c.args.depth < 2 ^ 12 = pow-lt c.requires in omega (arith, p)
