use Rattle.std.proofs.Common.{◌^◌, ◌≤◌, arith}
use Rattle.std.proofs.Math.Nat.{pow-le-pow_right}
use Rattle.machine_model.proofs.runs.number_of.Goals as goal

pub overflow_cast-result : goal.overflow_cast-result
overflow_cast-result c = let most : 2 ^ c.args.signals ≤ 2 ^ 16 = pow-le-pow_right {n = 2} (omega arith) c.requires.few in let fits = c.requires.fits in omega arith
