use Rattle.std.proofs.Common.{◌≡◌, ◌+◌, ◌-◌, true, false, ap, arith}
use Rattle.std.specs.Prelude.{is_some}
use Rattle.machine_model.specs.Problem.{sized}
use Rattle.annotation_encode.specs.Count.{count_of}
use Rattle.annotation_encode.proofs.AllowedSizes.{goes_on, none_left, stops}
use Rattle.annotation_encode.proofs.counting.allowed_sizes.Goals as goal

pub returns-then-is_some-clause-value : goal.returns-then-is_some-clause-value
returns-then-is_some-clause-value c =
    let there : is_some (count_of (sized c.args.problem.now (c.loop-fewer.fewer - 1 + 1))) ≡ true = cc (ap is_some c.count_at.ensures) in
    stops c.args.problem.now c.args.max c.loop-fewer.fewer (omega arith) c.loop-fewer.invariant there

pub loop-fewer-preserved : goal.loop-fewer-preserved
loop-fewer-preserved c =
    let none : is_some (count_of (sized c.args.problem.now (c.loop-fewer.fewer - 1 + 1))) ≡ false = cc (ap is_some c.count_at.ensures) in
    goes_on c.args.problem.now c.args.max c.loop-fewer.fewer (omega arith) c.loop-fewer.invariant none

pub returns-clause-value : goal.returns-clause-value
returns-clause-value c = none_left c.args.problem.now c.args.max c.loop-fewer.fewer (omega arith) c.loop-fewer.invariant
