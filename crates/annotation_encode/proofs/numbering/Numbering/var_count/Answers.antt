use Rattle.std.proofs.Common.{◌≡◌, ◌+◌, ◌*◌, ◌<◌, ◌≤◌, ap, arith}
use Rattle.std.proofs.Math.Nat.{mul-le-mul_right}
use Rattle.text_limits.specs.declared.TheConstants.{SMALL_LIMITS}
use Rattle.machine_model.specs.declared.problems.Problem.{Problem}
use Rattle.annotation_encode.specs.Variables.{numbers_before, state_numbers}
use Rattle.annotation_encode.proofs.Sizes.{count_below}
use Rattle.annotation_encode.proofs.numbering.Numbering.var_count.Goals as goal

pub overflow_add-result-5 : goal.overflow_add-result-5
overflow_add-result-5 c =
    let p : Problem = c.args.self.now.problem.now in
    let b : c.args.pair.0 * state_numbers p + (numbers_before p c.args.pair.1 + c.args.c) < p.size * state_numbers p = count_below p c.args.pair.0 c.args.pair.1 c.args.c c.requires.state c.requires.pair c.requires.number in
    let size : p.size ≤ SMALL_LIMITS.machine = c.requires.problem.size in
    let all : p.size * state_numbers p ≤ SMALL_LIMITS.machine * state_numbers p = mul-le-mul_right (state_numbers p) size in
    let rows : c.args.pair.0 * c.state_numbers.result ≡ c.args.pair.0 * state_numbers p = ap (λ n. c.args.pair.0 * n) c.state_numbers.ensures.value in
    omega (arith, b, all, rows, c.state_numbers.ensures.value, c.state_numbers.ensures.small, c.numbers_before.ensures.value, c.move_count.ensures.small, c.write_count.ensures.small)

pub returns-clause-small : goal.returns-clause-small
returns-clause-small c =
    let p : Problem = c.args.self.now.problem.now in
    let b : c.args.pair.0 * state_numbers p + (numbers_before p c.args.pair.1 + c.args.c) < p.size * state_numbers p = count_below p c.args.pair.0 c.args.pair.1 c.args.c c.requires.state c.requires.pair c.requires.number in
    let size : p.size ≤ SMALL_LIMITS.machine = c.requires.problem.size in
    let all : p.size * state_numbers p ≤ SMALL_LIMITS.machine * state_numbers p = mul-le-mul_right (state_numbers p) size in
    let rows : c.args.pair.0 * c.state_numbers.result ≡ c.args.pair.0 * state_numbers p = ap (λ n. c.args.pair.0 * n) c.state_numbers.ensures.value in
    omega (arith, b, all, rows, c.state_numbers.ensures.value, c.state_numbers.ensures.small, c.numbers_before.ensures.value, c.move_count.ensures.small, c.write_count.ensures.small)
