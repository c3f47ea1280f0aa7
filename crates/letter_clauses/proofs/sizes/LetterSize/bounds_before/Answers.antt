use Rattle.std.proofs.Common.{◌≡◌, ◌*◌, ◌≤◌, ap, arith}
use Rattle.annotation_encode.specs.Variables.{counted_before}
use Rattle.letter_clauses.proofs.Bounds.{before_small}
use Rattle.letter_clauses.proofs.sizes.LetterSize.bounds_before.Goals as goal

pub overflow_mul-result : goal.overflow_mul-result
overflow_mul-result c =
    let small : c.args.self.now.problem.now.size * counted_before c.args.self.now.problem.now c.args.q ≤ 4000000
    = before_small c.args.self.now.problem.now c.args.self.now.letters.now c.requires.size c.args.q c.requires.state in
    let value : c.args.self.now.problem.now.size * c.counted_before.result ≡ c.args.self.now.problem.now.size * counted_before c.args.self.now.problem.now c.args.q
    = ap (λ n. c.args.self.now.problem.now.size * n) c.counted_before.ensures in
    omega (arith, small, value)

pub returns-clause-value : goal.returns-clause-value
returns-clause-value c = ap (λ n. c.args.self.now.problem.now.size * n) c.counted_before.ensures

pub returns-clause-small : goal.returns-clause-small
returns-clause-small c =
    let small : c.args.self.now.problem.now.size * counted_before c.args.self.now.problem.now c.args.q ≤ 4000000
    = before_small c.args.self.now.problem.now c.args.self.now.letters.now c.requires.size c.args.q c.requires.state in
    let value : c.args.self.now.problem.now.size * c.counted_before.result ≡ c.args.self.now.problem.now.size * counted_before c.args.self.now.problem.now c.args.q
    = ap (λ n. c.args.self.now.problem.now.size * n) c.counted_before.ensures in
    omega (arith, small, value)
