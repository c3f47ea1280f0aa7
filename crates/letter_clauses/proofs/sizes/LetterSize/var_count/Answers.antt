use Rattle.std.proofs.Common.{◌≡◌, ◌+◌, ◌*◌, ◌<◌, ◌≤◌, ap, arith}
use Rattle.machine_model.specs.declared.problems.Problem.{Problem}
use Rattle.annotation_encode.specs.Variables.{numbers_before, state_numbers}
use Rattle.annotation_encode.proofs.Sizes.{count_below}
use Rattle.letter_clauses.proofs.Bounds.{all_numbers_small}
use Rattle.letter_clauses.proofs.sizes.LetterSize.var_count.Goals as goal
use Rattle.letter_clauses.proofs.sizes.LetterSize.var_count.Goals.{After-numbers_before}

small : (c : After-numbers_before) → c.move_count.result + c.write_count.result + 1 + c.args.pair.0 * c.state_numbers.result + c.numbers_before.result + c.args.c ≤ 134217728
small c =
    let p : Problem = c.args.self.now.problem.now in
    let b : c.args.pair.0 * state_numbers p + (numbers_before p c.args.pair.1 + c.args.c) < p.size * state_numbers p = count_below p c.args.pair.0 c.args.pair.1 c.args.c c.requires.state c.requires.pair c.requires.number in
    let all : p.size * state_numbers p ≤ 4320000 = all_numbers_small p c.args.self.now.letters.now c.requires.size in
    let rows : c.args.pair.0 * c.state_numbers.result ≡ c.args.pair.0 * state_numbers p = ap (λ n. c.args.pair.0 * n) c.state_numbers.ensures.value in
    omega (arith, b, all, rows, c.numbers_before.ensures.value, c.move_count.ensures.small, c.write_count.ensures.small)

pub overflow_add-result-5 : goal.overflow_add-result-5
overflow_add-result-5 c = let most : c.move_count.result + c.write_count.result + 1 + c.args.pair.0 * c.state_numbers.result + c.numbers_before.result + c.args.c ≤ 134217728 = small (goal.at.overflow_add-result-5 c).After-numbers_before in omega (arith, most)

pub returns-clause-small : goal.returns-clause-small
returns-clause-small c = small (goal.at.returns-clause-small c).After-numbers_before
