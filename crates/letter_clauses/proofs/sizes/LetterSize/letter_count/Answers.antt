use Rattle.std.proofs.Common.{◌≤◌, length, arith}
use Rattle.letter_clauses.proofs.Bounds.{letters_small}
use Rattle.letter_clauses.proofs.sizes.LetterSize.letter_count.Goals as goal

pub overflow_cast-result : goal.overflow_cast-result
overflow_cast-result c =
    let small : length c.args.self.now.letters.now ≤ 65536 = letters_small c.args.self.now.problem.now c.args.self.now.letters.now c.requires in
    omega (arith, small)

pub returns-clause-small : goal.returns-clause-small
returns-clause-small c = letters_small c.args.self.now.problem.now c.args.self.now.letters.now c.requires
