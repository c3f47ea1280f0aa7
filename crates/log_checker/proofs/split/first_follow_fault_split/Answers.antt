use Rattle.std.proofs.Common.{◌+◌, ◌*◌, ◌/◌, ◌≤◌, ◌∙◌, ap, arith}
use Rattle.log_checker.specs.Pieces.{first_answer}
use Rattle.log_checker.proofs.PieceLemmas.{found_of_pieces}
use Rattle.log_checker.proofs.split.first_follow_fault_split.Goals as goal

pub returns : goal.returns
returns g c =
    let le : c.args.to ≤ 64 * (c.args.to / 64 + 1) = omega arith in
    found_of_pieces c.args.base.now.clauses.items c.args.entries.now (c.args.to / 64 + 1) c.args.to c.in_ok-answers.answers.items c.first_answer.result
    c.in_ok-answers.ensures (c.first_answer.ensures ∙ ap first_answer c.deref.ensures.value) le
