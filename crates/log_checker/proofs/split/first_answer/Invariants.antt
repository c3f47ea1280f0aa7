use Rattle.std.proofs.Common.{◌≡◌, drop}
use Rattle.log_checker.specs.Pieces.{first_answer}
use Rattle.log_checker.proofs.split.first_answer.Given as goal

abbrev pub invariant-loop-answer : goal.invariant-loop-answer
invariant-loop-answer l = first_answer l.answers ≡ first_answer (drop l.answer-index l.answers)
