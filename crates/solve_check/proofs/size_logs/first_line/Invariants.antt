use Rattle.std.proofs.Common.{drop}
use Rattle.solve_check.proofs.LogLemmas.{Goes}
use Rattle.solve_check.proofs.size_logs.first_line.Given as goal

-- whatever is found of the rest of the logs is found of all
abbrev pub invariant-loop-log : goal.invariant-loop-log
invariant-loop-log l = Goes l.ground l.logs (drop l.log-index l.logs)
