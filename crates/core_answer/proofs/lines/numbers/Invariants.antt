use Rattle.std.proofs.Common.{◌≡◌, ◌+◌, ◌++◌, drop}
use Rattle.core_answer.specs.Core.{numbers_from}
use Rattle.core_answer.proofs.lines.numbers.Given as goal

abbrev pub invariant-loop-place : goal.invariant-loop-place
invariant-loop-place l = numbers_from 1 l.keep ≡ l.list.items ++ numbers_from (l.place + 1) (drop l.place l.keep)
