use Rattle.std.proofs.Common.{◌≡◌, ◌++◌, drop, map}
use Rattle.core_answer.specs.Core.{without_parts}
use Rattle.core_answer.proofs.lines.push_others.Given as goal

abbrev pub invariant-loop-place : goal.invariant-loop-place
invariant-loop-place l =
    l.fn.bytes.items ++ without_parts l.numbers (map (λ o. o.items) l.others) ≡ l.bytes.items ++ without_parts (drop l.place l.numbers) (drop l.place (map (λ o. o.items) l.others))
