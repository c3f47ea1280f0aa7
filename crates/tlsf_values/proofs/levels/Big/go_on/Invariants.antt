use Rattle.std.proofs.Common.{◌≡◌, ◌≤◌, drop, length, reverse}
use Rattle.ltl_formula.specs.Nodes.{Grows}
use Rattle.tlsf_values.specs.LevelsSeen.{after, pending}
use Rattle.tlsf_values.specs.Values.{Evaluator}
use Rattle.tlsf_values.proofs.levels.Big.go_on.Given as goal

abbrev pub invariant-loop-level : goal.invariant-loop-level
invariant-loop-level l =
    ((r : Evaluator) → after r l.self l.fn.bound (reverse l.fn.levels.items) l.fn.formula l.fn.work ≡ after r l.self l.bound (reverse l.levels.items) l.formula l.work)
    × (drop (length (reverse l.levels.items)) l.bound ≡ drop (length (reverse l.fn.levels.items)) l.fn.bound)
    × (pending (reverse l.levels.items) ≤ pending (reverse l.fn.levels.items))
    × Grows l.fn.work.formulas l.work.formulas

abbrev pub decreases-loop-level : goal.decreases-loop-level
decreases-loop-level l = length l.levels.items
