use Rattle.std.proofs.Common.{◌≡◌, ◌++◌, take}
use Rattle.truth_witness.specs.Clauses.{base_clauses}
use Rattle.witness_clauses.proofs.making.add_base.Given as goal

abbrev pub invariant-loop-clause : goal.invariant-loop-clause
invariant-loop-clause l = l.made.items ≡ l.fn.made.items ++ base_clauses (take l.clause-index l.clauses)
