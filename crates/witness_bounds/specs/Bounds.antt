-- How large the literals of a witness may be, by the numbers of latches and gates that it is said to have, whether or not so many
-- were read (this project's own).
use Rattle.std.specs.Prelude.{ℕ, ◌+◌, ◌*◌, List, length}
use Rattle.ltl_formula.specs.declared.nodes.FormulaId.{FormulaId}
use Rattle.ltl_formula.specs.declared.nodes.Node.{Node}
use Rattle.aiger_text.specs.Circuit.{Circuit}
use Rattle.truth_witness.specs.Variables.{occurring}
use Rattle.truth_witness.specs.Witness.{Claim, Witness}
use Rattle.witness_bounds.specs.declared.bounds.Bounds.{Bounds}
use Rattle.witness_bounds.specs.declared.bounds.Counts.{Counts}

-- behind so many variables of the circuit and of truths stand the latches, then the gates
abbrev pub bounds_behind : ℕ → Counts → Bounds
bounds_behind variables counts = record {
  first_gate = 2 * (variables + counts.latches + 1);
  top = 2 * (variables + counts.latches + counts.gates) + 1;
}

abbrev pub bounds_of : Circuit → List Node → FormulaId → Counts → Bounds
bounds_of c nodes form counts = bounds_behind (c.variables + length (occurring nodes form)) counts

-- the numbers that a whole witness has
abbrev pub counts_of : Witness → Counts
counts_of w = record { latches = length w.latches; gates = length w.gates }

abbrev pub bounds_in : Claim → Bounds
bounds_in x = bounds_of x.circuit x.nodes x.form (counts_of x.witness)
