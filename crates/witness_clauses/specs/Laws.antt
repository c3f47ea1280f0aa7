-- What the base clauses of obligations are (this project's own).
use Rattle.propositional_logic.specs.Clause.{IsFormula}
use Rattle.truth_witness.specs.declared.witnesses.Obligation.{Obligation}
use Rattle.truth_witness.specs.Witness.{Claim}
use Rattle.truth_witness.specs.Obligations.{IsObligationOf, clauses_of, variables_of}
use Rattle.truth_witness.specs.Proved.{IsWitnessFor}
use Rattle.witness_clauses.specs.Counted.{IsCountable}

-- the base clauses of an obligation are a formula over its variables
abbrev pub ObligationsAreFormulas : Type 0
ObligationsAreFormulas = (x : Claim) → IsCountable x → IsWitnessFor x → (o : Obligation) → IsObligationOf x.witness o → IsFormula (variables_of x o) (clauses_of x o)
