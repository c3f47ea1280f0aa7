-- What witnesses show.
use Rattle.std.specs.Prelude.{◌≡◌, ℕ, false, List}
use Rattle.letters_and_lassos.specs.Word.{Word}
use Rattle.ltl_formula.specs.Nodes.{IsNodeList, tree_at}
use Rattle.ltl_formula.specs.Truth.{holds}
use Rattle.aiger_text.specs.Circuit.{Valuation, IsCircuitRun}
use Rattle.aiger_text.specs.CircuitType.{IsCircuit}
use Rattle.refutation_log.specs.declared.entries.Entry.{Entry}
use Rattle.truth_witness.specs.declared.witnesses.Obligation.{Obligation}
use Rattle.truth_witness.specs.Witness.{Claim}
use Rattle.truth_witness.specs.Proved.{IsWitnessFor, IsProved}

-- what is claimed holds: the formula is true on no run lasso of the circuit, which plays the side
abbrev pub IsTrueClaim : Claim → Type 0
IsTrueClaim x =
    (word : Word) (values : ℕ → Valuation) → IsCircuitRun x.side x.circuit word values → holds word (tree_at x.nodes x.form) 0 ≡ false

-- where a witness is proved, what it is for holds
abbrev pub WitnessesShow : Type 0
WitnessesShow =
    (x : Claim) (log : Obligation → List Entry) → IsCircuit x.circuit → IsNodeList x.nodes → IsWitnessFor x → IsProved x log
    → IsTrueClaim x
