-- Why the log of an obligation is refused, and which is the first (this project's own).
use Rattle.std.specs.Prelude.{◌≡◌, ℕ, ◌<◌, ⊤, List, None, length}
use Rattle.propositional_logic.specs.Literal.{Literal}
use Rattle.log_checker.specs.Causes.{IsClosedFault}
use Rattle.truth_witness.specs.Logs.{ObligationLog}
use Rattle.truth_witness.specs.Witness.{Claim}
use Rattle.truth_witness.specs.Obligations.{clauses_of, variables_of}
use Rattle.witness_check.specs.declared.faults.ObligationFault.{ObligationFault}
use Rattle.witness_check.specs.declared.faults.ObligationFault.TheVariants.{Head, Log, NoMemory}
use Rattle.witness_check.specs.declared.faults.WitnessFault.{WitnessFault}
use Rattle.witness_check.specs.declared.faults.WitnessFault.TheVariants.{At, OutOfMemory}
use Rattle.witness_check.specs.Order.{obligation_at}
use Rattle.witness_check.specs.Logs.{HoldsAt, log_at}

-- the head says other numbers than the obligation has
abbrev pub HasOtherHead : ℕ → List (List Literal) → ObligationLog → Type 0
HasOtherHead vars clauses log = log.vars ≡ vars → log.base ≡ length clauses → ⊥

-- The log is refused over these base clauses: for its head, else for the log checker's fault. Want of memory is free.
abbrev pub IsFaultOver : ℕ → List (List Literal) → ObligationLog → ObligationFault → Type 0
IsFaultOver vars clauses log Head = HasOtherHead vars clauses log
IsFaultOver vars clauses log (Log fault) = (log.vars ≡ vars) × (log.base ≡ length clauses) × IsClosedFault vars clauses None log.entries fault
IsFaultOver vars clauses log NoMemory = ⊤

-- the log at this place is refused, and each before it holds
pub record IsFirstAt (x : Claim) (logs : List ObligationLog) (k : ℕ) (fault : ObligationFault) : Type 0 where
  pub within : k < length logs
  pub before : (j : ℕ) → j < k → HoldsAt x logs j
  pub here : IsFaultOver (variables_of x (obligation_at k)) (clauses_of x (obligation_at k)) (log_at logs k) fault

abbrev pub IsWitnessFault : Claim → List ObligationLog → WitnessFault → Type 0
IsWitnessFault x logs (At k fault) = IsFirstAt x logs k fault
IsWitnessFault x logs OutOfMemory = ⊤
