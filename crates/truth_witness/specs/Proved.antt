-- When a witness is one for a claim, and when it is proved (this project's own).
use Rattle.std.specs.Prelude.{ℕ, ◌<◌, ◌≤◌, List, None, length, All, slice_get, Some, ◌≡◌}
use Rattle.refutation_log.specs.declared.entries.Entry.{Entry}
use Rattle.refutation_log.specs.Log.{IsClosed}
use Rattle.truth_witness.specs.declared.witnesses.Obligation.{Obligation}
use Rattle.truth_witness.specs.declared.witnesses.Operands.{Operands}
use Rattle.truth_witness.specs.declared.witnesses.TheConstants.{MAX_RANK_BITS, MAX_INDEX_BITS}
use Rattle.truth_witness.specs.Witness.{Part, Claim}
use Rattle.truth_witness.specs.Variables.{top_literal, gate_literal}
use Rattle.truth_witness.specs.Obligations.{IsObligationOf, clauses_of, variables_of}

-- the literal is one of a frame
abbrev pub IsOfFrame : Claim → ℕ → Type 0
IsOfFrame x l = l ≤ top_literal x

-- the operands of the gate with this number come before it
pub record AreBefore (x : Claim) (k : ℕ) (operands : Operands) : Type 0 where
  pub left : operands.left < gate_literal x k
  pub right : operands.right < gate_literal x k

pub record IsPartFor (x : Claim) (p : Part) : Type 0 where
  pub start : IsOfFrame x p.start
  pub inv : IsOfFrame x p.inv
  pub rank : All (IsOfFrame x) p.rank
  pub index : All (IsOfFrame x) p.index
  pub rank_bits : length p.rank ≤ MAX_RANK_BITS
  pub index_bits : length p.index ≤ MAX_INDEX_BITS

-- The witness is one for what is claimed: its literals are those of a frame, its gates stand in order, so that none depends on itself,
-- and it has a part.
pub record IsWitnessFor (x : Claim) : Type 0 where
  pub latches : All (IsOfFrame x) x.witness.latches
  pub gates : (k : ℕ) (operands : Operands) → slice_get x.witness.gates k ≡ Some operands → AreBefore x k operands
  pub always : IsOfFrame x x.witness.always
  pub parts : All (IsPartFor x) x.witness.parts
  pub some_part : 0 < length x.witness.parts

-- The witness is proved by these logs: that of each obligation is closed over its base clauses.
pub record IsProved (x : Claim) (log : Obligation → List Entry) : Type 0 where
  pub closed : (o : Obligation) → IsObligationOf x.witness o → IsClosed (variables_of x o) (clauses_of x o) None (log o)
