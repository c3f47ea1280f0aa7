-- The literals of a claim are small.
use Rattle.std.proofs.Common.{◌≡◌, ℕ, ◌+◌, ◌*◌, ◌^◌, ◌≤◌, List, get_or, sym, subst, arith}
use Rattle.std.specs.Prelude.{All}
use Rattle.aiger_text.specs.declared.circuits.Latch.{Latch}
use Rattle.aiger_text.specs.Circuit.{Circuit}
use Rattle.aiger_text.specs.CircuitType.{IsCircuit}
use Rattle.truth_witness.specs.Witness.{Part, Claim}
use Rattle.truth_witness.specs.Variables.{frame_size, top_literal}
use Rattle.truth_witness.specs.Proved.{IsOfFrame, IsPartFor}
use Rattle.truth_witness.proofs.Meeting.{AtMost}
use Rattle.truth_witness.proofs.Within.{latches_within}
use Rattle.witness_clauses.specs.Smallness.{IsSmallPart}

-- what all elements have, with what follows from it
pub all_so : {X : Type 0} (P Q : X → Type 0) → ((x : X) → P x → Q x) → (xs : List X) → All P xs → All Q xs
all_so P Q so xs each = λ k d h. so (get_or xs k d) (each k d h)

pub latches_small : (c : Circuit) → IsCircuit c → c.variables ≤ 2 ^ 28 → All (λ latch. latch.literal ≤ 2 ^ 30) c.latches
latches_small c circuit few =
    all_so (λ (latch : Latch). latch.literal ≤ 2 * c.variables + 1) (λ (latch : Latch). latch.literal ≤ 2 ^ 30) (λ latch h. omega arith) c.latches (latches_within c circuit)

-- a part's bits are few, and their literals small
pub small_part : (x : Claim) (p : Part) → frame_size x ≤ 2 ^ 28 → IsPartFor x p → IsSmallPart p
small_part x p few part = record {
  rank = all_so (IsOfFrame x) (λ l. l ≤ 2 ^ 30 + 1) (λ l h. small l h) p.rank part.rank;
  index = all_so (IsOfFrame x) (λ l. l ≤ 2 ^ 30 + 1) (λ l h. small l h) p.index part.index;
  rank_bits = part.rank_bits;
  index_bits = part.index_bits;
}
  where
    small : (l : ℕ) → l ≤ top_literal x → l ≤ 2 ^ 30 + 1
    small l h = let e : l ≤ 2 * frame_size x + 1 = h in omega arith

-- clauses that are listed fit where those that are meant do
pub fit : (listed meant : List (List ℕ)) (n m : ℕ) → listed ≡ meant → m ≡ n → All (All (AtMost n)) meant → All (All (λ l. l ≤ 2 * m + 1)) listed
fit listed meant n m same size each = subst (λ (k : ℕ). All (All (λ l. l ≤ 2 * k + 1)) listed) (sym size) (subst (All (All (AtMost n))) (sym same) each)

pub fit_small : (listed meant : List (List ℕ)) (n : ℕ) → listed ≡ meant → n ≤ 2 ^ 28 → All (All (AtMost n)) meant → All (All (λ l. l ≤ 2 ^ 30 + 1)) listed
fit_small listed meant n same few each =
    all_so (All (AtMost n)) (All (λ l. l ≤ 2 ^ 30 + 1)) (λ lits lits_each. all_so (AtMost n) (λ l. l ≤ 2 ^ 30 + 1) (λ l h. let e : l ≤ 2 * n + 1 = h in omega arith) lits lits_each) listed
    (subst (All (All (AtMost n))) (sym same) each)
