-- What is known of logs that were tested in their order.
use Rattle.std.proofs.Common.{◌≡◌, ℕ, ◌+◌, ◌<◌, ◌≤◌, List, [], length, get_or, subst, ◌∙◌, arith, inl, inr}
use Rattle.std.specs.Prelude.{◌⊎◌}
use Rattle.std.proofs.lemmas.Bool.{cases_lt}
use Rattle.std.proofs.lemmas.List.{get_or_default}
use Rattle.truth_witness.specs.Witness.{Claim}
use Rattle.truth_witness.specs.Obligations.{clauses_of, variables_of}
use Rattle.witness_check.specs.declared.bases.Bases.{Bases}
use Rattle.witness_check.specs.declared.faults.ObligationFault.{ObligationFault}
use Rattle.witness_check.specs.Order.{obligation_at, obligation_count}
use Rattle.truth_witness.specs.Logs.{ObligationLog}
use Rattle.witness_check.specs.Logs.{AllHold, FirstHold, HoldsAt, HoldsOver, log_at}
use Rattle.witness_check.specs.Faults.{IsFaultOver, IsFirstAt}
use Rattle.witness_check.specs.Kept.{AreKept}

pub record Tested (x : Claim) (logs : List ObligationLog) (k : ℕ) (b : Bases) : Type 0 where
  pub kept : AreKept x b
  pub before : (j : ℕ) → j < k → HoldsAt x logs j

log_is : (logs : List ObligationLog) (k : ℕ) (log : ObligationLog) → k < length logs → log ≡ get_or logs k log → log ≡ log_at logs k
log_is logs k log h is = is ∙ get_or_default logs k log (record { vars = 0; base = 0; entries = [] }) h

pub tested_more : (x : Claim) (logs : List ObligationLog) (k : ℕ) (log : ObligationLog) (old new : Bases) → k < length logs → log ≡ get_or logs k log
    → HoldsOver (variables_of x (obligation_at k)) (clauses_of x (obligation_at k)) log → AreKept x new → Tested x logs k old → Tested x logs (k + 1) new
tested_more x logs k log old new h is holds kept done = record { kept = kept; before = λ j less. by j less (cases_lt j k) }
  where
    here : HoldsAt x logs k
    here = subst (HoldsOver (variables_of x (obligation_at k)) (clauses_of x (obligation_at k))) (log_is logs k log h is) holds

    by : (j : ℕ) → j < k + 1 → (j < k) ⊎ (k ≤ j) → HoldsAt x logs j
    by j less (inl before) = done.before j before
    by j less (inr after) = let same : k ≡ j = omega arith in subst (HoldsAt x logs) same here

pub first_is : (x : Claim) (logs : List ObligationLog) (k : ℕ) (log : ObligationLog) (b : Bases) (fault : ObligationFault) → k < length logs
    → log ≡ get_or logs k log → IsFaultOver (variables_of x (obligation_at k)) (clauses_of x (obligation_at k)) log fault → Tested x logs k b → IsFirstAt x logs k fault
first_is x logs k log b fault h is refused done = record {
  within = h;
  before = done.before;
  here = subst (λ l. IsFaultOver (variables_of x (obligation_at k)) (clauses_of x (obligation_at k)) l fault) (log_is logs k log h is) refused;
}

-- as many logs as obligations are all of them
pub all_hold : (x : Claim) (logs : List ObligationLog) → length logs ≡ obligation_count x.witness → FirstHold x logs (length logs) → AllHold x logs
all_hold x logs count first = subst (FirstHold x logs) count first
