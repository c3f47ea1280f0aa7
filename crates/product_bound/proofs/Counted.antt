-- What is counted, and where numbers are counted anew, both ways.
use Rattle.std.proofs.Common.{◌≡◌, ℕ, ◌+◌, ◌*◌, true, false, ap}
use Rattle.std.specs.Prelude.{not}
use Rattle.std.proofs.lemmas.Bool.{and_from, and_left, and_right, cond-true, cond-false, not_from_false, not_from_true}
use Rattle.machine_model.specs.Components.{are_joined, local_count}
use Rattle.machine_model.specs.Problem.{automaton_of, counts_locally}
use Rattle.machine_model.specs.declared.problems.Problem.{Problem}
use Rattle.product_bound.specs.Annotation.{bound_at, bound_of, leaves, number_after, rejecting_at, rejecting_count, rise_at, start_number}

module _ (p : Problem) where
  pub whole_rejecting : (q : ℕ) → counts_locally p ≡ false → rejecting_at p q ≡ rejecting_count (automaton_of p)
  whole_rejecting q e = cond-false (counts_locally p) (local_count (automaton_of p) q) (rejecting_count (automaton_of p)) e

  pub local_rejecting : (q : ℕ) → counts_locally p ≡ true → rejecting_at p q ≡ local_count (automaton_of p) q
  local_rejecting q e = cond-true (counts_locally p) (local_count (automaton_of p) q) (rejecting_count (automaton_of p)) e

  pub whole_bound : (q : ℕ) → counts_locally p ≡ false → bound_at p q ≡ bound_of p
  whole_bound q e = ap (λ n. p.size * n) (whole_rejecting q e)

  pub local_bound : (q : ℕ) → counts_locally p ≡ true → bound_at p q ≡ p.size * local_count (automaton_of p) q
  local_bound q e = ap (λ n. p.size * n) (local_rejecting q e)

  pub whole_start : counts_locally p ≡ false → start_number p ≡ rise_at (automaton_of p) 0
  whole_start e = cond-false (counts_locally p) 0 (rise_at (automaton_of p) 0) e

  pub local_start : counts_locally p ≡ true → start_number p ≡ 0
  local_start e = cond-true (counts_locally p) 0 (rise_at (automaton_of p) 0) e

  pub stays_whole : (q r : ℕ) → counts_locally p ≡ false → leaves p q r ≡ false
  stays_whole q r e = and_left (counts_locally p) (not (are_joined (automaton_of p) q r)) e

  pub stays_joined : (q r : ℕ) → are_joined (automaton_of p) q r ≡ true → leaves p q r ≡ false
  stays_joined q r e = and_right (counts_locally p) (not (are_joined (automaton_of p) q r)) (not_from_true (are_joined (automaton_of p) q r) e)

  pub leaves_apart : (q r : ℕ) → counts_locally p ≡ true → are_joined (automaton_of p) q r ≡ false → leaves p q r ≡ true
  leaves_apart q r v e = and_from (counts_locally p) (not (are_joined (automaton_of p) q r)) v (not_from_false (are_joined (automaton_of p) q r) e)

  pub after_stays : (q r c : ℕ) → leaves p q r ≡ false → number_after p q r c ≡ c + rise_at (automaton_of p) r
  after_stays q r c e = cond-false (leaves p q r) 0 (c + rise_at (automaton_of p) r) e

  pub after_leaves : (q r c : ℕ) → leaves p q r ≡ true → number_after p q r c ≡ 0
  after_leaves q r c e = cond-true (leaves p q r) 0 (c + rise_at (automaton_of p) r) e
