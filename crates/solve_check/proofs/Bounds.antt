-- The fewest states of a side lie between what is refuted and what a circuit reaches.
use Rattle.std.proofs.Common.{ℕ, ◌<◌, ◌≤◌, subst, arith, inl, inr}
use Rattle.std.proofs.lemmas.Bool.{cases_lt}
use Rattle.machine_model.proofs.Tables.{size_pos}
use Rattle.circuit_laws.specs.Laws.{NoSmallCircuitDefeats, NoSmallCircuitSatisfies}
use Rattle.satisfaction.specs.Wanted.{Wanted}
use Rattle.satisfaction.specs.Laws.{DefeatingCannotLose}
use Rattle.solved_text.specs.Parts.{Document}
use Rattle.solve_check.specs.Accepted.{IsController, IsCounterStrategy}
use Rattle.solve_check.specs.Laws.{IsLeastDefeating, IsLeastSatisfying, LeastLieBetween}

module _ (x : Wanted) (n refuted least : ℕ) (d : Document) where
  satisfied_above : IsController x n refuted d → IsLeastSatisfying x least → refuted < least
  satisfied_above is has =
      let pos : 0 < least = subst (λ (s : ℕ). 0 < s) has.size (size_pos has.machine has.satisfies.system.machine.shape) in
      elim (cases_lt refuted least) [ inl less ↦ less | inr few ↦ absurd (is.no_machine least pos few has.machine has.size has.satisfies) ]

  satisfied_below : NoSmallCircuitSatisfies → IsController x n refuted d → IsLeastSatisfying x least → least ≤ n
  satisfied_below small is has =
      elim (cases_lt n least) [
        | inl less ↦ absurd (small x n (λ k pos few. has.smaller k pos (omega (arith, few, less))) n (omega arith) is.circuit is.is_circuit is.states is.satisfies)
        | inr few ↦ few
      ]

  defeated_above : DefeatingCannotLose → IsCounterStrategy x n refuted d → IsLeastDefeating x least → refuted < least
  defeated_above cannot_lose is has =
      let pos : 0 < least = subst (λ (s : ℕ). 0 < s) has.size (size_pos has.machine has.defeats.environment.machine.shape) in
      elim (cases_lt refuted least) [
        | inl less ↦ less
        | inr few ↦ absurd (cannot_lose x has.machine has.defeats (is.no_machine least pos few has.machine has.size has.defeats.environment))
      ]

  defeated_below : NoSmallCircuitDefeats → IsCounterStrategy x n refuted d → IsLeastDefeating x least → least ≤ n
  defeated_below small is has =
      elim (cases_lt n least) [
        | inl less ↦ absurd (small x n (λ k pos few. has.smaller k pos (omega (arith, few, less))) n (omega arith) is.circuit is.is_circuit is.states is.defeats)
        | inr few ↦ few
      ]

pub least_lie_between : NoSmallCircuitSatisfies → NoSmallCircuitDefeats → DefeatingCannotLose → LeastLieBetween
least_lie_between satisfying defeating cannot_lose = record {
  of_system = λ x n refuted least d is has. record { above = satisfied_above x n refuted least d is has; below = satisfied_below x n refuted least d satisfying is has };
  of_environment = λ x n refuted least d is has. record { above = defeated_above x n refuted least d cannot_lose is has; below = defeated_below x n refuted least d defeating is has };
}
