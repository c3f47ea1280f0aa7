-- The rule of a valid annotation, part by part, and whole.
use Rattle.std.proofs.Common.{◌≡◌, ℕ, List, sym, ◌∙◌, Option, Some, None, get_or}
use Rattle.std.specs.Prelude.{Contains}
use Rattle.std.proofs.lemmas.List.Elements.{All-contains, Contains-get_or}
use Rattle.machine_model.specs.Automaton.{IsAutomaton, JoinsStates, states_of}
use Rattle.machine_model.specs.Machine.{MachineModel}
use Rattle.machine_model.specs.Problem.{automaton_of}
use Rattle.machine_model.specs.declared.automata.Edge.{Edge}
use Rattle.machine_model.specs.declared.problems.Problem.{Problem}
use Rattle.product_bound.specs.Annotation.{HasNumber, IsValidAnnotation, number_after, number_at, start_number}
use Rattle.product_bound.specs.Kept.{AreWithin, KeepsEdge, KeepsEdges, KeepsNumber, KeepsStates}

module _ (p : Problem) (numbers : List (Option ℕ)) (t q s r : ℕ) where
  pub none_kept : (a : ℕ) → number_at p numbers t q ≡ Some a → number_at p numbers s r ≡ None → KeepsNumber p numbers t q s r → ⊥
  none_kept a from to kept =
      let has : HasNumber p numbers s r (number_after p q r a) = kept.number a from in
      let both : Some has.number ≡ None = sym has.stands ∙ to in
      cc

module _ (p : Problem) (m : MachineModel) (numbers : List (Option ℕ)) (made : IsAutomaton (automaton_of p)) where
  pub valid_of : AreWithin p numbers → HasNumber p numbers 0 0 (start_number p) → KeepsStates p m numbers → IsValidAnnotation p m numbers
  valid_of within start kept = record {
    bounded = λ t q c ht hq e. ((within.states q hq).each t ht).small c e;
    start = start;
    edges = λ t q c read r ht hq e hi edge.
        let of_edges : KeepsEdges p m numbers t read = (kept.states t ht).letters read hi in
        let of_edge : KeepsEdge p m numbers t read (record { from = q; cube = edge.cube; to = r }) = All-contains (KeepsEdge p m numbers t read) (automaton_of p).edges (record { from = q; cube = edge.cube; to = r }) of_edges.edges edge.stands in
        (of_edge.edge edge.fits).number c e;
  }

  pub within_says : IsValidAnnotation p m numbers → AreWithin p numbers
  within_says valid = record {
    states = λ q hq. record { each = λ t ht. record { small = λ c e. valid.bounded t q c ht hq e } };
  }

  pub states_say : IsValidAnnotation p m numbers → KeepsStates p m numbers
  states_say valid = record {
    states = λ t ht. record {
      letters = λ read hi. record {
        edges = λ k d h.
            let e : Edge = get_or (automaton_of p).edges k d in
            let there : Contains (automaton_of p).edges (get_or (automaton_of p).edges k d) = Contains-get_or (automaton_of p).edges k d h in
            let joins : JoinsStates (states_of (automaton_of p)) (get_or (automaton_of p).edges k d) = made.edges k d h in
            record {
              edge = λ fits. record {
                number = λ c from. valid.edges t e.from c read e.to ht joins.from from hi (record { cube = e.cube; stands = there; fits = fits });
              };
            };
      };
    };
  }
