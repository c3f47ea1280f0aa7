-- The problems that a board was made of.
use Rattle.std.proofs.Common.{◌≡◌, ℕ, ◌<◌, ◌≤◌, Option, Some, None, IfSome, IfNone, sym, ap, ◌∙◌}
use Rattle.std.specs.Borrow.{Bor}
use Rattle.std.specs.Option.{option_copied, option_map}
use Rattle.text_limits.specs.declared.TheConstants.{SMALL_LIMITS}
use Rattle.letters_and_lassos.specs.declared.kinds.Side.{Side}
use Rattle.letters_and_lassos.specs.declared.kinds.Side.TheVariants.{System, Environment}
use Rattle.machine_model.specs.declared.problems.Problem.{Problem}
use Rattle.machine_model.specs.Problem.{IsProblem, parts_of, sized}
use Rattle.machine_model.proofs.PartsLemmas.{alike}
use Rattle.size_board.specs.Names.{Named, AreNamed, IsProblemAt, IsProblemOn, sizes_of, sought_by, sought_of}
use Rattle.size_board.proofs.LawProofs.{sized_problem}

module _ (names : Named) (system : Problem) (environment : Option Problem) (system_sizes environment_sizes : ℕ)
    (named : AreNamed names system environment system_sizes environment_sizes) where
  -- the problem that is lent is the environment's, if it has any
  pub environment_on : (lent : Option (Bor Problem)) → option_copied lent ≡ environment → IfSome lent (λ p. IsProblemOn names Environment p.now)
  environment_on None is = tt
  environment_on (Some p) is =
      let sought : names.environment ≡ Some (sought_of p.now) = named.of_environment ∙ ap (option_map sought_of) (sym is) in
      record {
        sought = sought;
        side_is = named.searchable.of_environment (sought_of p.now) sought;
        problem = λ n some few. sized_problem p.now n (named.searchable.environment (sought_of p.now) sought) some few;
      }

-- a side's problem with an allowed number of states
pub problem_at : (names : Named) (side : Side) (n : ℕ) (p q : Problem) → IsProblemOn names side p → 0 < n → n ≤ SMALL_LIMITS.machine → parts_of q ≡ parts_of (sized p n) → IsProblemAt names side n q
problem_at names side n p q on some few parts = record {
  sought = on.sought ∙ λ i. let x = sym parts i in
      Some (record { automaton = x.automaton; inputs = x.inputs; outputs = x.outputs; side = x.side; kind = x.kind; counting = x.counting });
  side_is = (λ i. (parts i).side) ∙ on.side_is;
  size_is = λ i. (parts i).size;
  problem = (alike (sized p n) q (sym parts)).problem (on.problem n some few);
}
