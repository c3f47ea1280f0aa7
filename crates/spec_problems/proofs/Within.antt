-- Problems over automata within the limits can be given to each call that takes one.
use Rattle.std.proofs.Common.{◌≡◌, ◌≤◌, ◌+◌, Option, Some, None, All, sym, subst, arith}
use Rattle.std.specs.Prelude.{IfSome}
use Rattle.text_limits.specs.declared.TheConstants.{SMALL_LIMITS}
use Rattle.letters_and_lassos.specs.declared.kinds.Kind.{Kind}
use Rattle.letters_and_lassos.specs.declared.kinds.Side.{Side}
use Rattle.ltl_formula.specs.declared.nodes.Node.{Node}
use Rattle.std.specs.Prelude.{List}
use Rattle.machine_model.specs.Automaton.{AutomatonModel, states_of}
use Rattle.machine_model.specs.Counting.{CountsIn}
use Rattle.machine_model.proofs.CountingLemmas.{counts_in}
use Rattle.machine_model.specs.Problem.{IsProblem, NamesSignals}
use Rattle.machine_model.specs.declared.problems.Problem.{Problem}
use Rattle.side_automata.specs.Limits.{FitsProblem, FitProblemsOf}
use Rattle.side_automata.specs.declared.automata.Automata.{Automata}
use Rattle.tlsf_expand.specs.FewSignals.{HasFewSignals}
use Rattle.spec_problems.specs.declared.sides.Interface.{Interface}
use Rattle.spec_problems.specs.declared.sides.SideProblems.{SideProblems}
use Rattle.spec_problems.specs.OfFormula.{AreProblems, AreProblemsOver, IsEnvironmentOver, IsProblemOver}

module _ (x : Interface) (inputs : x.inputs ≤ SMALL_LIMITS.signals) (outputs : x.outputs ≤ SMALL_LIMITS.signals) where
  problem_within : (side : Side) (kind : Kind) (a : AutomatonModel) (p : Problem) → FitsProblem (x.inputs + x.outputs) a → IsProblemOver x side kind a p → IsProblem p
  problem_within side kind a p fits over = record {
    inputs = subst (λ n. n ≤ SMALL_LIMITS.signals) (sym over.inputs) inputs;
    outputs = subst (λ n. n ≤ SMALL_LIMITS.signals) (sym over.outputs) outputs;
    some = let one : p.size ≡ 1 = over.size in omega arith;
    size = let one : p.size ≡ 1 = over.size in omega arith;
    states = subst (λ b. states_of b ≤ SMALL_LIMITS.automaton.states) (sym over.automaton) fits.states;
    signals =
        subst (λ b. All (NamesSignals (p.inputs + p.outputs)) b.edges) (sym over.automaton)
        (subst (λ n. All (NamesSignals (n + p.outputs)) a.edges) (sym over.inputs) (subst (λ n. All (NamesSignals (x.inputs + n)) a.edges) (sym over.outputs) fits.signals));
    counting = subst (λ b. CountsIn b p.counting) (sym over.automaton) (counts_in x.counts a p.counting over.counting);
  }

  environment_within : (o : Option AutomatonModel) (e : Option Problem) → IfSome o (FitsProblem (x.inputs + x.outputs)) → IsEnvironmentOver x o e → IfSome e IsProblem
  environment_within None None fits over = tt
  environment_within None (Some p) fits over = absurd over
  environment_within (Some a) None fits over = absurd over
  environment_within (Some a) (Some p) fits over = problem_within _ _ a p fits over

pub problems_within : (x : Interface) (nodes : List Node) (a : Automata) (s : SideProblems) → HasFewSignals SMALL_LIMITS x.inputs x.outputs nodes → FitProblemsOf nodes a → AreProblemsOver x a s → AreProblems s
problems_within x nodes a s few fit over =
    let fits = fit.fit (x.inputs + x.outputs) few.below in
    record {
      is_system = problem_within x few.few_inputs few.few_outputs _ _ a.system s.system fits.of_system over.of_system;
      is_environment = environment_within x few.few_inputs few.few_outputs a.environment s.environment fits.of_environment over.of_environment;
    }
