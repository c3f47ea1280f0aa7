-- The problems of both sides of a flat text, as a search or a test takes them (this project's own).
use Rattle.std.specs.Prelude.{◌≡◌, length}
use Rattle.std.specs.Option.{ForSome}
use Rattle.letters_and_lassos.specs.declared.kinds.Kind.{Kind}
use Rattle.letters_and_lassos.specs.declared.kinds.Side.{Side}
use Rattle.letters_and_lassos.specs.declared.kinds.Side.TheVariants.{System, Environment}
use Rattle.letters_and_lassos.specs.Kinds.{other_kind}
use Rattle.machine_model.specs.Automaton.{IsAutomaton}
use Rattle.machine_model.specs.Counting.{IsCountedAs}
use Rattle.machine_model.specs.Problem.{IsProblem, automaton_of}
use Rattle.machine_model.specs.declared.counting.Counts.{Counts}
use Rattle.machine_model.specs.declared.problems.Problem.{Problem}
use Rattle.spec_problems.specs.declared.sides.SideProblems.{SideProblems}
use Rattle.tlsf_expand.specs.Expansion.{Expanded}

-- the problem of a side of a text, whose numbers count so, and whose machines are of this kind
pub record IsProblemFor (counts : Counts) (x : Expanded) (side : Side) (kind : Kind) (p : Problem) : Type 0 where
  pub within : IsProblem p
  pub inputs : p.inputs ≡ length x.inputs
  pub outputs : p.outputs ≡ length x.outputs
  pub of_side : p.side ≡ side
  pub kind_is : p.kind ≡ kind
  pub size : p.size ≡ 1
  pub counted : IsCountedAs counts (automaton_of p) p.counting

pub record AreProblemsFor (counts : Counts) (x : Expanded) (s : SideProblems) : Type 0 where
  pub of_system : IsProblemFor counts x System x.kind s.system
  pub of_environment : ForSome s.environment (IsProblemFor counts x Environment (other_kind x.kind))

-- the problems' automata are such
pub record HaveAutomata (s : SideProblems) : Type 0 where
  pub of_system : IsAutomaton (automaton_of s.system)
  pub of_environment : ForSome s.environment (λ p. IsAutomaton (automaton_of p))
