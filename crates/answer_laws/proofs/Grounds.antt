-- A document that holds over a ground holds over each that has the same names and the same formula in the same list, with whatever kind
-- of the problems, and whatever their numbers count.
use Rattle.std.proofs.Common.{◌≡◌, Option, Some, None, List, length, sym, ap, subst, ◌∙◌}
use Rattle.letters_and_lassos.specs.declared.kinds.Kind.{Kind}
use Rattle.letters_and_lassos.specs.declared.kinds.Side.{Side}
use Rattle.letters_and_lassos.specs.declared.kinds.Side.TheVariants.{System, Environment}
use Rattle.letters_and_lassos.specs.Kinds.{other_kind}
use Rattle.ltl_formula.specs.declared.nodes.FormulaId.{FormulaId}
use Rattle.ltl_formula.specs.declared.nodes.Node.{Node}
use Rattle.ltl_formula.specs.Nodes.{tree_at}
use Rattle.machine_model.specs.Automaton.{AutomatonModel}
use Rattle.machine_model.specs.declared.counting.Counts.{Counts}
use Rattle.machine_model.specs.declared.problems.Problem.{Problem}
use Rattle.side_automata.specs.declared.automata.Automata.{Automata}
use Rattle.side_automata.specs.Laws.{AnswersAreApart}
use Rattle.document_text.specs.Parts.{Document}
use Rattle.document_check.specs.Alike.{AreSameShapes, shape_of}
use Rattle.document_check.specs.Holds.{HoldsFor}
use Rattle.document_check.proofs.Alike.{checks_alike}
use Rattle.spec_problems.specs.declared.sides.Interface.{Interface}
use Rattle.spec_problems.specs.declared.sides.SideProblems.{SideProblems}
use Rattle.spec_problems.specs.OfFormula.{AreProblemsIn, IsEnvironmentOver, IsProblemOver}
use Rattle.text_ground.specs.Ground.{AreProblemsOn, Ground, facts_on, interface_on}

module _ (x y : Interface) (inputs : x.inputs ≡ y.inputs) (outputs : x.outputs ≡ y.outputs) where
  one_shape : (side : Side) (kind other : Kind) (a b : AutomatonModel) (p q : Problem) → a ≡ b → IsProblemOver x side kind a p → IsProblemOver y side other b q
      → shape_of p ≡ shape_of q
  one_shape side kind other a b p q same is are = λ i. record {
    automaton = (is.automaton ∙ same ∙ sym are.automaton) i;
    inputs = (is.inputs ∙ inputs ∙ sym are.inputs) i;
    outputs = (is.outputs ∙ outputs ∙ sym are.outputs) i;
    side = (is.side ∙ sym are.side) i;
  }

  environments : (o u : Option AutomatonModel) (e f : Option Problem) → o ≡ u → IsEnvironmentOver x o e → IsEnvironmentOver y u f → AreSameShapes e f
  environments o u e f same is are = by o e f is (subst (λ (v : Option AutomatonModel). IsEnvironmentOver y v f) (sym same) are)
    where
      by : (o : Option AutomatonModel) (e f : Option Problem) → IsEnvironmentOver x o e → IsEnvironmentOver y o f → AreSameShapes e f
      by None None None is are = tt
      by (Some a) (Some p) (Some q) is are = one_shape Environment (other_kind x.kind) (other_kind y.kind) a a p q (λ i. a) is are
      by None (Some p) f is are = absurd is
      by None None (Some q) is are = absurd are
      by (Some a) None f is are = absurd is
      by (Some a) (Some p) None is are = absurd are

-- two grounds have the same names, and the same formula in the same list
pub record AreAlike (g h : Ground) : Type 0 where
  pub inputs : g.wanted.inputs ≡ h.wanted.inputs
  pub outputs : g.wanted.outputs ≡ h.wanted.outputs
  pub formulas : g.formulas ≡ h.formulas
  pub whole : g.whole ≡ h.whole

module _ (apart : AnswersAreApart) (g h : Ground) (alike : AreAlike g h) (v w : Counts) (later more : List Node) (s t : SideProblems)
    (are : AreProblemsOn v g later s) (so : AreProblemsOn w h more t) where
  -- the problems of the other ground, over the formula of the first
  there : AreProblemsIn (interface_on w h) (tree_at g.formulas g.whole) g.formulas more t
  there =
      subst (λ (id : FormulaId). AreProblemsIn (interface_on w h) (tree_at g.formulas id) g.formulas more t) (sym alike.whole)
      (subst (λ (nodes : List Node). AreProblemsIn (interface_on w h) (tree_at nodes h.whole) nodes more t) (sym alike.formulas) so)

  automata : are.automata ≡ there.automata
  automata = apart.one (tree_at g.formulas g.whole) g.formulas later more are.automata there.automata are.are_automata there.are_automata

  same_inputs : (interface_on v g).inputs ≡ (interface_on w h).inputs
  same_inputs = ap length alike.inputs

  same_outputs : (interface_on v g).outputs ≡ (interface_on w h).outputs
  same_outputs = ap length alike.outputs

  systems : shape_of s.system ≡ shape_of t.system
  systems =
      one_shape (interface_on v g) (interface_on w h) same_inputs same_outputs System g.wanted.kind h.wanted.kind are.automata.system there.automata.system s.system t.system
      (ap (λ (a : Automata). a.system) automata) are.problems.of_system there.problems.of_system

  of_environments : AreSameShapes s.environment t.environment
  of_environments =
      environments (interface_on v g) (interface_on w h) same_inputs same_outputs are.automata.environment there.automata.environment s.environment t.environment
      (ap (λ (a : Automata). a.environment) automata) are.problems.of_environment there.problems.of_environment

  pub holds_on : (d : Document) → HoldsFor (facts_on g s) d → HoldsFor (facts_on h t) d
  holds_on d is =
      checks_alike.holds (facts_on g s) (facts_on h t) d (record { inputs = alike.inputs; outputs = alike.outputs; system = systems; environment = of_environments }) is
