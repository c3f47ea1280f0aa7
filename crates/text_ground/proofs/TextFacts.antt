-- What a text gives to the test of documents.
use Rattle.std.proofs.Common.{◌≡◌, ℕ, List, Option, Some, None, IfSome, refl, sym, ap, subst, ◌∙◌}
use Rattle.letters_and_lassos.specs.declared.kinds.Kind.{Kind}
use Rattle.letters_and_lassos.specs.declared.kinds.Side.{Side}
use Rattle.letters_and_lassos.specs.declared.kinds.Side.TheVariants.{System, Environment}
use Rattle.letters_and_lassos.specs.Kinds.{other_kind}
use Rattle.machine_model.specs.declared.problems.Problem.{Problem}
use Rattle.machine_model.specs.Automaton.{AutomatonModel}
use Rattle.machine_model.specs.Counting.{CountsBy, IsCountedAs}
use Rattle.machine_model.specs.Problem.{IsProblem}
use Rattle.tlsf_expand.specs.FlatText.{FlatText}
use Rattle.spec_problems.specs.declared.sides.Interface.{Interface}
use Rattle.spec_problems.specs.declared.sides.SideProblems.{SideProblems}
use Rattle.spec_problems.specs.OfFormula.{AreProblems, IsEnvironmentOver, IsProblemOver}
use Rattle.spec_problems.specs.OfText.{AreProblemsOf, interface_of}
use Rattle.spec_problems.specs.Laws.{AreSameProblems, IsSameIfAny, IsSameProblem}
use Rattle.document_check.specs.Alike.{AreAlike, AreSameShapes, shape_of}
use Rattle.document_check.specs.Facts.{counts_for}
use Rattle.document_check.specs.Shown.{AreFacts, AreFactsFor, IsReadyFor}
use Rattle.text_ground.specs.Ground.{given_by}

-- the text's problems may be tested against
pub facts_are : (spec : FlatText) (s : SideProblems) → AreProblems s → AreFacts (given_by spec s)
facts_are spec s are = record { system = are.is_system; environment = are.is_environment }

-- a problem that counts as those of a document's version do
ready : (x : Interface) (version : ℕ) → x.counts ≡ counts_for version → (side : Side) (kind : Kind) (a : AutomatonModel) (p : Problem) → IsProblemOver x side kind a p → IsProblem p → IsReadyFor version p
ready x version counts side kind a p over is = record {
  problem = is;
  counting = λ local. subst (λ b. CountsBy b p.counting) (sym over.automaton) (subst (λ c. IsCountedAs c a p.counting) (counts ∙ local) over.counting);
}

of_environment : (x : Interface) (version : ℕ) → x.counts ≡ counts_for version → (a : Option AutomatonModel) (o : Option Problem) → IsEnvironmentOver x a o → IfSome o IsProblem
    → IfSome o (IsReadyFor version)
of_environment x version counts None None over is = tt
of_environment x version counts None (Some p) over is = absurd over
of_environment x version counts (Some a) None over is = absurd over
of_environment x version counts (Some a) (Some p) over is = ready x version counts Environment (other_kind x.kind) a p over is

-- they are ready for documents of a version where they count as those do
pub facts_are_for : (text : List ℕ) (kind : Option Kind) (version : ℕ) (spec : FlatText) (s : SideProblems) → AreProblemsOf text kind (counts_for version) spec s → AreProblems s
    → AreFactsFor version (given_by spec s)
facts_are_for text kind version spec s of_text are =
    let x : Interface = interface_of (counts_for version) of_text.flat.expanded in
    let over = of_text.problems.problems in
    record {
      system = ready x version refl System x.kind of_text.problems.automata.system s.system over.of_system are.is_system;
      environment = of_environment x version refl of_text.problems.automata.environment s.environment over.of_environment are.is_environment;
    }

same_shape : (p q : Problem) → IsSameProblem p q → shape_of p ≡ shape_of q
same_shape p q same = λ i. record { automaton = same.automaton i; inputs = same.inputs i; outputs = same.outputs i; side = same.side i }

same_if_any : (e f : Option Problem) → IsSameIfAny e f → AreSameShapes e f
same_if_any None None same = tt
same_if_any (Some p) (Some q) same = same_shape p q same
same_if_any None (Some q) same = absurd same
same_if_any (Some p) None same = absurd same

-- it sees the same of one text, whichever problems were given for it
pub facts_alike : (spec spec' : FlatText) (s t : SideProblems) → spec ≡ spec' → AreSameProblems s t → AreAlike (given_by spec s) (given_by spec' t)
facts_alike spec spec' s t text same = record {
  inputs = ap (λ (x : FlatText). x.expanded.inputs) text;
  outputs = ap (λ (x : FlatText). x.expanded.outputs) text;
  system = same_shape s.system t.system same.of_system;
  environment = same_if_any s.environment t.environment same.of_environment;
}
