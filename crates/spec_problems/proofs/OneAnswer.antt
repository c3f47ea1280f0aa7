-- A formula and a text have one answer.
use Rattle.std.proofs.Common.{◌≡◌, ℕ, List, Option, Some, None, refl, sym, ap, subst, ◌∙◌}
use Rattle.text_limits.specs.declared.TheConstants.{SMALL_LIMITS}
use Rattle.letters_and_lassos.specs.declared.kinds.Kind.{Kind}
use Rattle.letters_and_lassos.specs.declared.kinds.Side.{Side}
use Rattle.letters_and_lassos.specs.declared.kinds.Side.TheVariants.{System, Environment}
use Rattle.letters_and_lassos.specs.Kinds.{other_kind}
use Rattle.ltl_formula.specs.declared.nodes.Node.{Node}
use Rattle.ltl_formula.specs.Added.{Built}
use Rattle.ltl_formula.specs.Nodes.{tree_at}
use Rattle.ltl_formula.specs.Tree.{Tree}
use Rattle.machine_model.specs.declared.problems.Problem.{Problem}
use Rattle.machine_model.specs.Automaton.{AutomatonModel}
use Rattle.machine_model.specs.Counting.{IsCountedAs}
use Rattle.machine_model.specs.declared.counting.Counts.{Counts}
use Rattle.machine_model.proofs.CountingLemmas.{one_counted}
use Rattle.side_automata.specs.declared.automata.Automata.{Automata}
use Rattle.side_automata.proofs.Sides.{answers_are_apart}
use Rattle.spec_faults.specs.declared.code.SpecCode.{SpecCode}
use Rattle.tlsf_expand.specs.FlatText.{FlatText}
use Rattle.tlsf_reader.proofs.OneTree.{determined}
use Rattle.tlsf_reader.proofs.NoFault.{no_fault as no_reading_fault}
use Rattle.flat_text.specs.FlatOf.{IsFlatOf}
use Rattle.flat_text.proofs.Determined.{one_flat, no_flat_fault}
use Rattle.flat_text.proofs.OneFault.{one_fault as one_flat_fault}
use Rattle.spec_problems.specs.declared.sides.Interface.{Interface}
use Rattle.spec_problems.specs.declared.sides.SideProblems.{SideProblems}
use Rattle.spec_problems.specs.OfFormula.{IsProblemOver, IsEnvironmentOver, AreProblemsOver, AreProblemsIn, IsFormFault, no_room, too_large}
use Rattle.spec_problems.specs.OfText.{AreProblemsOf, interface_of, IsFirstFault, of_text, of_problems}
use Rattle.spec_problems.specs.Laws.{IsSameProblem, IsSameIfAny, AreSameProblems, ProblemsOfFormulasAreDetermined, ProblemsOfTextsAreDetermined}

same_problem : (x : Interface) (side : Side) (kind : Kind) (a b : AutomatonModel) (p q : Problem) → a ≡ b → IsProblemOver x side kind a p → IsProblemOver x side kind b q → IsSameProblem p q
same_problem x side kind a b p q e h g = record {
  automaton = h.automaton ∙ e ∙ sym g.automaton;
  inputs = h.inputs ∙ sym g.inputs;
  outputs = h.outputs ∙ sym g.outputs;
  side = h.side ∙ sym g.side;
  kind = h.kind ∙ sym g.kind;
  size = h.size ∙ sym g.size;
  counting = one_counted x.counts b p.counting q.counting (subst (λ c. IsCountedAs x.counts c p.counting) e h.counting) g.counting;
}

same_if_any : (x : Interface) (o : Option AutomatonModel) (e f : Option Problem) → IsEnvironmentOver x o e → IsEnvironmentOver x o f → IsSameIfAny e f
same_if_any x None None None h g = tt
same_if_any x (Some a) (Some p) (Some q) h g = same_problem x Environment (other_kind x.kind) a a p q refl h g
same_if_any x None (Some p) f h g = absurd h
same_if_any x None None (Some q) h g = absurd g
same_if_any x (Some a) None f h g = absurd h
same_if_any x (Some a) (Some p) None h g = absurd g

same_problems : (x : Interface) (a b : Automata) (s t : SideProblems) → a ≡ b → AreProblemsOver x a s → AreProblemsOver x b t → AreSameProblems s t
same_problems x a b s t e h g = record {
  of_system = same_problem x System x.kind a.system b.system s.system t.system (ap (λ (c : Automata). c.system) e) h.of_system g.of_system;
  of_environment = same_if_any x a.environment s.environment t.environment h.of_environment
      (subst (λ (o : Option AutomatonModel). IsEnvironmentOver x o t.environment) (sym (ap (λ (c : Automata). c.environment) e)) g.of_environment);
}

one_pair : (x : Interface) (f : Tree) (old new new' : List Node) (s t : SideProblems) → AreProblemsIn x f old new s → AreProblemsIn x f old new' t → AreSameProblems s t
one_pair x f old new new' s t h g =
    same_problems x h.automata g.automata s t (answers_are_apart.one f old new new' h.automata g.automata h.are_automata g.are_automata) h.problems g.problems

form_apart : (x : Interface) (f : Tree) (old new : List Node) (s : SideProblems) (code : SpecCode) (place : ℕ) → AreProblemsIn x f old new s → IsFormFault f old code place → ⊥
form_apart x f old new s _ _ h (no_room e) = answers_are_apart.made f old new h.automata h.are_automata e
form_apart x f old new s _ _ h (too_large later passes) = answers_are_apart.too_large f old new later h.automata h.are_automata passes

one_form_fault : (f : Tree) (nodes : List Node) (code code' : SpecCode) (place place' : ℕ) → IsFormFault f nodes code place → IsFormFault f nodes code' place' → (code ≡ code') × (place ≡ place')
one_form_fault f nodes _ _ _ _ (no_room e) (no_room d) = (refl, refl)
one_form_fault f nodes _ _ _ _ (too_large later p) (too_large later' q) = (refl, refl)
one_form_fault f nodes _ _ _ _ (no_room e) (too_large later p) = absurd (answers_are_apart.passed f nodes later p e)
one_form_fault f nodes _ _ _ _ (too_large later p) (no_room e) = absurd (answers_are_apart.passed f nodes later p e)

pub formulas_are_determined : ProblemsOfFormulasAreDetermined
formulas_are_determined = record { one = one_pair; no_fault = form_apart; one_fault = one_form_fault }

-- ---- texts

same_flat : (text : List ℕ) (kind : Option Kind) (flat flat' : FlatText) → IsFlatOf SMALL_LIMITS text kind flat → IsFlatOf SMALL_LIMITS text kind flat' → flat ≡ flat'
same_flat text kind flat flat' a b = one_flat determined SMALL_LIMITS text kind flat flat' a b

-- the problems of one flat text, at an equal one
moved : (counts : Counts) (flat flat' : FlatText) (new : List Node) (s : SideProblems) → flat' ≡ flat → AreProblemsIn (interface_of counts flat'.expanded) (tree_at flat'.formulas flat'.expanded.whole) flat'.formulas new s
    → AreProblemsIn (interface_of counts flat.expanded) (tree_at flat.formulas flat.expanded.whole) flat.formulas new s
moved counts flat flat' new s e h = subst (λ (x : FlatText). AreProblemsIn (interface_of counts x.expanded) (tree_at x.formulas x.expanded.whole) x.formulas new s) e h

same_list : (x : Interface) (f : Tree) (old new new' : List Node) (s t : SideProblems) → AreProblemsIn x f old new s → AreProblemsIn x f old new' t → new ≡ new'
same_list x f old new new' s t h g =
    let built : ◌≡◌ {A = Built} (record { nodes = new; made = Some h.are_automata.normal }) (record { nodes = new'; made = Some g.are_automata.normal }) = sym h.are_automata.forms.of_normal ∙ g.are_automata.forms.of_normal in
    ap (λ (b : Built). b.nodes) built

one_text : (text : List ℕ) (kind : Option Kind) (counts : Counts) (spec spec' : FlatText) (s t : SideProblems) → AreProblemsOf text kind counts spec s → AreProblemsOf text kind counts spec' t → spec ≡ spec'
one_text text kind counts spec spec' s t h g =
    let flats : g.flat ≡ h.flat = same_flat text kind g.flat h.flat g.is_flat h.is_flat in
    let texts : spec.expanded ≡ spec'.expanded = h.same ∙ sym (ap (λ (x : FlatText). x.expanded) flats) ∙ sym g.same in
    let lists : spec.formulas ≡ spec'.formulas = same_list _ _ h.flat.formulas spec.formulas spec'.formulas s t h.problems (moved counts h.flat g.flat spec'.formulas t flats g.problems) in
    λ i. record { expanded = texts i; formulas = lists i }

one_text_pair : (text : List ℕ) (kind : Option Kind) (counts : Counts) (spec spec' : FlatText) (s t : SideProblems) → AreProblemsOf text kind counts spec s → AreProblemsOf text kind counts spec' t → AreSameProblems s t
one_text_pair text kind counts spec spec' s t h g =
    let flats : g.flat ≡ h.flat = same_flat text kind g.flat h.flat g.is_flat h.is_flat in
    one_pair _ _ h.flat.formulas spec.formulas spec'.formulas s t h.problems (moved counts h.flat g.flat spec'.formulas t flats g.problems)

fault_moved : (flat flat' : FlatText) (code : SpecCode) (place : ℕ) → flat' ≡ flat → IsFormFault (tree_at flat'.formulas flat'.expanded.whole) flat'.formulas code place
    → IsFormFault (tree_at flat.formulas flat.expanded.whole) flat.formulas code place
fault_moved flat flat' code place e h = subst (λ (x : FlatText). IsFormFault (tree_at x.formulas x.expanded.whole) x.formulas code place) e h

text_apart : (text : List ℕ) (kind : Option Kind) (counts : Counts) (spec : FlatText) (s : SideProblems) (code : SpecCode) (place : ℕ) → AreProblemsOf text kind counts spec s → IsFirstFault text kind code place → ⊥
text_apart text kind counts spec s _ _ h (of_text code place fault) = no_flat_fault determined no_reading_fault SMALL_LIMITS text kind h.flat code place h.is_flat fault
text_apart text kind counts spec s _ _ h (of_problems flat code place is fault) =
    form_apart _ _ h.flat.formulas spec.formulas s code place h.problems (fault_moved h.flat flat code place (same_flat text kind flat h.flat is h.is_flat) fault)

one_first_fault : (text : List ℕ) (kind : Option Kind) (code code' : SpecCode) (place place' : ℕ) → IsFirstFault text kind code place → IsFirstFault text kind code' place' → (code ≡ code') × (place ≡ place')
one_first_fault text kind _ _ _ _ (of_text c k a) (of_text d l b) = one_flat_fault SMALL_LIMITS text kind c d k l a b
one_first_fault text kind _ _ _ _ (of_text c k a) (of_problems flat d l is b) = absurd (no_flat_fault determined no_reading_fault SMALL_LIMITS text kind flat c k is a)
one_first_fault text kind _ _ _ _ (of_problems flat c k is a) (of_text d l b) = absurd (no_flat_fault determined no_reading_fault SMALL_LIMITS text kind flat d l is b)
one_first_fault text kind _ _ _ _ (of_problems flat c k is a) (of_problems flat' d l is' b) =
    one_form_fault (tree_at flat.formulas flat.expanded.whole) flat.formulas c d k l a (fault_moved flat flat' d l (same_flat text kind flat' flat is' is) b)

pub texts_are_determined : ProblemsOfTextsAreDetermined
texts_are_determined = record { one_text = one_text; one = one_text_pair; no_fault = text_apart; one_fault = one_first_fault }
