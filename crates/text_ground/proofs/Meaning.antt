-- What a text's problems say of machines.
use Rattle.std.proofs.Common.{◌≡◌, ℕ, ◌≤◌, Bool, true, false, List, Option, Some, None, IfSome, length, refl, sym, ap, ◌∙◌, subst}
use Rattle.text_limits.specs.declared.TheConstants.{SMALL_LIMITS}
use Rattle.letters_and_lassos.specs.declared.kinds.Kind.{Kind}
use Rattle.letters_and_lassos.specs.declared.kinds.Side.{Side}
use Rattle.letters_and_lassos.specs.declared.kinds.Side.TheVariants.{System, Environment}
use Rattle.letters_and_lassos.specs.Kinds.{other_kind}
use Rattle.ltl_formula.specs.declared.nodes.FormulaId.{FormulaId}
use Rattle.ltl_formula.specs.declared.nodes.Node.{Node}
use Rattle.ltl_formula.specs.Nodes.{tree_at}
use Rattle.ltl_formula.specs.Tree.{Tree}
use Rattle.letters_and_lassos.specs.Word.{Word}
use Rattle.machine_model.specs.Accepts.{SideAccepts}
use Rattle.machine_model.specs.Automaton.{AutomatonModel, IsAutomaton}
use Rattle.machine_model.specs.Machine.{IsMachine, MachineModel, size_of}
use Rattle.machine_model.specs.Counting.{IsCountedAs}
use Rattle.machine_model.specs.declared.counting.Counts.{Counts}
use Rattle.machine_model.specs.Problem.{IsMachineOf, IsProblem, automaton_of, reads_of, sized, writes_of}
use Rattle.machine_model.specs.Run.{IsRunLasso}
use Rattle.machine_model.specs.declared.problems.Problem.{Problem}
use Rattle.annotation_encode.specs.Laws.{HasNoAccepted}
use Rattle.side_automata.specs.declared.automata.Automata.{Automata}
use Rattle.side_automata.specs.Sides.{AcceptsWhere}
use Rattle.tlsf_expand.specs.Expansion.{Expanded}
use Rattle.tlsf_expand.specs.Meaning.{means}
use Rattle.tlsf_expand.specs.FlatText.{FlatText}
use Rattle.tlsf_syntax.specs.Text.{Text}
use Rattle.flat_text.specs.FlatOf.{IsFlatOf}
use Rattle.flat_text.proofs.OfKinds.{kinds}
use Rattle.spec_problems.specs.declared.sides.SideProblems.{SideProblems}
use Rattle.spec_problems.specs.OfFormula.{AcceptBySide, AreProblems, AreProblemsIn, AreProblemsOver, IsEnvironmentOver, IsProblemOver}
use Rattle.spec_problems.specs.OfText.{AreProblemsOf, SaysWhat, interface_of}
use Rattle.satisfaction.specs.Wanted.{Says, Wanted}
use Rattle.satisfaction.specs.Satisfaction.{EachCanLose, IsEnvironmentFor, IsSystemFor, NoneSatisfies}
use Rattle.text_ground.specs.Ground.{AreGivenOn, Ground, IsGroundOf, ground_with}
use Rattle.text_ground.specs.Problems.{AreProblemsFor, IsProblemFor}
use Rattle.text_ground.specs.Laws.{SidesMean}
use Rattle.text_ground.proofs.Lists.{some_of}

-- == what a text wants ==

abbrev pub wanted_of : Expanded → Text → Wanted
wanted_of x tree = record { inputs = x.inputs; outputs = x.outputs; kind = x.kind; means = λ w. means SMALL_LIMITS w tree }

-- == its problems ==

one_for : (v : Counts) (x : Expanded) (side : Side) (machines : Kind) (a : AutomatonModel) (p : Problem) → IsProblem p → IsProblemOver (interface_of v x) side machines a p → IsProblemFor v x side machines p
one_for v x side machines a p within over = record {
  within = within;
  inputs = over.inputs;
  outputs = over.outputs;
  of_side = over.side;
  kind_is = over.kind;
  size = over.size;
  counted = subst (λ b. IsCountedAs v b p.counting) (sym over.automaton) over.counting;
}

environment_for : (v : Counts) (x : Expanded) (a : Option AutomatonModel) (e : Option Problem) → IsEnvironmentOver (interface_of v x) a e → IfSome e IsProblem
    → (p : Problem) → e ≡ Some p → IsProblemFor v x Environment (other_kind x.kind) p
environment_for v x None None over within p is = absurd (cc)
environment_for v x None (Some q) over within p is = absurd over
environment_for v x (Some a) None over within p is = absurd over
environment_for v x (Some a) (Some q) over within p is =
    some_of (IsProblemFor v x Environment (other_kind x.kind)) (Some q) p (one_for v x Environment (other_kind x.kind) a q within over) is

-- the problems of a formula, with the numbers of names and the kind of a flat text
pub problems_for : (v : Counts) (x : Expanded) (a : Automata) (s : SideProblems) → AreProblems s → AreProblemsOver (interface_of v x) a s → AreProblemsFor v x s
problems_for v x a s meet over = record {
  of_system = one_for v x System x.kind a.system s.system meet.is_system over.of_system;
  of_environment = environment_for v x a.environment s.environment over.of_environment meet.is_environment;
}

pub are_problems_for : (v : Counts) (text : List ℕ) (kind : Option Kind) (spec : FlatText) (s : SideProblems) → AreProblems s → AreProblemsOf text kind v spec s → AreProblemsFor v spec.expanded s
are_problems_for v text kind spec s meet are =
    subst (λ x. AreProblemsFor v x s) (sym are.same) (problems_for v are.flat.expanded are.problems.automata s meet are.problems.problems)

-- == its ground ==

abbrev pub truth_of_text : {text : List ℕ} {nodes : List Node} {whole : FormulaId} → SaysWhat text nodes whole → Word → Bool
truth_of_text says w = means SMALL_LIMITS w says.tree

-- the ground of a text, with the names of a text that says the same
abbrev pub text_ground : {text : List ℕ} (spec flat : FlatText) → SaysWhat text spec.formulas spec.expanded.whole → Ground
text_ground spec flat says = ground_with spec.expanded (truth_of_text says) flat.formulas flat.expanded.whole

ground_at : (text : List ℕ) (kind : Option Kind) (spec flat : FlatText) (says : SaysWhat text spec.formulas spec.expanded.whole) → IsFlatOf SMALL_LIMITS text kind flat
    → spec.expanded ≡ flat.expanded → IsGroundOf text kind (text_ground spec flat says)
ground_at text kind spec flat says is same = record {
  is_wanted = record {
    flat = flat;
    is_flat = is;
    inputs = ap (λ x. x.inputs) same;
    outputs = ap (λ x. x.outputs) same;
    kind_is = ap (λ x. x.kind) same;
    tree = says.tree;
    read = says.read;
    meaning = λ w. refl;
  };
  formulas = refl;
  whole = refl;
}

pub is_ground : (v : Counts) (text : List ℕ) (kind : Option Kind) (spec : FlatText) (s : SideProblems) (says : SaysWhat text spec.formulas spec.expanded.whole)
    (are : AreProblemsOf text kind v spec s) → IsGroundOf text kind (text_ground spec are.flat says)
is_ground v text kind spec s says are = ground_at text kind spec are.flat says are.is_flat are.same

-- it is the same where the text is taken with the kind that it has
pub ground_by_its_kind : (v : Counts) (text : List ℕ) (kind : Option Kind) (spec : FlatText) (s : SideProblems) (says : SaysWhat text spec.formulas spec.expanded.whole)
    (are : AreProblemsOf text kind v spec s) → IsGroundOf text (Some spec.expanded.kind) (text_ground spec are.flat says)
ground_by_its_kind v text kind spec s says are =
    ground_at text (Some spec.expanded.kind) spec are.flat says
    (subst (λ (x : Expanded). IsFlatOf SMALL_LIMITS text (Some x.kind) are.flat) (sym are.same) (kinds.by_its_kind SMALL_LIMITS text kind are.flat are.is_flat)) are.same

-- the problems of the text stand on it
pub given_on : (v : Counts) (text : List ℕ) (kind : Option Kind) (spec : FlatText) (s : SideProblems) (says : SaysWhat text spec.formulas spec.expanded.whole)
    (are : AreProblemsOf text kind v spec s) → AcceptBySide (tree_at spec.formulas spec.expanded.whole) s → AreGivenOn v (text_ground spec are.flat says) s
given_on v text kind spec s says are accept = record {
  later = spec.formulas;
  are_problems = subst (λ (x : Expanded). AreProblemsIn (interface_of v x) (tree_at are.flat.formulas are.flat.expanded.whole) are.flat.formulas spec.formulas s) (sym are.same) are.problems;
  formula = tree_at spec.formulas spec.expanded.whole;
  accept = accept;
  says = record { same = says.meaning.same };
}

-- == machines ==

abbrev pub truth_of : Side → Bool
truth_of System = false
truth_of Environment = true

abbrev pub kind_for : Side → Kind → Kind
kind_for System kind = kind
kind_for Environment kind = other_kind kind

-- what is known of the problem of a side of a text
pub record IsSideOf (x : Wanted) (f : Tree) (side : Side) (p : Problem) : Type 0 where
  pub within : IsProblem p
  pub of_side : p.side ≡ side
  pub kind_is : p.kind ≡ kind_for side x.kind
  pub inputs : p.inputs ≡ length x.inputs
  pub outputs : p.outputs ≡ length x.outputs
  pub automaton : IsAutomaton (automaton_of p)
  pub accepts : AcceptsWhere (truth_of side) f (automaton_of p)

pub reads_system : (p : Problem) → p.side ≡ System → reads_of p ≡ p.inputs
reads_system p e = rw e refl

pub writes_system : (p : Problem) → p.side ≡ System → writes_of p ≡ p.outputs
writes_system p e = rw e refl

pub reads_environment : (p : Problem) → p.side ≡ Environment → reads_of p ≡ p.outputs
reads_environment p e = rw e refl

pub writes_environment : (p : Problem) → p.side ≡ Environment → writes_of p ≡ p.inputs
writes_environment p e = rw e refl

pub sized_within : (p : Problem) (n : ℕ) → IsProblem p → 1 ≤ n → n ≤ 8 → IsProblem (sized p n)
sized_within p n within some most = record {
  inputs = within.inputs;
  outputs = within.outputs;
  some = some;
  size = most;
  states = within.states;
  signals = within.signals;
  counting = within.counting;
}

module _ (laws : SidesMean) (x : Wanted) (f : Tree) (says : Says f x) where
  pub system_for : (p : Problem) (n : ℕ) (m : MachineModel) → IsSideOf x f System p → IsMachine m → IsMachineOf (sized p n) m → IsSystemFor x m
  system_for p n m known made sought = record {
    machine = made;
    kind = sought.kind ∙ known.kind_is;
    reads = sought.reads ∙ reads_system (sized p n) known.of_side ∙ known.inputs;
    writes = sought.writes ∙ writes_system (sized p n) known.of_side ∙ known.outputs;
  }

  system_sought : (p : Problem) (m : MachineModel) → IsSideOf x f System p → IsSystemFor x m → IsMachineOf (sized p (size_of m)) m
  system_sought p m known system = record {
    kind = system.kind ∙ sym known.kind_is;
    size = refl;
    reads = system.reads ∙ sym known.inputs ∙ sym (reads_system (sized p (size_of m)) known.of_side);
    writes = system.writes ∙ sym known.outputs ∙ sym (writes_system (sized p (size_of m)) known.of_side);
  }

  pub environment_for_text : (p : Problem) (n : ℕ) (m : MachineModel) → IsSideOf x f Environment p → IsMachine m → IsMachineOf (sized p n) m → IsEnvironmentFor x m
  environment_for_text p n m known made sought = record {
    machine = made;
    kind = sought.kind ∙ known.kind_is;
    reads = sought.reads ∙ reads_environment (sized p n) known.of_side ∙ known.outputs;
    writes = sought.writes ∙ writes_environment (sized p n) known.of_side ∙ known.inputs;
  }

  environment_sought : (p : Problem) (m : MachineModel) → IsSideOf x f Environment p → IsEnvironmentFor x m → IsMachineOf (sized p (size_of m)) m
  environment_sought p m known environment = record {
    kind = environment.kind ∙ sym known.kind_is;
    size = refl;
    reads = environment.reads ∙ sym known.outputs ∙ sym (reads_environment (sized p (size_of m)) known.of_side);
    writes = environment.writes ∙ sym known.inputs ∙ sym (writes_environment (sized p (size_of m)) known.of_side);
  }

  -- no machine of a refuted size satisfies
  pub none_satisfies : (p : Problem) (n : ℕ) → IsSideOf x f System p → HasNoAccepted (sized p n) → NoneSatisfies x n
  none_satisfies p n known none m size satisfies =
      let system = satisfies.system in
      let sought = subst (λ k. IsMachineOf (sized p k) m) size (system_sought p m known system) in
      let accepted = (laws.systems x f (automaton_of p) m says known.accepts system).1 satisfies in
      none.none (record {
        machine = m;
        made = system.machine;
        looked_for = sought;
        accepted = subst (λ side. SideAccepts (automaton_of p) side m) (sym known.of_side) accepted;
      })

  -- each machine of the environment of a refuted size can lose
  pub each_can_lose : (p : Problem) (n : ℕ) → IsSideOf x f Environment p → HasNoAccepted (sized p n) → EachCanLose x n
  each_can_lose p n known none e size environment =
      let sought = subst (λ k. IsMachineOf (sized p k) e) size (environment_sought p e known environment) in
      let rejected = none.each_rejected e environment.machine sought in
      laws.can_lose x f (automaton_of p) e rejected.word says known.accepts
      (rejected.states, subst (λ side. IsRunLasso e side rejected.word rejected.states) known.of_side rejected.run) rejected.accepted
