-- What a document that holds for a text says of it.
use Rattle.std.proofs.Common.{◌≡◌, ◌==◌, ℕ, zero, suc, ◌-◌, ◌≤◌, Bool, true, false, List, [], ◌∷◌, ◌++◌, Option, Some, None, All, IfSome, map, refl, sym, ap, subst, arith, if◌then◌else◌}
use Rattle.std.specs.Prelude.{min, nat_le, option_map}
use Rattle.std.specs.Option.{option_map_or}
use Rattle.std.proofs.Math.Nat.{min-le_right}
use Rattle.std.proofs.lemmas.Bool.{leb-true, and_parts}
use Rattle.std.proofs.lemmas.List.Elements.{All-append, All-cons, All-head, All-nil, All-same, All-tail}
use Rattle.letters_and_lassos.specs.declared.kinds.Kind.{Kind}
use Rattle.letters_and_lassos.specs.declared.kinds.Kind.TheVariants.{Mealy}
use Rattle.letters_and_lassos.specs.declared.kinds.Side.{Side}
use Rattle.letters_and_lassos.specs.declared.kinds.Side.TheVariants.{System, Environment}
use Rattle.letters_and_lassos.specs.Kinds.{other_kind}
use Rattle.ltl_formula.specs.Tree.{Tree}
use Rattle.ltl_formula.specs.Nodes.{tree_at}
use Rattle.machine_model.specs.declared.problems.Problem.{Problem}
use Rattle.machine_model.specs.Automaton.{IsAutomaton}
use Rattle.machine_model.specs.Problem.{IsProblem, automaton_of}
use Rattle.annotation_encode.specs.Count.{SizesRise, allowed_sizes}
use Rattle.annotation_encode.specs.Laws.{HasNoAccepted}
use Rattle.refutation_log.specs.Log.{is_ended}
use Rattle.side_automata.specs.Sides.{AcceptsWhere}
use Rattle.tlsf_expand.specs.FlatText.{FlatText, spec_seen}
use Rattle.text_limits.specs.declared.TheConstants.{SMALL_LIMITS}
use Rattle.flat_text.specs.Kinds.{of_kind}
use Rattle.flat_text.proofs.OfKinds.{kinds}
use Rattle.spec_problems.specs.declared.sides.SideProblems.{SideProblems}
use Rattle.spec_problems.specs.declared.texts.TextProblems.{TextProblems}
use Rattle.satisfaction.specs.Satisfaction.{EachCanLose}
use Rattle.satisfaction.specs.Wanted.{Says, Wanted}
use Rattle.document_text.specs.declared.documents.Verdict.{Verdict}
use Rattle.document_text.specs.declared.order.Order.{Order}
use Rattle.document_text.specs.declared.order.Order.TheVariants.{UpTo, AnyUpTo}
use Rattle.document_text.specs.Order.{order_of, log_place}
use Rattle.document_text.specs.Parts.{Document, LogPart}
use Rattle.document_text.specs.States.{States}
use Rattle.document_check.specs.Facts.{Facts, allowed_at, counting_for, for_side, problem_at, sizes_to, wanted_sizes}
use Rattle.document_check.specs.Holds.{AllHold, HoldsAt, HoldsFor, IsLogOfSome, may_be_full}
use Rattle.document_check.specs.Laws.{AllRefute, ClosedLogsRefuteSizes}
use Rattle.document_check.specs.Shown.{AreFacts, IsSize}
use Rattle.document_check.proofs.ProblemLemmas.{within_limits}
use Rattle.text_ground.specs.Ground.{IsWantedBy}
use Rattle.text_ground.specs.Ground.{given_by}
use Rattle.text_ground.specs.Laws.{SidesMean}
use Rattle.text_ground.specs.Problems.{AreProblemsFor, HaveAutomata}
use Rattle.text_ground.proofs.Meaning.{IsSideOf, are_problems_for, each_can_lose, none_satisfies, wanted_of}
use Rattle.text_ground.proofs.Lists.{all_three, some_of}
use Rattle.check_answer.specs.Answer.{HasNoMachine, IsAcceptedDocument}
use Rattle.check_answer.specs.Reply.{IsForCheck}
use Rattle.check_answer.proofs.Told.{says_of_sizes}
use Rattle.machine_model.specs.declared.counting.Counts.TheVariants.{Whole}

-- == the sizes of logs ==

sizes_fit : (side : Side) (n : ℕ) → n ≤ 8 → All IsSize (sizes_to side n)
sizes_fit side zero few = All-nil IsSize
sizes_fit side (suc n) few =
    All-append IsSize (sizes_to side n) (record { side = side; size = suc n } ∷ []) (sizes_fit side n (omega (arith, few)))
    (All-cons IsSize (record { side = side; size = suc n }) [] (record { some = omega arith; few = few }) (All-nil IsSize))

smaller_fit : (side : Side) (n most : ℕ) → most ≤ 8 → All IsSize (sizes_to side (min n most))
smaller_fit side n most few = let least = min-le_right n most in sizes_fit side (min n most) (omega (arith, least, few))

module _ (system environment : ℕ) (few_systems : system ≤ 8) (few_environments : environment ≤ 8) where
  all_fit : All IsSize (sizes_to System system ++ sizes_to Environment environment)
  all_fit = All-append IsSize (sizes_to System system) (sizes_to Environment environment) (sizes_fit System system few_systems) (sizes_fit Environment environment few_environments)

  few_for : (side : Side) → for_side side system environment ≤ 8
  few_for System = few_systems
  few_for Environment = few_environments

  wanted_fit : (order : Order) → All IsSize (wanted_sizes order system environment)
  wanted_fit (UpTo side count) = smaller_fit side count (for_side side system environment) (few_for side)
  wanted_fit (AnyUpTo max) = all_fit

logs_fit : (logs : List LogPart) → All IsSize (map log_place logs) → All (λ l. IsSize (log_place l)) logs
logs_fit [] all = All-nil (λ l. IsSize (log_place l))
logs_fit (l ∷ logs) all =
    All-cons (λ l. IsSize (log_place l)) l logs (All-head IsSize (log_place l) (map log_place logs) all) (logs_fit logs (All-tail IsSize (log_place l) (map log_place logs) all))

-- == each log of a list ==

-- no machine of the problem is accepted, if there is one
abbrev Refuted : Option Problem → Type 0
Refuted o = IfSome o (λ p. IsProblem p → IsAutomaton (automaton_of p) → HasNoAccepted p)

each_holds : (facts : Facts) (kind : Kind) (version : ℕ) (full : Bool) (limit : Option ℕ) (logs : List LogPart) → AllHold facts kind version full limit logs
    → All (HoldsAt facts kind version full limit) logs
each_holds facts kind version full limit [] all = All-nil (HoldsAt facts kind version full limit)
each_holds facts kind version full limit (l ∷ logs) all = All-cons (HoldsAt facts kind version full limit) l logs all.0 (each_holds facts kind version full limit logs all.1)

each_refutes : (facts : Facts) (kind : Kind) (version : ℕ) (logs : List LogPart) → AllRefute facts kind version logs
    → All (λ l. is_ended l.entries ≡ true → Refuted (problem_at facts kind version l.side l.size)) logs
each_refutes facts kind version [] all = All-nil (λ l. is_ended l.entries ≡ true → Refuted (problem_at facts kind version l.side l.size))
each_refutes facts kind version (l ∷ logs) all =
    All-cons (λ l. is_ended l.entries ≡ true → Refuted (problem_at facts kind version l.side l.size)) l logs all.0 (each_refutes facts kind version logs all.1)

-- == the text ==

-- what is known of a text and of its problems
pub record Context (text : List ℕ) (t : TextProblems) : Type 0 where
  pub sides : SidesMean
  pub sizes : SizesRise
  pub refute : ClosedLogsRefuteSizes
  pub taken : IsForCheck text t
  pub automata : HaveAutomata t.problems

module _ (text : List ℕ) (t : TextProblems) (k : Context text t) where
  abbrev spec : FlatText
  spec = spec_seen t.spec

  abbrev s : SideProblems
  s = t.problems

  abbrev pub given : Facts
  given = given_by spec s

  abbrev formula : Tree
  formula = tree_at spec.formulas spec.expanded.whole

  are_facts : AreFacts given
  are_facts = k.taken.facts

  for_text : AreProblemsFor Whole spec.expanded s
  for_text = are_problems_for Whole text (Some Mealy) spec s k.taken.meet k.taken.text_with.are

  -- what the text wants of machines of this kind
  abbrev wanted_with : Kind → Wanted
  wanted_with kind = wanted_of (record spec.expanded { kind = kind }) k.taken.text_with.says.tree

  says : (kind : Kind) → Says formula (wanted_with kind)
  says kind = record { same = k.taken.text_with.says.meaning.same }

  is_wanted : (kind : Kind) → IsWantedBy text (Some kind) (wanted_with kind)
  is_wanted kind = record {
    flat = of_kind kind k.taken.text_with.are.flat;
    is_flat = kinds.by_other SMALL_LIMITS text Mealy kind k.taken.text_with.are.flat k.taken.text_with.are.is_flat;
    inputs = ap (λ x. x.inputs) k.taken.text_with.are.same;
    outputs = ap (λ x. x.outputs) k.taken.text_with.are.same;
    kind_is = refl;
    tree = k.taken.text_with.says.tree;
    read = k.taken.text_with.says.read;
    meaning = λ w. refl;
  }

  module _ (kind : Kind) (version n : ℕ) (some : 1 ≤ n) (few : n ≤ 8) where
    abbrev systems : Problem
    systems = record s.system { kind = kind; size = n; counting = counting_for version (automaton_of s.system) }

    abbrev environments : Problem → Problem
    environments p = record p { kind = other_kind kind; size = n; counting = counting_for version (automaton_of p) }

    system_known : IsSideOf (wanted_with kind) formula System systems
    system_known = record {
      within = within_limits kind version n some few s.system are_facts.system k.automata.of_system;
      of_side = for_text.of_system.of_side;
      kind_is = refl;
      inputs = for_text.of_system.inputs;
      outputs = for_text.of_system.outputs;
      automaton = k.automata.of_system;
      accepts = k.taken.text_with.accept.system_where;
    }

    environment_known : (p : Problem) → s.environment ≡ Some p → IsSideOf (wanted_with kind) formula Environment (environments p)
    environment_known p is = record {
      within = within_limits (other_kind kind) version n some few p (some_of IsProblem s.environment p are_facts.environment is) (k.automata.of_environment p is);
      of_side = (for_text.of_environment p is).of_side;
      kind_is = refl;
      inputs = (for_text.of_environment p is).inputs;
      outputs = (for_text.of_environment p is).outputs;
      automaton = k.automata.of_environment p is;
      accepts = some_of (λ (q : Problem). AcceptsWhere true formula (automaton_of q)) s.environment p k.taken.text_with.accept.environment_where is;
    }

    module _ (full : Bool) (limit : Option ℕ) (l : LogPart) where
      each_loses : (o : Option Problem) → s.environment ≡ o → IsLogOfSome full limit l (option_map environments o) → Refuted (option_map environments o)
          → EachCanLose (wanted_with kind) n
      each_loses None is holds refuted = absurd holds
      each_loses (Some p) is holds refuted =
          let known = environment_known p is in
          each_can_lose k.sides (wanted_with kind) formula (says kind) (environments p) n known (refuted known.within known.automaton)

      no_machine : (side : Side) → IsLogOfSome full limit l (problem_at given kind version side n) → Refuted (problem_at given kind version side n)
          → HasNoMachine (wanted_with kind) side n
      no_machine System holds refuted =
          none_satisfies k.sides (wanted_with kind) formula (says kind) systems n system_known (refuted system_known.within system_known.automaton)
      no_machine Environment holds refuted = each_loses s.environment refl holds refuted

  -- == a document that holds ==

  module _ (certificate : List ℕ) (d : Document) (states : States certificate d) (holds : HoldsFor given d) where
    abbrev systems_allowed : ℕ
    systems_allowed = allowed_at given d.kind d.version d.max System

    abbrev environments_allowed : ℕ
    environments_allowed = allowed_at given d.kind d.version d.max Environment

    few_allowed : (side : Side) → allowed_at given d.kind d.version d.max side ≤ 8
    few_allowed side = by (problem_at given d.kind d.version side 1)
      where
        few : d.max ≤ 8
        few = leb-true d.max 8 (and_parts (nat_le 1 d.max) (nat_le d.max 8) states.well_formed.max).1

        by : (o : Option Problem) → option_map_or (λ (p : Problem). allowed_sizes p d.max) o 0 ≤ 8
        by None = omega arith
        by (Some p) = let within = (k.sizes.allowed p d.max).within in omega (arith, within, few)

    logs_refuted : All (λ l. is_ended l.entries ≡ true → HasNoMachine (wanted_with d.kind) l.side l.size) d.logs
    logs_refuted =
        all_three (λ l. IsSize (log_place l)) (HoldsAt given d.kind d.version (may_be_full d.verdict) d.entries)
        (λ l. is_ended l.entries ≡ true → Refuted (problem_at given d.kind d.version l.side l.size))
        (λ l. is_ended l.entries ≡ true → HasNoMachine (wanted_with d.kind) l.side l.size)
        (λ l size log refuted ended. no_machine d.kind d.version l.size size.some size.few (may_be_full d.verdict) d.entries l l.side log (refuted ended))
        d.logs
        (logs_fit d.logs (All-same IsSize (map log_place d.logs) (wanted_sizes (order_of d.version d.verdict d.max d.found) systems_allowed environments_allowed) holds.sizes
        (wanted_fit systems_allowed environments_allowed (few_allowed System) (few_allowed Environment) (order_of d.version d.verdict d.max d.found))))
        (each_holds given d.kind d.version (may_be_full d.verdict) d.entries d.logs holds.logs)
        (each_refutes given d.kind d.version d.logs (k.refute given d holds))

    pub is_accepted : IsAcceptedDocument text certificate given d
    is_accepted = record {
      states = states;
      holds = holds;
      wanted = wanted_with d.kind;
      is_wanted = is_wanted d.kind;
      refuted = logs_refuted;
      told = says_of_sizes (wanted_with d.kind) given d.kind d.version d.entries d.max d.found systems_allowed environments_allowed d.logs logs_refuted d.verdict states.well_formed.found holds.sizes
          (each_holds given d.kind d.version (may_be_full d.verdict) d.entries d.logs holds.logs) holds.number;
    }
