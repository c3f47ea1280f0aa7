-- From the outcome of a search to the answer.
use Rattle.std.proofs.Common.{◌≡◌, ◌==◌, ℕ, ◌+◌, ◌-◌, ◌<◌, ◌≤◌, ◌^◌, inl, inr, Bool, true, false, List, ◌++◌, Option, Some, None, All, Contains, IsTrue, IfSome, map, refl, sym, ap, ◌∙◌, subst, arith, is_some, if◌then◌else◌}
use Rattle.std.proofs.lemmas.List.Elements.{All-contains, All-map, All-same, All-append, Contains-append_left, Contains-append_right}
use Rattle.std.specs.List.{list_all}
use Rattle.std.specs.Option.{option_map_or}
use Rattle.std.proofs.lemmas.Option.{none-some}
use Rattle.letters_and_lassos.specs.Word.{Word}
use Rattle.letters_and_lassos.specs.declared.kinds.Side.{Side}
use Rattle.letters_and_lassos.specs.declared.kinds.Side.TheVariants.{System, Environment}
use Rattle.ltl_formula.specs.Tree.{Tree}
use Rattle.ltl_formula.specs.declared.nodes.FormulaId.{FormulaId}
use Rattle.ltl_formula.specs.declared.nodes.Node.{Node}
use Rattle.machine_model.specs.Machine.{MachineModel, size_of}
use Rattle.machine_model.specs.Problem.{IsProblem, automaton_of, sized}
use Rattle.machine_model.specs.declared.problems.Problem.{Problem}
use Rattle.annotation_encode.specs.Count.{allowed_sizes}
use Rattle.annotation_encode.specs.Laws.{HasNoAccepted}
use Rattle.annotation_encode.specs.Variables.{variables_of}
use Rattle.refutation_log.specs.declared.entries.Entry.{Entry}
use Rattle.refutation_log.specs.Log.{IsClosed, IsFull, is_ended}
use Rattle.refutation_log.specs.Teaches.{IsTaught}
use Rattle.aiger_text.specs.Circuit.{Circuit, HasStates}
use Rattle.aiger_text.specs.RoundTrip.{IsLineName, IsWritable}
use Rattle.gate_build.specs.Laws.{IsSmallestOf}
use Rattle.side_automata.specs.Sides.{AcceptsWhere}
use Rattle.tlsf_expand.specs.Expansion.{Expanded}
use Rattle.flat_text.specs.FlatNames.{HasPlainNames, IsOneWord}
use Rattle.spec_problems.specs.declared.sides.SideProblems.{SideProblems}
use Rattle.satisfaction.specs.Wanted.{Says, Wanted}
use Rattle.size_board.specs.declared.events.Claim.{Claim}
use Rattle.size_search.specs.declared.size_log.SizeLog.{SizeLog}
use Rattle.synth_engine.specs.declared.settings.Settings.{Settings}
use Rattle.synth_engine.specs.Settings.{IsWithinBounds}
use Rattle.synth_engine.specs.Searched.{allowed_of}
use Rattle.synth_engine.specs.Logs.{IsLogOf, base_at}
use Rattle.synth_engine.specs.Logs as engine
use Rattle.synth_engine.specs.declared.outcomes.Found.{Found}
use Rattle.synth_engine.specs.Outcomes.{AreAllSettled, CannotFill, GoesWith, IsFound, IsFoundWith, IsSettled, OfSide}
use Rattle.program_replies.specs.declared.replies.Status.{Status}
use Rattle.program_replies.specs.Statuses.{status_number}
use Rattle.document_text.specs.declared.documents.Verdict.{Verdict}
use Rattle.document_text.specs.declared.documents.Verdict.TheVariants.{Machine, Unknown}
use Rattle.document_text.specs.declared.order.Order.{Order}
use Rattle.document_text.specs.declared.order.Order.TheVariants.{UpTo}
use Rattle.document_text.specs.declared.order.Place.{Place}
use Rattle.document_text.specs.Order.{AreInOrder, has_its_place, is_in_range, machine_of, may_tell_found, named_of, order_of, place, log_place, first_place, verdict_of}
use Rattle.document_text.specs.Parts.{Document, LogPart}
use Rattle.document_text.specs.Reading.{all_named}
use Rattle.document_text.specs.WellFormed.{IsFoundNumber, IsLogPart, IsWellFormed}
use Rattle.document_text.specs.States.{logs_at, numbered, written_comment_line}
use Rattle.synth_answer.specs.Answer.{CanBeBeaten, DoesItsPart, HasLog, IsRefuted, IsToldOn}
use Rattle.synth_answer.specs.Answer as answer
use Rattle.circuit_names.specs.Names.{read_names, written_names}
use Rattle.document_check.specs.Facts.{Facts, allowed_at, sizes_to, wanted_sizes}
use Rattle.document_check.specs.Holds as check
use Rattle.synth_answer.specs.Holds.{ForLog, IsClosedFor, IsClosedLog, IsEndedLog, IsFullFor, document_version, text_names}
use Rattle.synth_answer.proofs.Held.{AreOfKind, HasHeadOf, IsAllowedLog, allowed_holds, held, searched_sizes, sizes_below}
use Rattle.synth_answer.proofs.OpenLogs.{all_closed, any_full, at_first, first_is, none_open, open_at}
use Rattle.text_ground.specs.Ground.{AreGivenOn, Ground, facts_on, ground_with}
use Rattle.synth_answer.specs.Printed.{IsPrinted, PrintedFor}
use Rattle.synth_answer.specs.Reply.{IsCircuitFor, IsCircuitOfFound, IsSearchedReply, IsShort, LawsHold, StatesIfGood, document_of, found_at, least_status, outcome_verdict, part_of, verdict_status}
use Rattle.text_ground.specs.Problems.{AreProblemsFor, HaveAutomata}
use Rattle.synth_answer.proofs.ListLemmas.{all_some, in_range, line_names}
use Rattle.synth_answer.proofs.LogLemmas.{IsOfNoLine, all_parts_at, places_at}
use Rattle.synth_answer.proofs.Meaning.{does_its_part, some_defeats, some_satisfies}
use Rattle.text_ground.proofs.Meaning.{IsSideOf, each_can_lose, none_satisfies, sized_within}
use Rattle.synth_answer.proofs.AsThree.{all_have_logs, always_fits, is_a_version}
use Rattle.synth_answer.proofs.Places.{IsClaimTo, claims_to, has_place, in_order_all, in_order_side, log_at, parts_at, parts_at_both, unmap}
use Rattle.synth_answer.proofs.Sides.{IsOf, at_side, find, of_side, on_side, out_of}
use Rattle.text_ground.proofs.Lists.{all_map, all_three, some_of}
use Rattle.synth_answer.proofs.Sizes.{few_clauses, few_variables}

-- what is known of a ground, with the names and the kind of a flat text, and of its problems
pub record Context (x : Expanded) (truth : Word → Bool) (nodes : List Node) (whole : FormulaId) (settings : Settings) (s : SideProblems) : Type 0 where
  pub laws : LawsHold
  pub bounds : IsWithinBounds settings
  pub given : AreGivenOn settings.counts (ground_with x truth nodes whole) s
  pub for_text : AreProblemsFor settings.counts x s
  pub names : HasPlainNames x
  pub automata : HaveAutomata s

-- the size of a log is an allowed one
pub record FitsSize (given : Facts) (max : ℕ) (side : Side) (n : ℕ) : Type 0 where
  pub some : 0 < n
  pub most : n ≤ searched_sizes given max side

module _ (x : Expanded) (truth : Word → Bool) (nodes : List Node) (whole : FormulaId) (settings : Settings) (s : SideProblems)
    (k : Context x truth nodes whole settings s) where
  abbrev pub ground : Ground
  ground = ground_with x truth nodes whole

  abbrev pub the_text : Wanted
  the_text = ground.wanted

  abbrev pub given : Facts
  given = facts_on ground s

  abbrev pub formula : Tree
  formula = k.given.formula

  pub says : Says formula the_text
  says = k.given.says

  for_text : AreProblemsFor settings.counts x s
  for_text = k.for_text

  pub side_known : (side : Side) (p : Problem) → IsOf s.system s.environment side p → IsSideOf the_text formula side p
  side_known System p of =
      let known = for_text.of_system in
      let at : IsSideOf the_text formula System s.system = record {
        within = known.within;
        of_side = known.of_side;
        kind_is = known.kind_is;
        inputs = known.inputs;
        outputs = known.outputs;
        automaton = k.automata.of_system;
        accepts = k.given.accept.system_where;
      } in
      subst (IsSideOf the_text formula System) of at
  side_known Environment p of =
      let known = for_text.of_environment p of in
      record {
        within = known.within;
        of_side = known.of_side;
        kind_is = known.kind_is;
        inputs = known.inputs;
        outputs = known.outputs;
        automaton = k.automata.of_environment p of;
        accepts = some_of (λ q. AcceptsWhere true formula (automaton_of q)) s.environment p k.given.accept.environment_where of;
      }

  sizes_at : (side : Side) (p : Problem) → IsOf s.system s.environment side p → searched_sizes given settings.max side ≡ allowed_sizes p settings.max
  sizes_at System p of = ap (λ q. allowed_sizes q settings.max) of
  sizes_at Environment p of = ap (λ o. allowed_of settings.max o) of

  size_allowed : (side : Side) (p : Problem) (n : ℕ) → IsOf s.system s.environment side p → FitsSize given settings.max side n → n ≤ allowed_sizes p settings.max
  size_allowed side p n of fits = subst (λ most. n ≤ most) (sizes_at side p of) fits.most

  size_within : (side : Side) (p : Problem) (n : ℕ) → IsOf s.system s.environment side p → FitsSize given settings.max side n → IsProblem (sized p n)
  size_within side p n of fits =
      let most = size_allowed side p n of fits in
      let all = (k.laws.sizes.allowed p settings.max).within in
      let few = k.bounds.most_size in
      sized_within p n (side_known side p of).within fits.some (omega (arith, most, all, few))

  refuted : (side : Side) (p : Problem) (n : ℕ) (log : List Entry) → IsOf s.system s.environment side p → FitsSize given settings.max side n
      → IsClosed (variables_of (sized p n)) (base_at p n) settings.entries log → HasNoAccepted (sized p n)
  refuted side p n log of fits closed =
      k.laws.refute (sized p n) (variables_of (sized p n)) settings.entries log (size_within side p n of fits) (side_known side p of).automaton closed

  -- == the parts of a document ==

  abbrev pub IsHere : SizeLog → Type 0
  IsHere l = OfSide s.system s.environment (λ p. IsSettled p settings l) l.side

  one_part : (l : SizeLog) → FitsSize given settings.max l.side l.size → IsShort l → (p : Problem) → IsOf s.system s.environment l.side p → IsLogOf p settings l → IsLogPart (part_of l)
  one_part l fits short p of log =
      let most = size_allowed l.side p l.size of fits in
      let all = (k.laws.sizes.allowed p settings.max).within in
      let few = k.bounds.most_size in
      let vars = few_variables (sized p l.size) k.laws.components (side_known l.side p of).automaton (size_within l.side p l.size of fits) in
      let base = few_clauses p l.size ((k.laws.sizes.allowed p settings.max).counted l.size fits.some most) in
      let small : l.vars ≤ 2 ^ 30 = subst (λ n. n ≤ 2 ^ 30) (sym log.vars) vars in
      let workers = k.bounds.most_workers in
      record {
        size = omega (arith, most, all, few);
        vars = omega (arith, small);
        base = subst (λ n. n < 2 ^ 64) (sym log.base) (omega (arith, base));
        count = omega (arith, short);
        entries = k.laws.writable.writable l.vars (base_at p l.size) settings.entries l.log.entries log.legal small (omega (arith, base, short)) log.sorted
            (all_map (λ e. e.by ≤ settings.workers) (λ e. e.by < 2 ^ 32) (λ e h. omega (arith, h, workers)) l.log.entries log.by);
      }

  log_part : (l : SizeLog) → IsHere l → FitsSize given settings.max l.side l.size → IsShort l → IsLogPart (part_of l)
  log_part l here fits short = out_of s.system s.environment l.side (λ p. IsSettled p settings l) (IsLogPart (part_of l)) (λ p of h. one_part l fits short p of h.log) here

  head_part : (l : SizeLog) → IsHere l → ForLog given HasHeadOf (part_of l)
  head_part l here = on_side s.system s.environment l.side (λ p. IsSettled p settings l) (λ p. HasHeadOf p (part_of l)) (λ p h. record { vars = h.log.vars; base = h.log.base }) here

  same_head : IsOfNoLine (ForLog given HasHeadOf)
  same_head l n h = on_side s.system s.environment l.side (λ p. HasHeadOf p l) (λ p. HasHeadOf p (record l { line = n })) (λ p q. record { vars = q.vars; base = q.base }) h

  ended_part : (l : SizeLog) → IsHere l → IsEndedLog given settings.entries (part_of l)
  ended_part l here =
      let there = find s.system s.environment l.side (λ p. IsSettled p settings l) here in
      let p = there.problem in
      let vars = there.holds.log.vars in
      elim there.holds.ended [
        | inl closed ↦ inl (of_side s.system s.environment l.side (λ q. IsClosedFor settings.entries q (part_of l)) p there.of
            (subst (λ v. IsClosed v (base_at p l.size) settings.entries l.log.entries) vars closed))
        | inr full ↦ inr (of_side s.system s.environment l.side (λ q. IsFullFor settings.entries q (part_of l)) p there.of
            (subst (λ v. IsFull v (base_at p l.size) settings.entries l.log.entries) vars full))
      ]

  taught_part : (l : SizeLog) → IsHere l → ForLog given (λ p q. IsTaught (base_at p q.size) q.entries) (part_of l)
  taught_part l here = on_side s.system s.environment l.side (λ p. IsSettled p settings l) (λ p. IsTaught (base_at p l.size) l.log.entries) (λ p h. h.log.taught) here

  by_part : (l : SizeLog) → IsHere l → All (λ e. e.by ≤ settings.workers) l.log.entries
  by_part l here = out_of s.system s.environment l.side (λ p. IsSettled p settings l) (All (λ e. e.by ≤ settings.workers) l.log.entries) (λ p of h. h.log.by) here

  -- == the document ==

  abbrev pub before_lines : Verdict → Option Circuit → List SizeLog → Document
  before_lines v c logs = document_of x.kind settings v c (map part_of logs)

  abbrev pub doc : Verdict → Option Circuit → List SizeLog → Document
  doc v c logs = numbered (before_lines v c logs)

  -- where the head of the first log stands
  abbrev pub first_line : Option Circuit → ℕ
  first_line c = written_comment_line c + 1 + (if 0 == 0 then 5 else 6)

  -- the logs with their lines
  abbrev pub lined : Option Circuit → List SizeLog → List LogPart
  lined c logs = logs_at (first_line c) (map part_of logs)

  -- which logs a document of this verdict wants
  abbrev pub order : Verdict → Order
  order v = order_of (document_version settings.counts) v settings.max 0

  -- of which sizes logs are wanted
  abbrev pub wanted : Order → List Place
  wanted o = wanted_sizes o (searched_sizes given settings.max System) (searched_sizes given settings.max Environment)

  side_most : (side : Side) → searched_sizes given settings.max side ≤ settings.max
  side_most System = (k.laws.sizes.allowed s.system settings.max).within
  side_most Environment = by_problem s.environment
    where
      by_problem : (o : Option Problem) → allowed_of settings.max o ≤ settings.max
      by_problem None = omega arith
      by_problem (Some p) = (k.laws.sizes.allowed p settings.max).within

  -- what makes the document of a verdict well formed, and makes it hold
  pub record Suits (v : Verdict) (c : Option Circuit) (logs : List SizeLog) : Type 0 where
    pub has_place : IsTrue (has_its_place (is_some c) v)
    pub all_names : IfSome c (λ circuit. IsTrue (all_named circuit))
    pub in_order : AreInOrder (order v) (first_place (order v)) (map part_of logs)
    pub names : IfSome (machine_of v) (λ m. IfSome c (check.HasNames given m.side))
    pub named : IfSome (named_of v) (λ q. FitsSize given settings.max q.side q.size)
    pub places : map log_place (map part_of logs) ≡ wanted (order v)
    pub here : All IsHere logs
    pub fits : All (λ l. FitsSize given settings.max l.side l.size) logs
    pub told : v ≡ verdict_of (machine_of v) (check.first_open (map part_of logs))

  in_max : (o : Option Place) → IfSome o (λ q. FitsSize given settings.max q.side q.size) → option_map_or (λ (q : Place). is_in_range 1 settings.max q.size) o true ≡ true
  in_max None fits = refl
  in_max (Some q) fits =
      let some = fits.some in
      let most = fits.most in
      let all = side_most q.side in
      in_range 1 settings.max q.size (omega (arith, some)) (omega (arith, most, all))

  none_found : (may : Bool) → IsFoundNumber may settings.max 0
  none_found true = inl refl
  none_found false = refl

  well_formed : (v : Verdict) (c : Option Circuit) (logs : List SizeLog) → Suits v c logs → All IsShort logs → IsWellFormed (before_lines v c logs)
  well_formed v c logs suits short = record {
    version = is_a_version settings.counts;
    verdict = always_fits settings.counts v;
    circuit = suits.has_place;
    named = suits.all_names;
    max = in_range 1 8 settings.max k.bounds.some_size k.bounds.most_size;
    number = in_max (named_of v) suits.named;
    entries = k.bounds.most_entries;
    found = none_found (may_tell_found (document_version settings.counts) v);
    order = suits.in_order;
    logs = All-map IsLogPart part_of logs (all_three IsHere (λ l. FitsSize given settings.max l.side l.size) IsShort (λ l. IsLogPart (part_of l)) log_part logs suits.here suits.fits short);
  }

  of_kind : AreOfKind given x.kind settings.counts
  of_kind = record {
    kind_is = for_text.of_system.kind_is;
    size = for_text.of_system.size;
    counted = for_text.of_system.counted;
    other_kind_is = λ p is. (for_text.of_environment p is).kind_is;
    other_size = λ p is. (for_text.of_environment p is).size;
    other_counted = λ p is. (for_text.of_environment p is).counted;
  }

  -- a size that the document allows was allowed to the search
  searched_of : (side : Side) (n : ℕ) → n ≤ allowed_at given x.kind (document_version settings.counts) settings.max side → n ≤ searched_sizes given settings.max side
  searched_of side n most = subst (λ count. n ≤ count) (sym (allowed_holds settings.counts given x.kind settings.max side of_kind)) most

  ended_lines : (c : Option Circuit) (logs : List SizeLog) → All IsHere logs → All (IsEndedLog given settings.entries) (lined c logs)
  ended_lines c logs here =
      all_parts_at (IsEndedLog given settings.entries) (λ l n h. h) (first_line c) logs (all_map IsHere (λ l. IsEndedLog given settings.entries (part_of l)) ended_part logs here)

  allowed_lines : (c : Option Circuit) (logs : List SizeLog) → All (λ l. FitsSize given settings.max l.side l.size) logs → All (IsAllowedLog given settings.max) (lined c logs)
  allowed_lines c logs fits =
      all_parts_at (IsAllowedLog given settings.max) (λ l n h. h) (first_line c) logs
      (all_map (λ l. FitsSize given settings.max l.side l.size) (λ l. IsAllowedLog given settings.max (part_of l)) (λ l h. (h.some, h.most)) logs fits)

  some_map : {A : Type 0} (o : Option A) (P Q : A → Type 0) → ((y : A) → P y → Q y) → IfSome o P → IfSome o Q
  some_map None P Q f h = tt
  some_map (Some y) P Q f h = f y h

  holds_for : (v : Verdict) (c : Option Circuit) (logs : List SizeLog) → Suits v c logs → check.HoldsFor given (doc v c logs)
  holds_for v c logs suits =
      held settings.counts k.laws.sizes given x.kind settings.max settings.entries of_kind v c (lined c logs) (doc v c logs) suits.has_place suits.names
      (some_map (named_of v) (λ q. FitsSize given settings.max q.side q.size) (λ q. q.size ≤ searched_sizes given settings.max q.side) (λ q h. h.most) suits.named)
      (places_at (first_line c) (map part_of logs) ∙ suits.places)
      (all_parts_at (ForLog given HasHeadOf) same_head (first_line c) logs (all_map IsHere (λ l. ForLog given HasHeadOf (part_of l)) head_part logs suits.here))
      (allowed_lines c logs suits.fits) (ended_lines c logs suits.here)
      (suits.told ∙ ap (verdict_of (machine_of v)) (sym (open_at (first_line c) (map part_of logs))))

  printed : (v : Verdict) (c : Option Circuit) (logs : List SizeLog) (bytes : List ℕ) → Suits v c logs → IfSome c IsWritable → All IsShort logs
      → StatesIfGood bytes (before_lines v c logs) → IsPrinted given settings bytes (doc v c logs)
  printed v c logs bytes suits writable short made = record {
    states = made (well_formed v c logs suits short) writable;
    holds = holds_for v c logs suits;
    no_bad_line = λ n bad. k.laws.bad_lines.holding_has_none given bytes (doc v c logs) n (made (well_formed v c logs suits short) writable) (holds_for v c logs suits) bad;
    version = refl;
    kind = sym for_text.of_system.kind_is;
    max = refl;
    entries = refl;
    taught = all_parts_at (ForLog given (λ p q. IsTaught (base_at p q.size) q.entries)) (λ l n h. h) (first_line c) logs
        (all_map IsHere (λ l. ForLog given (λ p q. IsTaught (base_at p q.size) q.entries) (part_of l)) taught_part logs suits.here);
    by = all_parts_at (λ q. All (λ e. e.by ≤ settings.workers) q.entries) (λ l n h. h) (first_line c) logs
        (all_map IsHere (λ l. All (λ e. e.by ≤ settings.workers) l.log.entries) by_part logs suits.here);
  }

  abbrev pub printed_text : (v : Verdict) (c : Option Circuit) (logs : List SizeLog) (bytes : List ℕ) → IsPrinted given settings bytes (doc v c logs)
      → PrintedFor (λ kind other. other ≡ ground) (Some x.kind) settings bytes
  printed_text v c logs bytes is_printed = record {
    ground = ground;
    is_ground = refl;
    later = k.given.later;
    problems = s;
    are_problems = k.given.are_problems;
    document = doc v c logs;
    by_its_kind = refl;
    is_printed = is_printed;
  }

  -- == sizes without a machine ==

  -- the log of a place, of which holds what holds of all
  pub has_log : (v : Verdict) (c : Option Circuit) (logs : List SizeLog) (side : Side) (n : ℕ) (P : LogPart → Type 0)
      → Contains (map log_place (map part_of logs)) (place side n) → All P (lined c logs) → HasLog (doc v c logs) side n P
  has_log v c logs side n P stands all =
      let there = log_at (lined c logs) (place side n) (subst (λ ps. Contains ps (place side n)) (sym (places_at (first_line c) (map part_of logs))) stands) in
      record { log = there.log; stands = there.stands; is_at = there.is_at; holds = All-contains P (lined c logs) there.log all there.stands }

  -- a closed log of a size refutes it
  pub closed_refutes : (l : LogPart) (side : Side) (n : ℕ) → log_place l ≡ place side n → IsClosedLog given settings.entries l → FitsSize given settings.max side n
      → OfSide s.system s.environment (λ p. HasNoAccepted (sized p n)) side
  closed_refutes l side n at closed fits =
      let Q : Place → Type 0 = λ q. OfSide s.system s.environment (λ p. IsClosed (variables_of (sized p q.size)) (base_at p q.size) settings.entries l.entries) q.side in
      let here : OfSide s.system s.environment (λ p. IsClosed (variables_of (sized p n)) (base_at p n) settings.entries l.entries) side = subst Q at closed in
      out_of s.system s.environment side (λ p. IsClosed (variables_of (sized p n)) (base_at p n) settings.entries l.entries)
      (OfSide s.system s.environment (λ p. HasNoAccepted (sized p n)) side)
      (λ p of h. of_side s.system s.environment side (λ q. HasNoAccepted (sized q n)) p of (refuted side p n l.entries of fits h)) here

  pub is_refuted : (v : Verdict) (c : Option Circuit) (logs : List SizeLog) (n : ℕ) → HasLog (doc v c logs) System n (IsClosedLog given settings.entries)
      → FitsSize given settings.max System n → IsRefuted the_text given (doc v c logs) n
  is_refuted v c logs n log fits = record {
    log = log;
    none = none_satisfies k.laws.sides the_text formula says s.system n (side_known System s.system refl) (closed_refutes log.log System n log.is_at log.holds fits);
  }

  pub can_be_beaten : (v : Verdict) (c : Option Circuit) (logs : List SizeLog) (n : ℕ) → HasLog (doc v c logs) Environment n (IsClosedLog given settings.entries)
      → FitsSize given settings.max Environment n → CanBeBeaten the_text given (doc v c logs) n
  can_be_beaten v c logs n log fits =
      let there = find s.system s.environment Environment (λ p. HasNoAccepted (sized p n)) (closed_refutes log.log Environment n log.is_at log.holds fits) in
      record {
        log = log;
        each = each_can_lose k.laws.sides the_text formula says there.problem n (side_known Environment there.problem there.of) there.holds;
      }

  -- == documents of machines ==

  plain_reads : (side : Side) → All IsOneWord (read_names (text_names x) side)
  plain_reads System = k.names.inputs_plain
  plain_reads Environment = k.names.outputs_plain

  plain_writes : (side : Side) → All IsOneWord (written_names (text_names x) side)
  plain_writes System = k.names.outputs_plain
  plain_writes Environment = k.names.inputs_plain

  can_be_written : (side : Side) (m : MachineModel) (c : Circuit) → IsCircuitFor x side m c → IsWritable c
  can_be_written side m c made =
      let size = made.variables in
      record {
        size = omega (arith, size);
        input_names = All-same (λ name. IfSome name IsLineName) c.input_names (map Some (read_names (text_names x) side)) made.inputs (line_names _ (plain_reads side));
        output_names = All-same (λ name. IfSome name IsLineName) c.output_names (map Some (written_names (text_names x) side)) made.outputs (line_names _ (plain_writes side));
      }

  all_are_named : (side : Side) (m : MachineModel) (c : Circuit) → IsCircuitFor x side m c → IsTrue (all_named c)
  all_are_named side m c made =
      let reads : list_all is_some c.input_names ≡ true = ap (list_all is_some) made.inputs ∙ all_some (read_names (text_names x) side) in
      let writes : list_all is_some c.output_names ≡ true = ap (list_all is_some) made.outputs ∙ all_some (written_names (text_names x) side) in
      rw (reads, writes) refl

  fits_claim : (side : Side) (n : ℕ) → n ≤ searched_sizes given settings.max side → (claim : Claim) → IsClaimTo side n claim → FitsSize given settings.max claim.side claim.size
  fits_claim side n most claim h =
      let less = h.most in
      let within : claim.size ≤ searched_sizes given settings.max side = omega (arith, less, most) in
      record { some = h.some; most = subst (λ other. claim.size ≤ searched_sizes given settings.max other) (sym h.of_side) within }

  size_of_found : (side : Side) (p : Problem) (m : MachineModel) → IsOf s.system s.environment side p → IsFound p settings m → size_of m ≤ searched_sizes given settings.max side
  size_of_found side p m of found = subst (λ most. size_of m ≤ most) (sym (sizes_at side p of)) found.allowed

  module _ (side : Side) (p : Problem) (of : IsOf s.system s.environment side p) (m : MachineModel) (logs : List SizeLog) (kept : IsFoundWith p settings m logs) where
    abbrev found : IsFound p settings m
    found = kept.found

    all_here : All IsHere logs
    all_here =
        all_map (IsSettled p settings) IsHere
        (λ l h. subst (OfSide s.system s.environment (λ q. IsSettled q settings l)) (sym (h.log.side ∙ (side_known side p of).of_side)) (of_side s.system s.environment side (λ q. IsSettled q settings l) p of h))
        logs kept.smaller.each

    claims : map engine.log_claim logs ≡ engine.sizes_to side (size_of m - 1)
    claims = subst (λ other. map engine.log_claim logs ≡ engine.sizes_to other (size_of m - 1)) (side_known side p of).of_side kept.smaller.places

    parts : map log_place (map part_of logs) ≡ sizes_to side (size_of m - 1)
    parts = parts_at side (size_of m - 1) logs claims

    fewer : size_of m - 1 ≤ searched_sizes given settings.max side
    fewer = let most = size_of_found side p m of found in omega (arith, most)

    all_fit : All (λ l. FitsSize given settings.max l.side l.size) logs
    all_fit =
        unmap engine.log_claim (λ claim. FitsSize given settings.max claim.side claim.size) logs
        (All-same (λ claim. FitsSize given settings.max claim.side claim.size) (map engine.log_claim logs) (engine.sizes_to side (size_of m - 1)) claims
        (all_map (IsClaimTo side (size_of m - 1)) (λ claim. FitsSize given settings.max claim.side claim.size) (fits_claim side (size_of m - 1) fewer)
        (engine.sizes_to side (size_of m - 1)) (claims_to side (size_of m - 1))))

    -- what is said of the machine
    abbrev said : Verdict
    said = verdict_of (Some (place side (size_of m))) (check.first_open (map part_of logs))

    at_fits : FitsSize given settings.max side (size_of m)
    at_fits = record { some = found.some; most = size_of_found side p m of found }

    order_is : order said ≡ UpTo side (size_of m - 1)
    order_is = ap (λ b. UpTo side (if b then size_of m - 1 else 0)) (all_have_logs settings.counts side)

    machine_suits : (c : Circuit) → IsCircuitFor x side m c → Suits said (Some c) logs
    machine_suits c made = record {
      has_place = refl;
      all_names = all_are_named side m c made;
      in_order = subst (λ o. AreInOrder o (first_place o) (map part_of logs)) (sym order_is) (in_order_side side (size_of m - 1) (map part_of logs) parts);
      names = record { inputs = made.inputs; outputs = made.outputs };
      named = at_fits;
      places = parts ∙ sizes_below given settings.max side (size_of m) at_fits.most ∙ ap wanted (sym order_is);
      here = all_here;
      fits = all_fit;
      told = refl;
    }

    machine_printed : (c : Circuit) (bytes : List ℕ) → IsCircuitFor x side m c → All IsShort logs → StatesIfGood bytes (before_lines said (Some c) logs)
        → IsPrinted given settings bytes (doc said (Some c) logs)
    machine_printed c bytes made short stated = printed said (Some c) logs bytes (machine_suits c made) (can_be_written side m c made) short stated

    part_does : (c : Circuit) → IsCircuitFor x side m c → DoesItsPart the_text side c
    part_does c made = does_its_part k.laws the_text formula says side p (size_of m) m c (side_known side p of) found.accepted made

    fits_below : (n : ℕ) → 0 < n → n < size_of m → FitsSize given settings.max side n
    fits_below n some less = let most = size_of_found side p m of found in record { some = some; most = omega (arith, most, less) }

    log_below : (v : Verdict) (c : Option Circuit) (P : LogPart → Type 0) → All P (lined c logs) → (n : ℕ) → 0 < n → n < size_of m → HasLog (doc v c logs) side n P
    log_below v c P all n some less =
        has_log v c logs side n P (subst (λ ps. Contains ps (place side n)) (sym parts) (has_place side (size_of m - 1) n some (omega (arith, less)))) all

    all_ended : (c : Option Circuit) → All (IsEndedLog given settings.entries) (lined c logs)
    all_ended c = ended_lines c logs all_here

    first_lined : (c : Option Circuit) (o : Option Place) → check.first_open (map part_of logs) ≡ o → check.first_open (lined c logs) ≡ o
    first_lined c o is = open_at (first_line c) (map part_of logs) ∙ is

    each_closed : check.first_open (map part_of logs) ≡ None → (c : Option Circuit) → All (IsClosedLog given settings.entries) (lined c logs)
    each_closed none c = all_closed given settings.entries (lined c logs) (first_lined c None none) (all_ended c)

    is_smallest : (v : Verdict) (c : Option Circuit) → check.first_open (map part_of logs) ≡ None → IsSmallestOf p m
    is_smallest v c closed = record {
      made = found.accepted.machine;
      looked_for = found.accepted.looked_for;
      accepted = found.accepted.accepted;
      none_smaller = λ n other some less made sought accepted.
          let log = log_below v c (IsClosedLog given settings.entries) (each_closed closed c) n (omega (arith, some)) less in
          let none = at_side s.system s.environment side (λ q. HasNoAccepted (sized q n)) p of
          (closed_refutes log.log side n log.is_at log.holds (fits_below n (omega (arith, some)) less)) in
          none.none (record { machine = other; made = made; looked_for = sought; accepted = accepted });
    }

    has_its_states : (v : Verdict) (c : Circuit) → check.first_open (map part_of logs) ≡ None → IsCircuitFor x side m c → HasStates c (size_of m)
    has_its_states v c closed made = (made.states.number (size_of m)).1 (k.laws.all_states p m (is_smallest v (Some c) closed))

  -- == the answers with a machine ==

  pub with_least : (side : Side) (p : Problem) (of : IsOf s.system s.environment side p) (m : MachineModel) (logs : List SizeLog) (kept : IsFoundWith p settings m logs) (c : Circuit) (bytes : List ℕ)
      → IsCircuitFor x side m c → check.first_open (map part_of logs) ≡ None → IsPrinted given settings bytes (doc (Machine side (size_of m) true) (Some c) logs)
      → IsToldOn ground settings bytes (status_number (least_status side)) (Some (Machine side (size_of m) true))
  with_least System p of m logs kept c bytes made none is_printed =
      let v = Machine System (size_of m) true in
      let closed = each_closed System p of m logs kept none (Some c) in
      record {
        answers = answer.realizable (printed_text v (Some c) logs bytes is_printed) (size_of m) c refl
            (record {
              verdict = refl;
              circuit = refl;
              satisfies = part_does System p of m logs kept c made;
              machine = some_satisfies k.laws the_text formula says p (size_of m) m (side_known System p of) kept.found.accepted;
              runs = made.every System;
              states = has_its_states System p of m logs kept v c none made;
              smaller = λ n some less. is_refuted v (Some c) logs n (log_below System p of m logs kept v (Some c) (IsClosedLog given settings.entries) closed n some less)
                  (fits_below System p of m logs kept n some less);
            });
        told = refl;
      }
  with_least Environment p of m logs kept c bytes made none is_printed =
      let v = Machine Environment (size_of m) true in
      let closed = each_closed Environment p of m logs kept none (Some c) in
      record {
        answers = answer.unrealizable (printed_text v (Some c) logs bytes is_printed) (size_of m) c refl
            (record {
              verdict = refl;
              circuit = refl;
              defeats = part_does Environment p of m logs kept c made;
              machine = some_defeats k.laws the_text formula says p (size_of m) m (side_known Environment p of) kept.found.accepted;
              runs = made.every Environment;
              states = has_its_states Environment p of m logs kept v c none made;
              smaller = λ n some less. can_be_beaten v (Some c) logs n (log_below Environment p of m logs kept v (Some c) (IsClosedLog given settings.entries) closed n some less)
                  (fits_below Environment p of m logs kept n some less);
            });
        told = refl {a = Some v};
      }

  pub with_bounded : (side : Side) (p : Problem) (of : IsOf s.system s.environment side p) (m : MachineModel) (logs : List SizeLog) (kept : IsFoundWith p settings m logs) (c : Circuit) (bytes : List ℕ)
      → IsCircuitFor x side m c → (q : Place) → check.first_open (map part_of logs) ≡ Some q → (CannotFill s.system s.environment settings → ⊥)
      → IsPrinted given settings bytes (doc (Machine side (size_of m) false) (Some c) logs) → IsToldOn ground settings bytes 11 (Some (Machine side (size_of m) false))
  with_bounded side p of m logs kept c bytes made q first can_fill is_printed =
      let v = Machine side (size_of m) false in
      let ended = all_ended side p of m logs kept (Some c) in
      let full = first_is given settings.entries (lined (Some c) logs) q (first_lined side p of m logs kept (Some c) (Some q) first) ended in
      record {
        answers = answer.bounded (printed_text v (Some c) logs bytes is_printed) side (size_of m) c refl
            (record {
              verdict = refl;
              circuit = refl;
              does = part_does side p of m logs kept c made;
              runs = made.every side;
              count = made.states.some.0;
              few = made.states.some.1;
              states = made.states.some.2;
              smaller = log_below side p of m logs kept v (Some c) (IsEndedLog given settings.entries) ended;
              full = any_full given settings.entries (lined (Some c) logs) q full;
              can_fill = can_fill;
            });
        told = refl;
      }

  -- what is told of a machine, by whether a log is open
  with_machine : (side : Side) (p : Problem) (of : IsOf s.system s.environment side p) (m : MachineModel) (logs : List SizeLog) (kept : IsFoundWith p settings m logs) (c : Circuit) (bytes : List ℕ)
      → IsCircuitFor x side m c → (o : Option Place) → check.first_open (map part_of logs) ≡ o → (CannotFill s.system s.environment settings → o ≡ None)
      → IsPrinted given settings bytes (doc (verdict_of (Some (place side (size_of m))) o) (Some c) logs)
      → IsToldOn ground settings bytes (status_number (verdict_status (verdict_of (Some (place side (size_of m))) o))) (Some (verdict_of (Some (place side (size_of m))) o))
  with_machine side p of m logs kept c bytes made None first fills is_printed = with_least side p of m logs kept c bytes made first is_printed
  with_machine side p of m logs kept c bytes made (Some q) first fills is_printed =
      with_bounded side p of m logs kept c bytes made q first (λ cannot. none-some q (sym (fills cannot))) is_printed

  -- == documents without a machine ==

  module _ (logs : List SizeLog) (all : AreAllSettled s.system s.environment settings logs) where
    parts_of_all : map log_place (map part_of logs) ≡ sizes_to System (searched_sizes given settings.max System) ++ sizes_to Environment (searched_sizes given settings.max Environment)
    parts_of_all = parts_at_both System Environment (searched_sizes given settings.max System) (searched_sizes given settings.max Environment) logs all.places

    claims_fit : (side : Side) → All (λ claim. FitsSize given settings.max claim.side claim.size) (engine.sizes_to side (searched_sizes given settings.max side))
    claims_fit side =
        all_map (IsClaimTo side (searched_sizes given settings.max side)) (λ claim. FitsSize given settings.max claim.side claim.size)
        (fits_claim side (searched_sizes given settings.max side) (omega arith)) (engine.sizes_to side (searched_sizes given settings.max side)) (claims_to side (searched_sizes given settings.max side))

    all_logs_fit : All (λ l. FitsSize given settings.max l.side l.size) logs
    all_logs_fit =
        unmap engine.log_claim (λ claim. FitsSize given settings.max claim.side claim.size) logs
        (All-same (λ claim. FitsSize given settings.max claim.side claim.size) (map engine.log_claim logs)
        (engine.sizes_to System (searched_sizes given settings.max System) ++ engine.sizes_to Environment (searched_sizes given settings.max Environment)) all.places
        (All-append (λ claim. FitsSize given settings.max claim.side claim.size) (engine.sizes_to System (searched_sizes given settings.max System))
        (engine.sizes_to Environment (searched_sizes given settings.max Environment)) (claims_fit System) (claims_fit Environment)))

    all_ended_lines : All (IsEndedLog given settings.entries) (lined None logs)
    all_ended_lines = ended_lines None logs all.each

    lined_first : (o : Option Place) → check.first_open (map part_of logs) ≡ o → check.first_open (lined None logs) ≡ o
    lined_first o is = open_at (first_line None) (map part_of logs) ∙ is

    -- the first log that isn't closed is of an allowed size
    open_fits : (o : Option Place) → check.first_open (map part_of logs) ≡ o → IfSome o (λ q. FitsSize given settings.max q.side q.size)
    open_fits None is = tt
    open_fits (Some q) is =
        at_first given settings.entries (λ q. FitsSize given settings.max q.side q.size) (lined None logs) q
        (first_is given settings.entries (lined None logs) q (lined_first (Some q) is) all_ended_lines)
        (all_map (IsAllowedLog given settings.max) (λ l. FitsSize given settings.max l.side l.size) (λ l h. record { some = h.0; most = h.1 }) (lined None logs) (allowed_lines None logs all_logs_fit))

    none_suits : Suits (Unknown (check.first_open (map part_of logs))) None logs
    none_suits = record {
      has_place = refl;
      all_names = tt;
      in_order = in_order_all settings.max (searched_sizes given settings.max System) (searched_sizes given settings.max Environment) (map part_of logs) parts_of_all (side_most System) (side_most Environment);
      names = tt;
      named = open_fits (check.first_open (map part_of logs)) refl;
      places = parts_of_all;
      here = all.each;
      fits = all_logs_fit;
      told = refl;
    }

    log_of : (v : Verdict) (side : Side) (P : LogPart → Type 0) → All P (lined None logs) → (n : ℕ) → 0 < n → n ≤ searched_sizes given settings.max side → HasLog (doc v None logs) side n P
    log_of v side P holds n some most =
        has_log v None logs side n P (subst (λ ps. Contains ps (place side n)) (sym parts_of_all) (on_its_side side n some most)) holds
      where
        on_its_side : (side : Side) (n : ℕ) → 0 < n → n ≤ searched_sizes given settings.max side
            → Contains (sizes_to System (searched_sizes given settings.max System) ++ sizes_to Environment (searched_sizes given settings.max Environment)) (place side n)
        on_its_side System n some most =
            Contains-append_left (sizes_to System (searched_sizes given settings.max System)) (sizes_to Environment (searched_sizes given settings.max Environment)) (place System n)
            (has_place System (searched_sizes given settings.max System) n some most)
        on_its_side Environment n some most =
            Contains-append_right (sizes_to System (searched_sizes given settings.max System)) (sizes_to Environment (searched_sizes given settings.max Environment)) (place Environment n)
            (has_place Environment (searched_sizes given settings.max Environment) n some most)

  pub no_size : (logs : List SizeLog) (all : AreAllSettled s.system s.environment settings logs) (bytes : List ℕ) → check.first_open (map part_of logs) ≡ None
      → IsPrinted given settings bytes (doc (Unknown None) None logs) → IsToldOn ground settings bytes 30 (Some (Unknown None))
  no_size logs all bytes none is_printed =
      let v = Unknown None in
      let closed = all_closed given settings.entries (lined None logs) (lined_first logs all None none) (all_ended_lines logs all) in
      record {
        answers = answer.no_size (printed_text v None logs bytes is_printed) refl
            (record {
              verdict = refl;
              system = λ n some most.
                  let few = searched_of System n most in
                  is_refuted v None logs n (log_of logs all v System (IsClosedLog given settings.entries) closed n some few) (record { some = some; most = few });
              environment = λ n some most.
                  let few = searched_of Environment n most in
                  can_be_beaten v None logs n (log_of logs all v Environment (IsClosedLog given settings.entries) closed n some few) (record { some = some; most = few });
            });
        told = refl;
      }

  pub no_entries : (logs : List SizeLog) (all : AreAllSettled s.system s.environment settings logs) (bytes : List ℕ) (q : Place) → check.first_open (map part_of logs) ≡ Some q
      → (CannotFill s.system s.environment settings → ⊥) → IsPrinted given settings bytes (doc (Unknown (Some q)) None logs) → IsToldOn ground settings bytes 30 (Some (Unknown (Some q)))
  no_entries logs all bytes q first can_fill is_printed =
      let v = Unknown (Some q) in
      let ended = all_ended_lines logs all in
      record {
        answers = answer.no_entries (printed_text v None logs bytes is_printed) q.side q.size refl
            (record {
              verdict = refl;
              named = first_is given settings.entries (lined None logs) q (lined_first logs all (Some q) first) ended;
              system = λ n some most. log_of logs all v System (IsEndedLog given settings.entries) ended n some (searched_of System n most);
              environment = λ n some most. log_of logs all v Environment (IsEndedLog given settings.entries) ended n some (searched_of Environment n most);
              can_fill = can_fill;
            });
        told = refl;
      }

  without_machine : (logs : List SizeLog) (all : AreAllSettled s.system s.environment settings logs) (bytes : List ℕ) (o : Option Place) → check.first_open (map part_of logs) ≡ o
      → (CannotFill s.system s.environment settings → o ≡ None) → IsPrinted given settings bytes (doc (Unknown o) None logs) → IsToldOn ground settings bytes 30 (Some (Unknown o))
  without_machine logs all bytes None first fills is_printed = no_size logs all bytes first is_printed
  without_machine logs all bytes (Some q) first fills is_printed = no_entries logs all bytes q first (λ cannot. none-some q (sym (fills cannot))) is_printed

  -- == the whole ==

  -- where no log can be full none is open
  none_when : (logs : List SizeLog) → (CannotFill s.system s.environment settings → All (λ l. is_ended l.log.entries ≡ true) logs)
      → CannotFill s.system s.environment settings → check.first_open (map part_of logs) ≡ None
  none_when logs decisive cannot = none_open (map part_of logs) (All-map (λ l. is_ended l.entries ≡ true) part_of logs (decisive cannot))

  by_found : (found : Option Found) (logs : List SizeLog) (c : Option Circuit) (bytes : List ℕ) → GoesWith s.system s.environment settings logs found → IsCircuitOfFound x found c
      → (CannotFill s.system s.environment settings → check.first_open (map part_of logs) ≡ None) → All IsShort logs
      → StatesIfGood bytes (before_lines (verdict_of (found_at found) (check.first_open (map part_of logs))) c logs)
      → IsToldOn ground settings bytes (status_number (verdict_status (verdict_of (found_at found) (check.first_open (map part_of logs))))) (Some (verdict_of (found_at found) (check.first_open (map part_of logs))))
  by_found None logs None bytes all same fills short stated =
      without_machine logs all bytes (check.first_open (map part_of logs)) refl fills
      (printed (Unknown (check.first_open (map part_of logs))) None logs bytes (none_suits logs all) tt short stated)
  by_found None logs (Some c) bytes all same fills short stated = absurd (none-some c (sym same))
  by_found (Some f) logs None bytes goes made fills short stated = absurd made
  by_found (Some f) logs (Some c) bytes goes made fills short stated =
      let there = find s.system s.environment f.side (λ p. IsFoundWith p settings f.machine logs) goes in
      with_machine f.side there.problem there.of f.machine logs there.holds c bytes made (check.first_open (map part_of logs)) refl fills
      (machine_printed f.side there.problem there.of f.machine logs there.holds c bytes made short stated)

  pub told : (bytes : List ℕ) (ended : Status) (said : Verdict) → IsSearchedReply x s settings bytes ended said → IsToldOn ground settings bytes (status_number ended) (Some said)
  told bytes ended said r =
      let o = r.outcome in
      let reply = r.reply in
      let stated : StatesIfGood bytes (before_lines (outcome_verdict o) reply.circuit o.logs.items) = subst (λ v. StatesIfGood bytes (before_lines v reply.circuit o.logs.items)) reply.said_is reply.stated in
      let here : IsToldOn ground settings bytes (status_number (verdict_status (outcome_verdict o))) (Some (outcome_verdict o))
      = by_found o.found o.logs.items reply.circuit bytes r.is_outcome.goes reply.of_found (none_when o.logs.items r.is_outcome.decisive) reply.short stated in
      subst (λ t. IsToldOn ground settings bytes (status_number t) (Some said)) (sym reply.ended_is)
      (subst (λ v. IsToldOn ground settings bytes (status_number (verdict_status v)) (Some v)) (sym reply.said_is) here)
