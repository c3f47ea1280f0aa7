-- A document holds for a text exactly where no line fails.
use Rattle.std.proofs.Common.{◌≡◌, ℕ, ◌+◌, ◌≤◌, ◌==◌, Bool, true, false, ◌&&◌, ◌||◌, cond, eqb, Option, Some, None, List, [], ◌∷◌, length, refl, sym, ap, subst, ◌∙◌, arith, inl, inr, ◌⊎◌, true≢false}
use Rattle.std.specs.Prelude.{map, MatchOption, IfSome, nat_le}
use Rattle.std.specs.Option.{option_or, option_map_or}
use Rattle.std.proofs.lemmas.Bool.{eqb-true, eq-eqb, le-leb, leb-true, and_parts, and_from}
use Rattle.letters_and_lassos.specs.declared.kinds.Kind.{Kind}
use Rattle.letters_and_lassos.specs.declared.kinds.Side.{Side}
use Rattle.letters_and_lassos.specs.declared.kinds.Side.TheVariants.{System, Environment}
use Rattle.machine_model.specs.declared.problems.Problem.{Problem}
use Rattle.annotation_encode.specs.BaseClauses.{base_clauses}
use Rattle.annotation_encode.specs.Count.{count_of}
use Rattle.annotation_encode.specs.Variables.{variables_of}
use Rattle.refutation_log.specs.declared.entries.Entry.{Entry}
use Rattle.refutation_log.specs.Log.{is_ended, IsLegal, IsFull, IsWithinLimit}
use Rattle.refutation_log.specs.Turn.{is_at_limit}
use Rattle.log_checker.proofs.FaultLemmas.{legal_has_none}
use Rattle.aiger_text.specs.Circuit.{Circuit}
use Rattle.document_text.specs.declared.documents.Verdict.{Verdict}
use Rattle.document_text.specs.declared.reading.CircuitPart.{CircuitPart}
use Rattle.document_text.specs.declared.reading.CircuitPart.TheVariants.{Absent, Faulty, Stated}
use Rattle.document_text.specs.Order.{order_of, log_place}
use Rattle.document_text.specs.Parts.{LogPart, Document}
use Rattle.letters_and_lassos.specs.contracts.kinds.SidePartialEq.TheImpl.{ghosts as side_ghosts}
use Rattle.document_text.specs.Reading.{DocumentLines, Reads, all_named, circuit_in}
use Rattle.document_text.specs.States.{States}
use Rattle.std_lemmas.proofs.Options.{some_none}
use Rattle.document_text.proofs.Whole.{all_good}
use Rattle.document_check.specs.declared.facts.Asked.{Asked}
use Rattle.document_text.specs.declared.order.Place.{Place}
use Rattle.document_check.specs.Facts.{Facts, names_in, problem_at, wanted_sizes, circuit_side}
use Rattle.document_check.specs.Holds.{AllHold, first_open, HasNames, HoldsAt, HoldsFor, is_allowed, IsAsWanted, IsLogOf, IsLogOfSome, may_be_full, names_open}
use Rattle.document_check.specs.FirstBad.{circuit_line, end_line, environment_sizes, Fails, FailsBehind, has_numbers, IsFirstBadFor, is_size_of, last_line, LogFails, other_numbers, bad_entry, left_open, is_good, LogsFail, all_there, one_missing, one_more, another, no_problem, one_fails, one_good, LogsFailIn, number_line, side_in, stated_line, suffices, system_sizes, wanted_in}
use Rattle.circuit_names.specs.Lines.{earliest}
use Rattle.circuit_names.proofs.Fitting.{earliest_none, names_pass, none_earliest, stated_names}
use Rattle.document_check.proofs.DocumentLemmas.{IsDocumentOf, document_is, asked_by, asked_of_document, not_faulty}

or_none : (a b : Option ℕ) → option_or a b ≡ None → (a ≡ None) × (b ≡ None)
or_none None b e = (refl, e)
or_none (Some n) b e = absurd (cc)

-- where nothing fails, no line is bad
pub no_bad_line : (facts : Facts) (bytes : List ℕ) (lines : DocumentLines) → Fails facts bytes lines None → lines.bad ≡ None
no_bad_line facts bytes lines fails =
    let whole = or_none (earliest (circuit_line facts bytes lines.header lines.circuit) (earliest lines.bad fails.behind)) (last_line lines) (sym fails.first_is) in
    let first = earliest_none (circuit_line facts bytes lines.header lines.circuit) (earliest lines.bad fails.behind) whole.0 in
    (earliest_none lines.bad fails.behind first.1).0

-- ---- a log

either : (a b : Bool) → (a || b) ≡ true → (a ≡ true) ⊎ ((a ≡ false) × (b ≡ true))
either true b e = inl refl
either false b e = inr (refl, e)

module _ (limit : Option ℕ) (l : LogPart) (p : Problem) where
  at_limit_is : (o : Option ℕ) (log : List Entry) → IsWithinLimit o log → is_at_limit o log ≡ true → o ≡ Some (length log)
  at_limit_is None log within e = absurd (cc)
  at_limit_is (Some most) log within e =
      let le : most ≤ length log = leb-true most (length log) e in
      let same : most ≡ length log = omega (arith, le, within) in
      ap Some same

  wanted_by : (full : Bool) → IsLegal (variables_of p) (base_clauses p) limit l.entries → (is_ended l.entries ≡ true) ⊎ ((is_ended l.entries ≡ false) × ((full && is_at_limit limit l.entries) ≡ true))
      → IsAsWanted full (variables_of p) (base_clauses p) limit l.entries
  wanted_by true legal (inl e) = inl (record { legal = legal; refutes = e })
  wanted_by true legal (inr f) = inr (record { legal = legal; at_limit = at_limit_is limit l.entries legal.limited f.1; not_closed = f.0 })
  wanted_by false legal (inl e) = record { legal = legal; refutes = e }
  wanted_by false legal (inr f) = absurd (true≢false (sym f.1))

  legal_of : (full : Bool) → IsAsWanted full (variables_of p) (base_clauses p) limit l.entries → IsLegal (variables_of p) (base_clauses p) limit l.entries
  legal_of true (inl closed) = closed.legal
  legal_of true (inr full) = full.legal
  legal_of false closed = closed.legal

  full_suffices : IsFull (variables_of p) (base_clauses p) limit l.entries → suffices true limit l.entries ≡ true
  full_suffices full =
      ap (λ b. b || is_at_limit limit l.entries) full.not_closed
      ∙ ap (λ (o : Option ℕ). is_at_limit o l.entries) full.at_limit ∙ le-leb (length l.entries) (length l.entries) (omega arith)

  suffices_by : (full : Bool) → IsAsWanted full (variables_of p) (base_clauses p) limit l.entries → suffices full limit l.entries ≡ true
  suffices_by true (inl closed) = ap (λ b. b || (true && is_at_limit limit l.entries)) closed.refutes
  suffices_by true (inr full) = full_suffices full
  suffices_by false closed = ap (λ b. b || (false && is_at_limit limit l.entries)) closed.refutes

  count_by : (o : Option ℕ) → option_map_or (λ n. l.base == n) o false ≡ true → o ≡ Some l.base
  count_by None e = absurd (cc)
  count_by (Some n) e = ap Some (sym (eqb-true l.base n e))

  its_numbers : has_numbers l p ≡ true → (l.vars ≡ variables_of p) × (count_of p ≡ Some l.base)
  its_numbers e =
      let k = and_parts (eqb l.vars (variables_of p)) (option_map_or (λ n. l.base == n) (count_of p) false) e in
      (eqb-true l.vars (variables_of p) k.0, count_by (count_of p) k.1)

  numbers_are : l.vars ≡ variables_of p → count_of p ≡ Some l.base → has_numbers l p ≡ true
  numbers_are v b =
      and_from (eqb l.vars (variables_of p)) (option_map_or (λ n. l.base == n) (count_of p) false) (eq-eqb l.vars (variables_of p) v)
      (ap (λ (o : Option ℕ). option_map_or (λ n. l.base == n) o false) b ∙ eq-eqb l.base l.base refl)

  log_holds : (full : Bool) (o : Option ℕ) → LogFails full limit l p o → o ≡ None → IsLogOf full limit l p
  log_holds full o (other_numbers e) none = absurd (cc)
  log_holds full o (bad_entry f n x) none = absurd (cc)
  log_holds full o (left_open n g s) none = absurd (cc)
  log_holds full o (is_good n g s) none =
      let k = its_numbers n in
      record { vars = k.0; base = k.1; wanted = wanted_by full g (either (is_ended l.entries) (full && is_at_limit limit l.entries) s) }

  log_passes : (full : Bool) (o : Option ℕ) → IsLogOf full limit l p → LogFails full limit l p o → o ≡ None
  log_passes full o is (other_numbers e) = absurd (true≢false (sym (numbers_are is.vars is.base) ∙ e))
  log_passes full o is (bad_entry f n x) = absurd (legal_has_none (variables_of p) (base_clauses p) limit l.entries f (legal_of full is.wanted) x)
  log_passes full o is (left_open n g s) = absurd (true≢false (sym (suffices_by full is.wanted) ∙ s))
  log_passes full o is (is_good n g s) = refl

-- ---- the logs

side_is : (a b : Side) → side_ghosts.eq a b ≡ true → a ≡ b
side_is System System e = refl
side_is System Environment e = absurd (cc)
side_is Environment System e = absurd (cc)
side_is Environment Environment e = refl

pub same_as_itself : (a : Side) → side_ghosts.eq a a ≡ true
same_as_itself System = refl
same_as_itself Environment = refl

size_is : (s : Place) (l : LogPart) → is_size_of s l ≡ true → log_place l ≡ s
size_is s l e =
    let k = and_parts (side_ghosts.eq s.side l.side) (eqb s.size l.size) e in
    λ i. record { side = sym (side_is s.side l.side k.0) i; size = sym (eqb-true s.size l.size k.1) i }

is_its_size : (s : Place) (l : LogPart) → log_place l ≡ s → is_size_of s l ≡ true
is_its_size s l e = subst (λ (s : Place). is_size_of s l ≡ true) e (and_from (side_ghosts.eq l.side l.side) (eqb l.size l.size) (same_as_itself l.side) (eq-eqb l.size l.size refl))

module _ (facts : Facts) (kind : Kind) (version : ℕ) (full : Bool) (limit : Option ℕ) (end : ℕ) where
  pub record AreGood (sizes : List Place) (logs : List LogPart) : Type 0 where
    pub sizes_are : map log_place logs ≡ sizes
    pub hold : AllHold facts kind version full limit logs

  holds_at : (l : LogPart) (p : Problem) → problem_at facts kind version l.side l.size ≡ Some p → IsLogOf full limit l p → HoldsAt facts kind version full limit l
  holds_at l p is holds = subst (λ (o : Option Problem). IsLogOfSome full limit l o) (sym is) holds

  pub logs_hold : (sizes : List Place) (logs : List LogPart) (o : Option ℕ) → LogsFail facts kind version full limit end sizes logs o → o ≡ None → AreGood sizes logs
  logs_hold [] [] o all_there none = record { sizes_are = refl; hold = tt }
  logs_hold (s ∷ ss) [] o (one_missing z zs) none = absurd (cc)
  logs_hold [] (l ∷ ls) o (one_more z zs) none = absurd (cc)
  logs_hold (s ∷ ss) (l ∷ ls) o (another z zs m ms e) none = absurd (cc)
  logs_hold (s ∷ ss) (l ∷ ls) o (no_problem z zs m ms e q) none = absurd (cc)
  logs_hold (s ∷ ss) (l ∷ ls) o (one_fails z zs m ms p k e q f) none = absurd (cc)
  logs_hold (s ∷ ss) (l ∷ ls) o (one_good z zs m ms p first e q f more) none =
      let rest = logs_hold ss ls o more none in
      record {
        sizes_are = λ i. size_is s l e i ∷ rest.sizes_are i;
        hold = (holds_at l p q (log_holds limit l p full None f refl), rest.hold);
      }

  its_problem : (l : LogPart) (p : Problem) → problem_at facts kind version l.side l.size ≡ Some p → HoldsAt facts kind version full limit l → IsLogOf full limit l p
  its_problem l p is holds = subst (λ (o : Option Problem). IsLogOfSome full limit l o) is holds

  head_is : (s : Place) (ss : List Place) (l : LogPart) (ls : List LogPart) → map log_place (l ∷ ls) ≡ s ∷ ss → (log_place l ≡ s) × (map log_place ls ≡ ss)
  head_is s ss l ls e = (ap first e, ap behind e)
    where
      first : List Place → Place
      first [] = s
      first (x ∷ xs) = x

      behind : List Place → List Place
      behind [] = ss
      behind (x ∷ xs) = xs

  pub logs_pass : (sizes : List Place) (logs : List LogPart) (o : Option ℕ) → map log_place logs ≡ sizes → AllHold facts kind version full limit logs
      → LogsFail facts kind version full limit end sizes logs o → o ≡ None
  logs_pass [] [] o same hold all_there = refl
  logs_pass (s ∷ ss) [] o same hold (one_missing z zs) = absurd (cc)
  logs_pass [] (l ∷ ls) o same hold (one_more z zs) = absurd (cc)
  logs_pass (s ∷ ss) (l ∷ ls) o same hold (another z zs m ms e) = absurd (true≢false (sym (is_its_size s l (head_is s ss l ls same).0) ∙ e))
  logs_pass (s ∷ ss) (l ∷ ls) o same hold (no_problem z zs m ms e q) = absurd (subst (λ (o : Option Problem). IsLogOfSome full limit l o) q hold.0)
  logs_pass (s ∷ ss) (l ∷ ls) o same hold (one_fails z zs m ms p k e q f) = log_passes limit l p full (Some k) (its_problem l p q hold.0) f
  logs_pass (s ∷ ss) (l ∷ ls) o same hold (one_good z zs m ms p first e q f more) = logs_pass ss ls o (head_is s ss l ls same).1 hold.1 more

-- ---- the document

number_by : (verdict : Verdict) (found system environment line : ℕ) (a b : Bool) → is_allowed verdict system environment ≡ a → nat_le found system ≡ b
    → cond a (cond b None (Some (line + 4))) (Some line) ≡ None → (a ≡ true) × (b ≡ true)
number_by verdict found system environment line true true e f none = (refl, refl)
number_by verdict found system environment line true false e f none = absurd (cc)
number_by verdict found system environment line false b e f none = absurd (cc)

last_by : (line : ℕ) (b : Bool) → cond b None (Some line) ≡ None → b ≡ true
last_by line true none = refl
last_by line false none = absurd (cc)

module _ (facts : Facts) (bytes : List ℕ) (lines : DocumentLines) (d : Document) (is : IsDocumentOf lines d) where
  abbrev a : Asked
  a = asked_by d

  side_in_is : side_in lines.header ≡ circuit_side d.verdict
  side_in_is = ap (λ (o : Option Verdict). option_map_or circuit_side o System) is.verdict

  last_is : last_line lines ≡ cond (names_open d.verdict (first_open d.logs)) None (Some lines.verdict_line)
  last_is =
      ap (λ (o : Option Verdict). option_map_or (λ verdict. cond (names_open verdict (first_open lines.logs)) None (Some lines.verdict_line)) o None) is.verdict
      ∙ ap (λ (logs : List LogPart). cond (names_open d.verdict (first_open logs)) None (Some lines.verdict_line)) is.logs

  logs_in_is : (o : Option ℕ) → LogsFailIn facts lines (asked_by d) o
      → LogsFail facts d.kind d.version (may_be_full d.verdict) d.entries (end_line lines)
      (wanted_sizes (order_of d.version d.verdict d.max d.found) (system_sizes facts (asked_by d)) (environment_sizes facts (asked_by d))) d.logs o
  logs_in_is o fails =
      let here : LogsFail facts d.kind d.version (may_be_full d.verdict) d.entries (end_line lines) (wanted_in facts (asked_by d) lines.header.found) lines.logs o =
      subst (λ (e : Option (Option ℕ)). MatchOption e (o ≡ None) (λ limit. LogsFail facts d.kind d.version (may_be_full d.verdict) limit (end_line lines) (wanted_in facts (asked_by d) lines.header.found) lines.logs o)) is.entries fails in
      subst (λ (logs : List LogPart). LogsFail facts d.kind d.version (may_be_full d.verdict) d.entries (end_line lines)
      (wanted_sizes (order_of d.version d.verdict d.max d.found) (system_sizes facts (asked_by d)) (environment_sizes facts (asked_by d))) logs o) is.logs
      (subst (λ (f : ℕ). LogsFail facts d.kind d.version (may_be_full d.verdict) d.entries (end_line lines)
      (wanted_sizes (order_of d.version d.verdict d.max f) (system_sizes facts (asked_by d)) (environment_sizes facts (asked_by d))) lines.logs o) is.found here)

  -- ---- where no line fails, it holds

  names_by : (part : CircuitPart) → circuit_in part ≡ d.circuit → circuit_line facts bytes lines.header part ≡ None → IfSome d.circuit (λ c. all_named c ≡ true)
      → IfSome d.circuit (HasNames facts (circuit_side d.verdict))
  names_by Absent same none all = subst (λ (o : Option Circuit). IfSome o (HasNames facts (circuit_side d.verdict))) same tt
  names_by Faulty same none all = subst (λ (o : Option Circuit). IfSome o (HasNames facts (circuit_side d.verdict))) same tt
  names_by (Stated file) same none all =
      let named : all_named file.circuit ≡ true = subst (λ (o : Option Circuit). IfSome o (λ c. all_named c ≡ true)) (sym same) all in
      let here : stated_line facts (circuit_side d.verdict) file ≡ None = ap (λ (s : Side). stated_line facts s file) (sym side_in_is) ∙ none in
      subst (λ (o : Option Circuit). IfSome o (HasNames facts (circuit_side d.verdict))) same (stated_names (names_in facts) (circuit_side d.verdict) file here named)

  pub holds : States bytes d → lines.bad ≡ None → Fails facts bytes lines None → HoldsFor facts d
  holds states good fails =
      let whole = or_none (earliest (circuit_line facts bytes lines.header lines.circuit) (earliest lines.bad fails.behind)) (last_line lines) (sym fails.first_is) in
      let first = earliest_none (circuit_line facts bytes lines.header lines.circuit) (earliest lines.bad fails.behind) whole.0 in
      let second = earliest_none lines.bad fails.behind first.1 in
      let behind : FailsBehind facts lines (asked_by d) fails.behind =
      subst (λ (o : Option Asked). MatchOption o (fails.behind ≡ None) (λ a. FailsBehind facts lines a fails.behind)) (asked_of_document lines d is) fails.fails in
      let parts = earliest_none (number_line d.verdict lines.header.found (system_sizes facts (asked_by d)) (environment_sizes facts (asked_by d)) lines.verdict_line) behind.logs (sym behind.first_is ∙ second.1) in
      let number = number_by d.verdict lines.header.found (system_sizes facts (asked_by d)) (environment_sizes facts (asked_by d)) lines.verdict_line
      (is_allowed d.verdict (system_sizes facts (asked_by d)) (environment_sizes facts (asked_by d))) (nat_le lines.header.found (system_sizes facts (asked_by d))) refl refl parts.0 in
      let logs = logs_hold facts d.kind d.version (may_be_full d.verdict) d.entries (end_line lines)
      (wanted_sizes (order_of d.version d.verdict d.max d.found) (system_sizes facts (asked_by d)) (environment_sizes facts (asked_by d))) d.logs behind.logs (logs_in_is behind.logs behind.logs_fail) parts.1 in
      record {
        names = names_by lines.circuit is.circuit first.0 states.well_formed.named;
        number = number.0;
        found = subst (λ (f : ℕ). f ≤ system_sizes facts (asked_by d)) is.found (leb-true lines.header.found (system_sizes facts (asked_by d)) number.1);
        sizes = logs.sizes_are;
        logs = logs.hold;
        named = last_by lines.verdict_line (names_open d.verdict (first_open d.logs)) (sym last_is ∙ whole.1);
      }

  -- ---- where it holds, no line fails

  pass_by : (part : CircuitPart) → circuit_in part ≡ d.circuit → (part ≡ Faulty → ⊥) → IfSome d.circuit (HasNames facts (circuit_side d.verdict)) → circuit_line facts bytes lines.header part ≡ None
  pass_by Absent same sound has = refl
  pass_by Faulty same sound has = absurd (sound refl)
  pass_by (Stated file) same sound has =
      let here : HasNames facts (circuit_side d.verdict) file.circuit = subst (λ (o : Option Circuit). IfSome o (HasNames facts (circuit_side d.verdict))) (sym same) has in
      ap (λ (s : Side). stated_line facts s file) side_in_is ∙ names_pass (names_in facts) (circuit_side d.verdict) file here

  pub passes : Reads bytes lines → lines.bad ≡ None → HoldsFor facts d → (o : Option ℕ) → Fails facts bytes lines o → o ≡ None
  passes reads good holds o fails =
      let behind : FailsBehind facts lines (asked_by d) fails.behind =
      subst (λ (o : Option Asked). MatchOption o (fails.behind ≡ None) (λ a. FailsBehind facts lines a fails.behind)) (asked_of_document lines d is) fails.fails in
      let logs : behind.logs ≡ None = logs_pass facts d.kind d.version (may_be_full d.verdict) d.entries (end_line lines)
      (wanted_sizes (order_of d.version d.verdict d.max d.found) (system_sizes facts (asked_by d)) (environment_sizes facts (asked_by d))) d.logs behind.logs holds.sizes holds.logs (logs_in_is behind.logs behind.logs_fail) in
      let found : nat_le lines.header.found (system_sizes facts (asked_by d)) ≡ true =
      ap (λ (f : ℕ). nat_le f (system_sizes facts (asked_by d))) is.found ∙ le-leb d.found (system_sizes facts (asked_by d)) holds.found in
      let number : number_line d.verdict lines.header.found (system_sizes facts (asked_by d)) (environment_sizes facts (asked_by d)) lines.verdict_line ≡ None =
      ap (λ b. cond b (cond (nat_le lines.header.found (system_sizes facts (asked_by d))) None (Some (lines.verdict_line + 4))) (Some lines.verdict_line)) holds.number
      ∙ ap (λ b. cond b None (Some (lines.verdict_line + 4))) found in
      let last : last_line lines ≡ None = last_is ∙ ap (λ b. cond b None (Some lines.verdict_line)) holds.named in
      let there : fails.behind ≡ None = behind.first_is
      ∙ none_earliest (number_line d.verdict lines.header.found (system_sizes facts (asked_by d)) (environment_sizes facts (asked_by d)) lines.verdict_line) behind.logs number logs in
      let first : earliest (circuit_line facts bytes lines.header lines.circuit) (earliest lines.bad fails.behind) ≡ None =
      none_earliest (circuit_line facts bytes lines.header lines.circuit) (earliest lines.bad fails.behind) (pass_by lines.circuit is.circuit (not_faulty bytes lines reads good) holds.names)
      (none_earliest lines.bad fails.behind good there) in
      fails.first_is ∙ ap (λ (x : Option ℕ). option_or x (last_line lines)) first ∙ last

pub holding_has_none : (facts : Facts) (bytes : List ℕ) (d : Document) (n : ℕ) → States bytes d → HoldsFor facts d → IsFirstBadFor facts bytes n → ⊥
holding_has_none facts bytes d n states holding bad =
    let k = all_good bytes bad.lines d bad.reads states in
    some_none (Some n) n refl (passes facts bytes bad.lines d (document_is bad.lines d k.1) bad.reads k.0 holding (Some n) bad.fails)
