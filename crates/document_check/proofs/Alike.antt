-- What is found out of a document depends on names, and on the sides' automata and signals alone.
use Rattle.std.proofs.Common.{◌≡◌, ◌≤◌, ℕ, zero, suc, Bool, cond, Option, Some, None, List, [], ◌∷◌, refl, sym, ap, subst, ◌∙◌}
use Rattle.std.specs.Prelude.{IfSome, IsTrue, MatchOption, is_some, option_map}
use Rattle.std.specs.Option.{option_map_or, option_or}
use Rattle.propositional_logic.specs.Literal.{Literal}
use Rattle.letters_and_lassos.specs.declared.kinds.Kind.{Kind}
use Rattle.letters_and_lassos.specs.declared.kinds.Side.{Side}
use Rattle.letters_and_lassos.specs.declared.kinds.Side.TheVariants.{System, Environment}
use Rattle.letters_and_lassos.specs.Kinds.{other_kind}
use Rattle.machine_model.specs.Problem.{automaton_of}
use Rattle.machine_model.specs.declared.problems.Problem.{Problem}
use Rattle.annotation_encode.specs.BaseClauses.{base_clauses}
use Rattle.annotation_encode.specs.Count.{allowed_sizes, count_of}
use Rattle.annotation_encode.specs.Variables.{variables_of}
use Rattle.refutation_log.specs.Log.{IsLegal}
use Rattle.log_checker.specs.Faults.{IsLogFault}
use Rattle.aiger_text.specs.Circuit.{Circuit}
use Rattle.document_text.specs.declared.header.Header.{Header}
use Rattle.document_text.specs.declared.reading.CircuitPart.{CircuitPart}
use Rattle.document_text.specs.declared.reading.CircuitPart.TheVariants.{Absent, Faulty, Stated}
use Rattle.document_text.specs.Parts.{Document, LogPart}
use Rattle.document_text.specs.Reading.{DocumentLines}
use Rattle.std_lemmas.proofs.Options.{some_same}
use Rattle.circuit_names.specs.Lines.{earliest}
use Rattle.document_check.specs.declared.facts.Asked.{Asked}
use Rattle.document_text.specs.declared.order.Place.{Place}
use Rattle.document_text.specs.Order.{order_of}
use Rattle.document_check.specs.Alike.{AreAlike, AreSameShapes, Shape, shape_of}
use Rattle.document_check.specs.Facts.{Facts, allowed_at, circuit_side, counting_for, problem_at, wanted_sizes}
use Rattle.document_check.specs.FirstBad.{Fails, FailsBehind, FailsIn, IsFirstBadFor, LogFails, LogsFail, LogsFailIn, all_there, another, asked_in, bad_entry, circuit_line, end_line, has_numbers, is_good, last_line, left_open, no_problem, number_line, one_fails, one_good, one_missing, one_more, other_numbers, wanted_in}
use Rattle.document_check.specs.Holds.{AllHold, HasNames, HoldsFor, IsLogOf, IsLogOfSome, is_allowed, may_be_full}
use Rattle.document_check.specs.Laws.{AlikeTextsCheckAlike}

-- == a problem ==

-- there is a problem, over which a log fails at this line
record FailsOver (full : Bool) (limit : Option ℕ) (l : LogPart) (o : Option Problem) (first : Option ℕ) : Type 0 where
  problem : Problem
  is : o ≡ Some problem
  fails : LogFails full limit l problem first

module _ (kind : Kind) (version : ℕ) where
  -- the problem of one size, for a document of this kind and version
  abbrev asked_at : ℕ → Problem → Problem
  asked_at size p = record p { kind = kind; size = size; counting = counting_for version (automaton_of p) }

  -- the same with another shape, kept where this problem is
  abbrev shaped : ℕ → Problem → Shape → Problem
  shaped size p shape = record {
    automaton = record { ptr = p.automaton.ptr; value = shape.automaton };
    inputs = shape.inputs;
    outputs = shape.outputs;
    side = shape.side;
    kind = kind;
    size = size;
    counting = counting_for version shape.automaton;
  }

  -- == sizes ==

  same_count : (p q : Problem) (n : ℕ) → shape_of p ≡ shape_of q → count_of (asked_at n p) ≡ count_of (asked_at n q)
  same_count p q n same = ap (λ (x : Shape). count_of (shaped n p x)) same

  same_allowed : (p q : Problem) (max : ℕ) → shape_of p ≡ shape_of q → allowed_sizes (asked_at 1 p) max ≡ allowed_sizes (asked_at 1 q) max
  unfolding allowed_sizes
  same_allowed p q zero same = refl
  same_allowed p q (suc n) same =
      ap (λ (o : Option ℕ). cond (is_some o) (suc n) (allowed_sizes (asked_at 1 p) n)) (same_count p q (suc n) same)
      ∙ ap (λ (m : ℕ). cond (is_some (count_of (asked_at (suc n) q))) (suc n) m) (same_allowed p q n same)

  same_allowed_if_any : (e f : Option Problem) (max : ℕ) → AreSameShapes e f
      → option_map_or (λ (p : Problem). allowed_sizes p max) (option_map (asked_at 1) e) 0 ≡ option_map_or (λ (p : Problem). allowed_sizes p max) (option_map (asked_at 1) f) 0
  same_allowed_if_any None None max same = refl
  same_allowed_if_any (Some p) (Some q) max same = same_allowed p q max same
  same_allowed_if_any None (Some q) max same = absurd same
  same_allowed_if_any (Some p) None max same = absurd same

  -- == a log ==

  none_if_any : (e f : Option Problem) (n : ℕ) → AreSameShapes e f → option_map (asked_at n) e ≡ None → option_map (asked_at n) f ≡ None
  none_if_any None None n same none = refl
  none_if_any (Some p) (Some q) n same none = absurd (cc)
  none_if_any None (Some q) n same none = absurd same
  none_if_any (Some p) None n same none = absurd same

  module _ (full : Bool) (limit : Option ℕ) (l : LogPart) (n : ℕ) where
    same_log : (p q : Problem) → shape_of p ≡ shape_of q → IsLogOf full limit l (asked_at n p) → IsLogOf full limit l (asked_at n q)
    same_log p q same is =
        let there : IsLogOf full limit l (shaped n p (shape_of q)) = subst (λ (x : Shape). IsLogOf full limit l (shaped n p x)) same (record { vars = is.vars; base = is.base; wanted = is.wanted }) in
        record { vars = there.vars; base = there.base; wanted = there.wanted }

    same_log_if_any : (e f : Option Problem) → AreSameShapes e f → IsLogOfSome full limit l (option_map (asked_at n) e)
        → IsLogOfSome full limit l (option_map (asked_at n) f)
    same_log_if_any None None same is = is
    same_log_if_any (Some p) (Some q) same is = same_log p q same is
    same_log_if_any None (Some q) same is = absurd same
    same_log_if_any (Some p) None same is = absurd same

    module _ (p q : Problem) (same : shape_of p ≡ shape_of q) where
      numbers_same : has_numbers l (asked_at n p) ≡ has_numbers l (asked_at n q)
      numbers_same = ap (λ (x : Shape). has_numbers l (shaped n p x)) same

      clauses_same : base_clauses (asked_at n p) ≡ base_clauses (asked_at n q)
      clauses_same = ap (λ (x : Shape). base_clauses (shaped n p x)) same

      variables_same : variables_of (asked_at n p) ≡ variables_of (asked_at n q)
      variables_same = ap (λ (x : Shape). variables_of (shaped n p x)) same

      legal_over : IsLegal (variables_of (asked_at n p)) (base_clauses (asked_at n p)) limit l.entries
          → IsLegal (variables_of (asked_at n q)) (base_clauses (asked_at n q)) limit l.entries
      legal_over legal =
          subst (λ (v : ℕ). IsLegal v (base_clauses (asked_at n q)) limit l.entries) variables_same
          (subst (λ (b : List (List Literal)). IsLegal (variables_of (asked_at n p)) b limit l.entries) clauses_same legal)

      fails_as : (o : Option ℕ) → LogFails full limit l (asked_at n p) o → LogFails full limit l (asked_at n q) o
      fails_as _ (other_numbers e) = other_numbers (sym numbers_same ∙ e)
      fails_as _ (bad_entry f e x) = bad_entry f (sym numbers_same ∙ e) (subst (λ (b : List (List Literal)). IsLogFault b limit l.entries f) clauses_same x)
      fails_as _ (left_open e legal s) = left_open (sym numbers_same ∙ e) (legal_over legal) s
      fails_as _ (is_good e legal s) = is_good (sym numbers_same ∙ e) (legal_over legal) s

    fails_if_any : (e f : Option Problem) (p : Problem) (o : Option ℕ) → AreSameShapes e f → option_map (asked_at n) e ≡ Some p → LogFails full limit l p o
        → FailsOver full limit l (option_map (asked_at n) f) o
    fails_if_any (Some a) (Some b) p o same is fails = record {
      problem = asked_at n b;
      is = refl;
      fails = fails_as a b same o (subst (λ (x : Problem). LogFails full limit l x o) (some_same (option_map (asked_at n) (Some a)) p (asked_at n a) is refl) fails);
    }
    fails_if_any None f p o same is fails = absurd (cc)
    fails_if_any (Some a) None p o same is fails = absurd same

-- == texts ==

module _ (inputs outputs : List (List ℕ)) (s t : Problem) (e f : Option Problem) (of_system : shape_of s ≡ shape_of t) (of_environment : AreSameShapes e f) where
  abbrev one : Facts
  one = record { inputs = inputs; outputs = outputs; system = s; environment = e }

  abbrev other : Facts
  other = record { inputs = inputs; outputs = outputs; system = t; environment = f }

  names_same : (side : Side) (o : Option Circuit) → IfSome o (HasNames one side) → IfSome o (HasNames other side)
  names_same side None are = are
  names_same side (Some c) are = record { inputs = are.inputs; outputs = are.outputs }

  circuit_same : (bytes : List ℕ) (header : Header) (part : CircuitPart) → circuit_line one bytes header part ≡ circuit_line other bytes header part
  circuit_same bytes header Absent = refl
  circuit_same bytes header Faulty = refl
  circuit_same bytes header (Stated file) = refl

  module _ (kind : Kind) (version : ℕ) where
    allowed_same : (max : ℕ) (side : Side) → allowed_at one kind version max side ≡ allowed_at other kind version max side
    allowed_same max System = same_allowed_if_any kind version (Some s) (Some t) max of_system
    allowed_same max Environment = same_allowed_if_any (other_kind kind) version e f max of_environment

    module _ (full : Bool) (limit : Option ℕ) where
      -- == a document that holds ==

      holds_at : (l : LogPart) (side : Side) → IsLogOfSome full limit l (problem_at one kind version side l.size) → IsLogOfSome full limit l (problem_at other kind version side l.size)
      holds_at l System is = same_log_if_any kind version full limit l l.size (Some s) (Some t) of_system is
      holds_at l Environment is = same_log_if_any (other_kind kind) version full limit l l.size e f of_environment is

      all_hold : (logs : List LogPart) → AllHold one kind version full limit logs → AllHold other kind version full limit logs
      all_hold [] are = are
      all_hold (l ∷ logs) are = (holds_at l l.side are.0, all_hold logs are.1)

      -- == the first line at which logs fail ==

      none_at : (l : LogPart) (side : Side) → problem_at one kind version side l.size ≡ None → problem_at other kind version side l.size ≡ None
      none_at l System none = none_if_any kind version (Some s) (Some t) l.size of_system none
      none_at l Environment none = none_if_any (other_kind kind) version e f l.size of_environment none

      fails_at : (l : LogPart) (side : Side) (p : Problem) (o : Option ℕ) → problem_at one kind version side l.size ≡ Some p → LogFails full limit l p o
          → FailsOver full limit l (problem_at other kind version side l.size) o
      fails_at l System p o is fails = fails_if_any kind version full limit l l.size (Some s) (Some t) p o of_system is fails
      fails_at l Environment p o is fails = fails_if_any (other_kind kind) version full limit l l.size e f p o of_environment is fails

      logs_same : (end : ℕ) (sizes : List Place) (logs : List LogPart) (first : Option ℕ) → LogsFail one kind version full limit end sizes logs first
          → LogsFail other kind version full limit end sizes logs first
      logs_same end _ _ _ all_there = all_there
      logs_same end _ _ _ (one_missing size sizes) = one_missing size sizes
      logs_same end _ _ _ (one_more l logs) = one_more l logs
      logs_same end _ _ _ (another size sizes l logs differs) = another size sizes l logs differs
      logs_same end _ _ _ (no_problem size sizes l logs is none) = no_problem size sizes l logs is (none_at l l.side none)
      logs_same end _ _ _ (one_fails size sizes l logs p n is some fails) =
          let there = fails_at l l.side p (Some n) some fails in one_fails size sizes l logs there.problem n is there.is there.fails
      logs_same end _ _ _ (one_good size sizes l logs p first is some good more) =
          let there = fails_at l l.side p None some good in
          one_good size sizes l logs there.problem first is there.is there.fails (logs_same end sizes logs first more)

  holds_same : (d : Document) → HoldsFor one d → HoldsFor other d
  holds_same d is =
      let of_side : (side : Side) → allowed_at one d.kind d.version d.max side ≡ allowed_at other d.kind d.version d.max side = allowed_same d.kind d.version d.max in
      record {
        names = names_same (circuit_side d.verdict) d.circuit is.names;
        number = subst IsTrue (λ i. is_allowed d.verdict (of_side System i) (of_side Environment i)) is.number;
        found = subst (λ n. d.found ≤ n) (of_side System) is.found;
        sizes = is.sizes ∙ (λ i. wanted_sizes (order_of d.version d.verdict d.max d.found) (of_side System i) (of_side Environment i));
        logs = all_hold d.kind d.version (may_be_full d.verdict) d.entries d.logs is.logs;
        named = is.named;
      }

  module _ (lines : DocumentLines) where
    logs_in : (a : Asked) (first : Option ℕ) → LogsFailIn one lines a first → LogsFailIn other lines a first
    logs_in a first = by lines.header.entries
      where
        wanted : wanted_in one a lines.header.found ≡ wanted_in other a lines.header.found
        wanted = λ i. wanted_sizes (order_of a.version a.verdict a.max lines.header.found) (allowed_same a.kind a.version a.max System i) (allowed_same a.kind a.version a.max Environment i)

        by : (o : Option (Option ℕ))
            → MatchOption o (first ≡ None) (λ limit. LogsFail one a.kind a.version (may_be_full a.verdict) limit (end_line lines) (wanted_in one a lines.header.found) lines.logs first)
            → MatchOption o (first ≡ None) (λ limit. LogsFail other a.kind a.version (may_be_full a.verdict) limit (end_line lines) (wanted_in other a lines.header.found) lines.logs first)
        by None none = none
        by (Some limit) fails =
            subst (λ sizes. LogsFail other a.kind a.version (may_be_full a.verdict) limit (end_line lines) sizes lines.logs first) wanted
            (logs_same a.kind a.version (may_be_full a.verdict) limit (end_line lines) (wanted_in one a lines.header.found) lines.logs first fails)

    pub behind_same : (a : Asked) (first : Option ℕ) → FailsBehind one lines a first → FailsBehind other lines a first
    behind_same a first fails = record {
      logs = fails.logs;
      logs_fail = logs_in a fails.logs fails.logs_fail;
      first_is = fails.first_is ∙ (λ i. earliest (number_line a.verdict lines.header.found (allowed_same a.kind a.version a.max System i) (allowed_same a.kind a.version a.max Environment i) lines.verdict_line) fails.logs);
    }

    fails_in : (first : Option ℕ) → FailsIn one lines first → FailsIn other lines first
    fails_in first = by (asked_in lines.header)
      where
        by : (o : Option Asked) → MatchOption o (first ≡ None) (λ a. FailsBehind one lines a first) → MatchOption o (first ≡ None) (λ a. FailsBehind other lines a first)
        by None none = none
        by (Some a) fails = behind_same a first fails

  fails_same : (bytes : List ℕ) (lines : DocumentLines) (first : Option ℕ) → Fails one bytes lines first → Fails other bytes lines first
  fails_same bytes lines first is = record {
    behind = is.behind;
    fails = fails_in lines is.behind is.fails;
    first_is = is.first_is ∙ ap (λ (o : Option ℕ). option_or (earliest o (earliest lines.bad is.behind)) (last_line lines)) (circuit_same bytes lines.header lines.circuit);
  }

  first_bad_same : (bytes : List ℕ) (n : ℕ) → IsFirstBadFor one bytes n → IsFirstBadFor other bytes n
  first_bad_same bytes n first = record { lines = first.lines; reads = first.reads; fails = fails_same bytes first.lines (Some n) first.fails }

-- == with the other's names ==

module _ (facts other : Facts) (alike : AreAlike facts other) where
  abbrev renamed : Facts
  renamed = record facts { inputs = other.inputs; outputs = other.outputs }

  renamed_is : facts ≡ renamed
  renamed_is = λ i. record { inputs = alike.inputs i; outputs = alike.outputs i; system = facts.system; environment = facts.environment }

  holds_alike : (d : Document) → HoldsFor facts d → HoldsFor other d
  holds_alike d holds =
      holds_same other.inputs other.outputs facts.system other.system facts.environment other.environment alike.system alike.environment d
      (subst (λ (x : Facts). HoldsFor x d) renamed_is holds)

  pub fails_alike : (bytes : List ℕ) (lines : DocumentLines) (first : Option ℕ) → Fails facts bytes lines first → Fails other bytes lines first
  fails_alike bytes lines first is =
      fails_same other.inputs other.outputs facts.system other.system facts.environment other.environment alike.system alike.environment bytes lines first
      (subst (λ (x : Facts). Fails x bytes lines first) renamed_is is)

  first_bad_alike : (bytes : List ℕ) (n : ℕ) → IsFirstBadFor facts bytes n → IsFirstBadFor other bytes n
  first_bad_alike bytes n first =
      first_bad_same other.inputs other.outputs facts.system other.system facts.environment other.environment alike.system alike.environment bytes n
      (subst (λ (x : Facts). IsFirstBadFor x bytes n) renamed_is first)

pub checks_alike : AlikeTextsCheckAlike
checks_alike = record {
  holds = λ facts other d alike holds. holds_alike facts other alike d holds;
  first_bad = λ facts other bytes n alike first. first_bad_alike facts other alike bytes n first;
}
