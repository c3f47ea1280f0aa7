-- The first fault of a log, and legal logs.
use Rattle.std.proofs.Common.{◌≡◌, ◌≢◌, ℕ, zero, suc, ◌<◌, ◌≤◌, Bool, true, false, nat_le, ◌||◌, List, [], ◌∷◌, ◌++◌, inl, inr, Option, Some, None, map, length, take, get_or, slice_get, refl, sym, subst, ap, ◌∙◌, true≢false, arith}
use Rattle.std.specs.Prelude.{if◌then◌else◌}
use Rattle.std.specs.List.{list_any}
use Rattle.std.specs.Option.{option_and_then, option_map_or}
use borrow.Author.Tests.{leb-true}
use Rattle.std.proofs.lemmas.List.Quantifiers.{position-Some}
use Rattle.std.proofs.lemmas.List.{length-map, length-take-le, get_or-take, get_or_default}
use Rattle.std.proofs.lemmas.List.Folds.{list_any_none, list_any-from_Any}
use Rattle.std.proofs.lemmas.Option.{slice_get_cases}
use Rattle.std.proofs.Math.Seq.{take-suc, take-length}
use Rattle.std.proofs.lemmas.Bool.{cases_lt, false_from_ne_true}
use Rattle.propositional_logic.specs.Literal.{Literal, negated}
use Rattle.propositional_logic.specs.Clause.{IsWithinVariables, clause_eq}
use Rattle.propositional_logic.specs.Partial.{is_falsified}
use Rattle.propositional_logic.specs.Equality.{Decides-clause_eq}
use Rattle.refutation_log.specs.declared.entries.Entry.{Entry}
use Rattle.refutation_log.specs.Entry.{clauses_of}
use Rattle.refutation_log.specs.Follows.{Follows, leads_to_conflict, clause_named, unit_named}
use Rattle.refutation_log.specs.Log.{is_empty_clause, is_ended, IsWithinLimit, IsLegal}
use Rattle.refutation_log.specs.Turn.{clause_place, is_at_limit}
use Rattle.refutation_log.proofs.LegalLemmas.{legal_empty, legal_push, get_or-clauses}
use Rattle.log_checker.specs.declared.faults.LogFault.{LogFault}
use Rattle.log_checker.specs.declared.faults.LogFault.TheVariants.{BadHint, NotFalsified, Repeated, NotClosed, AfterEnd, OverLimit, NoMemory}
use Rattle.log_checker.specs.Faults.{has_end, has_clause, last_hint_fault, hints_fault, follow_fault, entry_fault, answer_at, FindsNone, IsLogFault}
use Rattle.log_checker.specs.Causes.{IsOpenFault, IsClosedFault}
use Rattle.log_checker.specs.Hinted.{AreWithin}

-- ---- a first fault

-- no test answers NotClosed or NoMemory
record IsOfEntry (fault : LogFault) : Type 0 where
  closed : fault ≢ NotClosed
  memory : fault ≢ NoMemory

abbrev AllOfEntries : Option LogFault → Type 0
AllOfEntries None = Unit {0}
AllOfEntries (Some f) = IsOfEntry f

hints_of_entry : (at : ℕ) (clauses : List (List Literal)) (trues : List Literal) (hints : List ℕ) → AllOfEntries (hints_fault at clauses trues hints)
hints_of_entry at clauses trues [] = record { closed = λ e. absurd (cc); memory = λ e. absurd (cc) }
hints_of_entry at clauses trues (n ∷ []) = by (clause_named clauses n)
  where
    test : (b : Bool) → AllOfEntries (if b then None else Some (NotFalsified at))
    test true = tt
    test false = record { closed = λ e. absurd (cc); memory = λ e. absurd (cc) }

    by : (o : Option (List Literal)) → AllOfEntries (last_hint_fault at trues o)
    by None = record { closed = λ e. absurd (cc); memory = λ e. absurd (cc) }
    by (Some c) = test (is_falsified trues c)
hints_of_entry at clauses trues (n ∷ m ∷ hints) = by (λ l. hints_of_entry at clauses (l ∷ trues) (m ∷ hints)) (unit_named clauses trues n)
  where
    by : ((l : Literal) → AllOfEntries (hints_fault at clauses (l ∷ trues) (m ∷ hints))) → (o : Option Literal)
        → AllOfEntries (option_map_or (λ l. hints_fault at clauses (l ∷ trues) (m ∷ hints)) o (Some (BadHint at)))
    by rest None = record { closed = λ e. absurd (cc); memory = λ e. absurd (cc) }
    by rest (Some l) = rest l

of_entry : (base : List (List Literal)) (limit : Option ℕ) (before : List Entry) (e : Entry) → AllOfEntries (entry_fault base limit before e)
of_entry base limit before e = by (is_at_limit limit before) (has_end before) (has_clause e.clause before)
  where
    n : ℕ
    n = length before

    by : (a b c : Bool) → AllOfEntries (option_map_or (λ fault. Some fault) (if a then Some (OverLimit n) else if b then Some (AfterEnd n) else if c then Some (Repeated n) else None) (follow_fault base before e))
    by true b c = record { closed = λ e. absurd (cc); memory = λ e. absurd (cc) }
    by false true c = record { closed = λ e. absurd (cc); memory = λ e. absurd (cc) }
    by false false true = record { closed = λ e. absurd (cc); memory = λ e. absurd (cc) }
    by false false false = hints_of_entry n (base ++ clauses_of before) (map negated e.clause) e.hints

found_of_entry : (base : List (List Literal)) (limit : Option ℕ) (log : List Entry) (i : ℕ) (f : LogFault) → answer_at (entry_fault base limit) log i ≡ Some f → IsOfEntry f
found_of_entry base limit log i f h = by (slice_get log i) h
  where
    by : (o : Option Entry) → option_and_then (λ e. entry_fault base limit (take i log) e) o ≡ Some f → IsOfEntry f
    by None k = absurd (cc)
    by (Some e) k = subst AllOfEntries k (of_entry base limit (take i log) e)

pub open_fault : (vars : ℕ) (base : List (List Literal)) (limit : Option ℕ) (log : List Entry) (f : LogFault) → IsLogFault base limit log f → IsOpenFault vars base limit log f
open_fault vars base limit log NoMemory h = tt
open_fault vars base limit log NotClosed h = (found_of_entry base limit log h.0 NotClosed h.1.found).closed refl
open_fault vars base limit log (BadHint e) h = h
open_fault vars base limit log (NotFalsified e) h = h
open_fault vars base limit log (Repeated e) h = h
open_fault vars base limit log (AfterEnd e) h = h
open_fault vars base limit log (OverLimit e) h = h

-- what a check of legal logs answers, a check of closed logs answers too
pub closed_fault : (vars : ℕ) (base : List (List Literal)) (limit : Option ℕ) (log : List Entry) (f : LogFault) → IsOpenFault vars base limit log f → IsClosedFault vars base limit log f
closed_fault vars base limit log NoMemory h = tt
closed_fault vars base limit log NotClosed h = absurd h
closed_fault vars base limit log (BadHint e) h = h
closed_fault vars base limit log (NotFalsified e) h = h
closed_fault vars base limit log (Repeated e) h = h
closed_fault vars base limit log (AfterEnd e) h = h
closed_fault vars base limit log (OverLimit e) h = h

pub one_fault : (base : List (List Literal)) (limit : Option ℕ) (log : List Entry) (f g : LogFault) → IsLogFault base limit log f → IsLogFault base limit log g → f ≡ g
one_fault base limit log f g p q = elim (cases_lt p.0 q.0) [ inl lt ↦ absurd (early f g p q lt) | inr le ↦ elim (cases_lt q.0 p.0) [ inl lt ↦ absurd (early g f q p lt) | inr ge ↦ same (omega arith) ] ]
  where
    early : (f g : LogFault) (p : IsLogFault base limit log f) (q : IsLogFault base limit log g) → p.0 < q.0 → ⊥
    early f g p q lt = let a = p.1.found in let b = q.1.none_before p.0 p.1.low lt in let k : Some f ≡ None = sym a ∙ b in absurd (cc)

    same : p.0 ≡ q.0 → f ≡ g
    same e = let a : Some f ≡ Some g = sym p.1.found ∙ ap (answer_at (entry_fault base limit) log) e ∙ q.1.found in cc

-- ---- a log without faults is legal

follows_of_none : (at : ℕ) (clauses : List (List Literal)) (trues : List Literal) (hints : List ℕ) → hints_fault at clauses trues hints ≡ None → leads_to_conflict clauses trues hints ≡ true
follows_of_none at clauses trues [] h = absurd (cc)
follows_of_none at clauses trues (n ∷ []) h = by (clause_named clauses n) h
  where
    test : (b : Bool) → (if b then None else Some (NotFalsified at)) ≡ None → b ≡ true
    test true k = refl
    test false k = absurd (cc)

    by : (o : Option (List Literal)) → last_hint_fault at trues o ≡ None → option_map_or (is_falsified trues) o false ≡ true
    by None k = absurd (cc)
    by (Some c) k = test (is_falsified trues c) k
follows_of_none at clauses trues (n ∷ m ∷ hints) h = by (λ l. follows_of_none at clauses (l ∷ trues) (m ∷ hints)) (unit_named clauses trues n) h
  where
    by : ((l : Literal) → hints_fault at clauses (l ∷ trues) (m ∷ hints) ≡ None → leads_to_conflict clauses (l ∷ trues) (m ∷ hints) ≡ true) → (o : Option Literal)
        → option_map_or (λ l. hints_fault at clauses (l ∷ trues) (m ∷ hints)) o (Some (BadHint at)) ≡ None
        → option_map_or (λ l. leads_to_conflict clauses (l ∷ trues) (m ∷ hints)) o false ≡ true
    by rest None k = absurd (cc)
    by rest (Some l) k = rest l k

none_of_follows : (at : ℕ) (clauses : List (List Literal)) (trues : List Literal) (hints : List ℕ) → leads_to_conflict clauses trues hints ≡ true → hints_fault at clauses trues hints ≡ None
none_of_follows at clauses trues [] h = absurd (true≢false (sym h))
none_of_follows at clauses trues (n ∷ []) h = by (clause_named clauses n) h
  where
    by : (o : Option (List Literal)) → option_map_or (is_falsified trues) o false ≡ true → last_hint_fault at trues o ≡ None
    by None k = absurd (true≢false (sym k))
    by (Some c) k = ap (λ b. if b then None else Some (NotFalsified at)) k
none_of_follows at clauses trues (n ∷ m ∷ hints) h = by (λ l. none_of_follows at clauses (l ∷ trues) (m ∷ hints)) (unit_named clauses trues n) h
  where
    by : ((l : Literal) → leads_to_conflict clauses (l ∷ trues) (m ∷ hints) ≡ true → hints_fault at clauses (l ∷ trues) (m ∷ hints) ≡ None) → (o : Option Literal)
        → option_map_or (λ l. leads_to_conflict clauses (l ∷ trues) (m ∷ hints)) o false ≡ true
        → option_map_or (λ l. hints_fault at clauses (l ∷ trues) (m ∷ hints)) o (Some (BadHint at)) ≡ None
    by rest None k = absurd (true≢false (sym k))
    by rest (Some l) k = rest l k

-- an entry that breaks no rule
record Passes (base : List (List Literal)) (limit : Option ℕ) (before : List Entry) (e : Entry) : Type 0 where
  below : is_at_limit limit before ≡ false
  not_ended : has_end before ≡ false
  new : has_clause e.clause before ≡ false
  follows : Follows (base ++ clauses_of before) e.clause e.hints

passes : (base : List (List Literal)) (limit : Option ℕ) (before : List Entry) (e : Entry) → entry_fault base limit before e ≡ None → Passes base limit before e
passes base limit before e h = by (is_at_limit limit before) (has_end before) (has_clause e.clause before) refl refl refl h
  where
    n : ℕ
    n = length before

    by : (a b c : Bool) → is_at_limit limit before ≡ a → has_end before ≡ b → has_clause e.clause before ≡ c
        → option_map_or (λ fault. Some fault) (if a then Some (OverLimit n) else if b then Some (AfterEnd n) else if c then Some (Repeated n) else None) (follow_fault base before e) ≡ None
        → Passes base limit before e
    by true b c p q r k = absurd (cc)
    by false true c p q r k = absurd (cc)
    by false false true p q r k = absurd (cc)
    by false false false p q r k = record { below = p; not_ended = q; new = r; follows = follows_of_none n (base ++ clauses_of before) (map negated e.clause) e.hints k }

passed : (base : List (List Literal)) (limit : Option ℕ) (before : List Entry) (e : Entry) → Passes base limit before e → entry_fault base limit before e ≡ None
passed base limit before e h =
    ap (λ b. option_map_or (λ fault. Some fault) (if b then Some (OverLimit (length before)) else if has_end before then Some (AfterEnd (length before)) else if has_clause e.clause before then Some (Repeated (length before)) else None) (follow_fault base before e)) h.below
    ∙ ap (λ b. option_map_or (λ fault. Some fault) (if b then Some (AfterEnd (length before)) else if has_clause e.clause before then Some (Repeated (length before)) else None) (follow_fault base before e)) h.not_ended
    ∙ ap (λ b. option_map_or (λ fault. Some fault) (if b then Some (Repeated (length before)) else None) (follow_fault base before e)) h.new
    ∙ none_of_follows (length before) (base ++ clauses_of before) (map negated e.clause) e.hints h.follows

not_ended_of : (log : List Entry) → has_end log ≡ false → is_ended log ≡ false
not_ended_of [] h = refl
not_ended_of (e ∷ []) h = by (is_empty_clause e.clause) h
  where
    by : (b : Bool) → (b || false) ≡ false → b ≡ false
    by true k = absurd (true≢false k)
    by false k = refl
not_ended_of (d ∷ e ∷ log) h = not_ended_of (e ∷ log) (by (is_empty_clause d.clause) h)
  where
    by : (b : Bool) → (b || has_end (e ∷ log)) ≡ false → has_end (e ∷ log) ≡ false
    by true k = absurd (true≢false k)
    by false k = k

unknown_of : (clause : List Literal) (log : List Entry) → has_clause clause log ≡ false → clause_place clause log ≡ None
unknown_of clause log h = by (clause_place clause log) refl
  where
    by : (o : Option ℕ) → clause_place clause log ≡ o → o ≡ None
    by None e = refl
    by (Some i) e =
        let k = position-Some (clause_eq clause) (clauses_of log) i clause e in
        absurd (true≢false (sym (list_any-from_Any (clause_eq clause) (clauses_of log) (i, get_or (clauses_of log) i clause, k.0, same i k.0, k.1)) ∙ h))
      where
        same : (i : ℕ) → i < length (clauses_of log) → get_or (clauses_of log) i (get_or (clauses_of log) i clause) ≡ get_or (clauses_of log) i clause
        same i lt = get_or_default (clauses_of log) i (get_or (clauses_of log) i clause) clause lt

legal_first : (vars : ℕ) (base : List (List Literal)) (limit : Option ℕ) (log : List Entry) → AreWithin vars log → FindsNone (entry_fault base limit) log 0 (length log)
    → (n : ℕ) → n ≤ length log → IsLegal vars base limit (take n log)
legal_first vars base limit log within none zero le = legal_empty vars base limit
legal_first vars base limit log within none (suc n) le =
    elim (slice_get_cases log n).1 [
      | inl p ↦
          let e = p.0 in
          let before = legal_first vars base limit log within none n (omega arith) in
          let pass = passes base limit (take n log) e (sym (ap (option_and_then (λ d. entry_fault base limit (take n log) d)) p.2) ∙ none.none n (omega arith) (omega arith)) in
          let here : Follows (base ++ clauses_of (take (length (take n log)) (take n log))) e.clause e.hints =
          subst (λ es. Follows (base ++ clauses_of es) e.clause e.hints) (sym (take-length (take n log))) pass.follows in
          let le' : IsWithinVariables vars e.clause = subst (λ (d : Entry). IsWithinVariables vars d.clause) p.3 (within n e (omega arith)) in
          subst (λ es. IsLegal vars base limit es) (sym (take-suc log n e (omega arith) ∙ ap (λ d. take n log ++ d ∷ []) p.3))
          (legal_push vars base limit (take n log) e (length (take n log)) before le' here (unknown_of e.clause (take n log) pass.new) (not_ended_of (take n log) pass.not_ended) pass.below)
      | inr p ↦ absurd (omega arith)
    ]

pub legal_of_none : (vars : ℕ) (base : List (List Literal)) (limit : Option ℕ) (log : List Entry) → AreWithin vars log → FindsNone (entry_fault base limit) log 0 (length log) → IsLegal vars base limit log
legal_of_none vars base limit log within none = subst (λ es. IsLegal vars base limit es) (take-length log) (legal_first vars base limit log within none (length log) (omega arith))

-- ---- and a legal log has no faults

no_clause_of : (p : List Literal → Bool) (log : List Entry) (d : Entry) → ((k : ℕ) → k < length log → p (get_or log k d).clause ≡ false) → list_any p (clauses_of log) ≡ false
no_clause_of p log d h = list_any_none p (clauses_of log) (λ k c lt.
    let len : length (clauses_of log) ≡ length log = length-map log (λ (x : Entry). x.clause) in
    ap p (get_or-clauses log k d c (omega arith)) ∙ h k (omega arith))

empty_of : (c : List Literal) → is_empty_clause c ≡ true → c ≡ []
empty_of [] h = refl
empty_of (l ∷ c) h = absurd (true≢false (sym h))

limit_passes : (limit : Option ℕ) (log before : List Entry) → IsWithinLimit limit log → length before < length log → is_at_limit limit before ≡ false
limit_passes None log before h lt = refl
limit_passes (Some most) log before h lt = false_from_ne_true (nat_le most (length before)) (λ e. let le = leb-true most (length before) e in omega arith)

pub none_of_legal : (vars : ℕ) (base : List (List Literal)) (limit : Option ℕ) (log : List Entry) → IsLegal vars base limit log → FindsNone (entry_fault base limit) log 0 (length log)
none_of_legal vars base limit log h = record { none = λ j low lt. at j lt }
  where
    at : (j : ℕ) → j < length log → answer_at (entry_fault base limit) log j ≡ None
    at j lt =
        elim (slice_get_cases log j).1 [
          | inl p ↦
              let e = p.0 in
              let len = length-take-le j log (omega arith) in
              ap (option_and_then (λ d. entry_fault base limit (take j log) d)) p.2
              ∙ passed base limit (take j log) e (record {
                below = limit_passes limit log (take j log) h.limited (omega arith);
                not_ended = no_clause_of is_empty_clause (take j log) e (λ k below.
                    false_from_ne_true (is_empty_clause (get_or (take j log) k e).clause) (λ t.
                    let before : k < j = omega arith in
                    h.ended k j e before lt (ap (λ (d : Entry). d.clause) (sym (get_or-take j log k e before)) ∙ empty_of (get_or (take j log) k e).clause t)));
                new = no_clause_of (clause_eq e.clause) (take j log) e (λ k below.
                    false_from_ne_true (clause_eq e.clause (get_or (take j log) k e).clause) (λ t.
                    let before : k < j = omega arith in
                    h.different k j e before lt
                    (ap (λ (d : Entry). d.clause) (sym (get_or-take j log k e before)) ∙ sym ((Decides-clause_eq e.clause (get_or (take j log) k e).clause).0 t) ∙ ap (λ (d : Entry). d.clause) (sym p.3))));
                follows = h.follows j e p.2;
              })
          | inr p ↦ absurd (omega arith)
        ]

pub legal_has_none : (vars : ℕ) (base : List (List Literal)) (limit : Option ℕ) (log : List Entry) (f : LogFault) → IsLegal vars base limit log → IsLogFault base limit log f → ⊥
legal_has_none vars base limit log f h p = let k : Some f ≡ None = sym p.1.found ∙ (none_of_legal vars base limit log h).none p.0 p.1.low p.1.high in absurd (cc)
