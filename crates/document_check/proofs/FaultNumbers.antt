-- A log's fault names the entry at which it is found.
use Rattle.std.proofs.Common.{◌≡◌, ℕ, ◌<◌, Bool, true, false, Option, Some, None, List, [], ◌∷◌, ◌++◌, length, take, refl, subst, ◌∙◌, arith, slice_get}
use Rattle.std.specs.Prelude.{map, IfSome, if◌then◌else◌}
use Rattle.std.specs.Option.{option_and_then, option_map_or}
use Rattle.std.proofs.lemmas.List.{length-take-le}
use Rattle.propositional_logic.specs.Literal.{Literal, negated}
use Rattle.propositional_logic.specs.Partial.{is_falsified}
use Rattle.refutation_log.specs.declared.entries.Entry.{Entry}
use Rattle.refutation_log.specs.Entry.{clauses_of}
use Rattle.refutation_log.specs.Follows.{clause_named, unit_named}
use Rattle.refutation_log.specs.Turn.{is_at_limit}
use Rattle.log_checker.specs.declared.faults.LogFault.{LogFault}
use Rattle.log_checker.specs.declared.faults.LogFault.TheVariants.{BadHint, NotFalsified, Repeated, AfterEnd, OverLimit}
use Rattle.log_checker.specs.Faults.{has_end, has_clause, last_hint_fault, hints_fault, follow_fault, entry_fault, IsLogFault}
use Rattle.document_check.specs.FirstBad.{entry_of}

abbrev Names : ℕ → Option LogFault → Type 0
Names at o = IfSome o (λ fault. entry_of fault ≡ at)

hints_name : (at : ℕ) (clauses : List (List Literal)) (trues : List Literal) (hints : List ℕ) → Names at (hints_fault at clauses trues hints)
hints_name at clauses trues [] = refl
hints_name at clauses trues (n ∷ []) = by (clause_named clauses n)
  where
    test : (b : Bool) → Names at (if b then None else Some (NotFalsified at))
    test true = tt
    test false = refl

    by : (o : Option (List Literal)) → Names at (last_hint_fault at trues o)
    by None = refl
    by (Some c) = test (is_falsified trues c)
hints_name at clauses trues (n ∷ m ∷ hints) = by (λ l. hints_name at clauses (l ∷ trues) (m ∷ hints)) (unit_named clauses trues n)
  where
    by : ((l : Literal) → Names at (hints_fault at clauses (l ∷ trues) (m ∷ hints))) → (o : Option Literal)
        → Names at (option_map_or (λ l. hints_fault at clauses (l ∷ trues) (m ∷ hints)) o (Some (BadHint at)))
    by rest None = refl
    by rest (Some l) = rest l

entry_names : (base : List (List Literal)) (limit : Option ℕ) (before : List Entry) (e : Entry) → Names (length before) (entry_fault base limit before e)
entry_names base limit before e = by (is_at_limit limit before) (has_end before) (has_clause e.clause before)
  where
    follows : Names (length before) (follow_fault base before e)
    follows = hints_name (length before) (base ++ clauses_of before) (map negated e.clause) e.hints

    by : (a b c : Bool)
        → Names (length before) (option_map_or (λ fault. Some fault) (if a then Some (OverLimit (length before)) else if b then Some (AfterEnd (length before)) else if c then Some (Repeated (length before)) else None) (follow_fault base before e))
    by true b c = refl
    by false true c = refl
    by false false true = refl
    by false false false = follows

found_by : (base : List (List Literal)) (limit : Option ℕ) (log : List Entry) (fault : LogFault) (place : ℕ) (o : Option Entry) → place < length log
    → option_and_then (λ e. entry_fault base limit (take place log) e) o ≡ Some fault → entry_of fault ≡ place
found_by base limit log fault place None less is = absurd (cc)
found_by base limit log fault place (Some e) less is =
    let named : Names (length (take place log)) (Some fault) = subst (λ (o : Option LogFault). Names (length (take place log)) o) is (entry_names base limit (take place log) e) in
    named ∙ length-take-le place log (omega arith)

-- a log's fault names one of its entries
pub names_entry : (base : List (List Literal)) (limit : Option ℕ) (log : List Entry) (fault : LogFault) → IsLogFault base limit log fault → entry_of fault < length log
names_entry base limit log fault found =
    let high = found.1.high in
    let e : entry_of fault ≡ found.0 = found_by base limit log fault found.0 (slice_get log found.0) found.1.high found.1.found in
    omega (arith, e, high)
