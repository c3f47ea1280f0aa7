-- A log as it stands in its map.
use Rattle.std.proofs.Common.{◌≡◌, suc, ◌-◌, Bool, true, false, List, [], ◌∷◌, ◌++◌, Some, None, map, slice_get, length, is_some, ◌==◌, refl, sym, ap, ◌∙◌, arith}
use Rattle.std.specs.Option.{option_map}
use Rattle.std.proofs.lemmas.Option.{slice_get-map}
use Rattle.std.proofs.lemmas.List.{length-map, map-append}
use Rattle.std.specs.Prelude.{position}
use Rattle.std.proofs.lemmas.Bool.Decides.{Decides-eqb}
use Rattle.std_lemmas.proofs.Options.{none_by}
use Rattle.indexmap.specs.IndexMap.{IndexMap, get, insert_entry}
use Rattle.indexmap.proofs.CallerLemmas.{insert_entry-new}
use Rattle.indexmap.proofs.MapLemmas.{some_index}
use Rattle.propositional_logic.specs.Literal.{Literal}
use Rattle.propositional_logic.specs.Clause.{clause_eq}
use Rattle.refutation_log.specs.declared.entries.Entry.{Entry}
use Rattle.refutation_log.specs.declared.entries.Derivation.{Derivation}
use Rattle.refutation_log.specs.Entry.{clauses_of}
use Rattle.refutation_log.specs.Log.{is_empty_clause, is_ended}
use Rattle.refutation_log.specs.Turn.{clause_place}
use Rattle.refutation_log.specs.State.{entry_of}

-- the map's keys are the clauses of the entries
pub keys_are_clauses : (es : List ((List Literal) × Derivation)) → map (λ e. e.0) es ≡ clauses_of (map entry_of es)
keys_are_clauses [] = refl
keys_are_clauses (e ∷ es) = ap (λ l. e.0 ∷ l) (keys_are_clauses es)

-- the last entry says whether the log is ended
pub is_ended-last : (log : List Entry) (e : Entry) → slice_get log (length log - 1) ≡ Some e → is_ended log ≡ is_empty_clause e.clause
is_ended-last [] e h = absurd (cc)
is_ended-last (d ∷ []) e h = let s : d ≡ e = cc in ap (λ (x : Entry). is_empty_clause x.clause) s
is_ended-last (d ∷ c ∷ log) e h =
    let k : length (d ∷ c ∷ log) - 1 ≡ suc (length (c ∷ log) - 1) = omega arith in
    is_ended-last (c ∷ log) e (sym (ap (slice_get (d ∷ c ∷ log)) k) ∙ h)

-- a clause that isn't in the log goes last in the map
pub insert_entry-unknown : {S : Type 0} (m : IndexMap (List Literal) Derivation S) (k : List Literal) (v : Derivation)
    → clause_place k (map entry_of m.entries) ≡ None → insert_entry clause_eq m.entries k v ≡ m.entries ++ (k, v) ∷ []
insert_entry-unknown m k v h =
    let none : position (clause_eq k) (map (λ e. e.0) m.entries) ≡ None = ap (position (clause_eq k)) (keys_are_clauses m.entries) ∙ h in
    insert_entry-new clause_eq m k v (none_by (get clause_eq m k) (sym (some_index (clause_eq k) m.entries) ∙ ap is_some none))

pub entries_after_insert : {S : Type 0} (m : IndexMap (List Literal) Derivation S) (e : Entry) → clause_place e.clause (map entry_of m.entries) ≡ None
    → map entry_of (insert_entry clause_eq m.entries e.clause (record { by = e.by; hints = e.hints })) ≡ map entry_of m.entries ++ e ∷ []
entries_after_insert m e h =
    let v : Derivation = record { by = e.by; hints = e.hints } in
    ap (map entry_of) (insert_entry-unknown m e.clause v h) ∙ map-append entry_of m.entries ((e.clause, v) ∷ [])

pub is_ended-last_key : (es : List ((List Literal) × Derivation)) (k : List Literal) (v : Derivation) → Some (k, v) ≡ slice_get es (length es - 1) → is_ended (map entry_of es) ≡ is_empty_clause k
is_ended-last_key es k v h =
    let n : length (map entry_of es) ≡ length es = length-map es entry_of in
    is_ended-last (map entry_of es) (entry_of (k, v))
    (ap (λ j. slice_get (map entry_of es) (j - 1)) n ∙ slice_get-map entry_of es (length es - 1) ∙ ap (option_map entry_of) (sym h))

pub is_empty_clause-length : (xs : List Literal) → is_empty_clause xs ≡ (length xs == 0)
is_empty_clause-length [] = refl
is_empty_clause-length (x ∷ xs) = by (length (x ∷ xs) == 0) refl
  where
    by : (b : Bool) → (length (x ∷ xs) == 0) ≡ b → false ≡ b
    by true e = absurd (omega (arith, (Decides-eqb (length (x ∷ xs)) 0).0 e))
    by false e = refl
