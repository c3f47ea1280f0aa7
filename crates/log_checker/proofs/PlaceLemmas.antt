-- How the first fault of places is found.
use Rattle.std.proofs.Common.{◌≡◌, ℕ, ◌+◌, ◌<◌, ◌≤◌, ◌==◌, Bool, true, false, not, ◌||◌, nat_le, List, [], ◌∷◌, ◌++◌, Option, Some, None, map, length, take, get_or, refl, sym, ap, ◌∙◌, true≢false, arith}
use Rattle.std.specs.Prelude.{if◌then◌else◌}
use Rattle.std.specs.Borrow.{Bor}
use Rattle.std.specs.List.{list_any}
use Rattle.std.specs.Option.{option_and_then, option_map_or}
use Rattle.std.proofs.lemmas.List.{length-take-le, take_more, map-append}
use Rattle.std.proofs.lemmas.List.Folds.{list_any-append}
use Rattle.std.proofs.lemmas.Option.{slice_get-get_or}
use mathlib.Core.Bool.{or-false}
use borrow.Author.Count.{below_more}
use Rattle.propositional_logic.specs.Literal.{Literal}
use Rattle.propositional_logic.specs.Clause.{clause_eq}
use Rattle.refutation_log.specs.declared.entries.Entry.{Entry}
use Rattle.refutation_log.specs.Entry.{clauses_of}
use Rattle.refutation_log.specs.Log.{is_empty_clause}
use Rattle.refutation_log.specs.Turn.{is_at_limit}
use Rattle.refutation_log.proofs.StateLemmas.{is_empty_clause-length}
use Rattle.log_checker.specs.declared.faults.LogFault.TheVariants.{Repeated, AfterEnd, OverLimit}
use Rattle.log_checker.specs.Faults.{has_end, has_clause, place_fault, answer_at, IsFoundAt}

any_now : (c : List Literal) (ks : List (Bor (List Literal))) → list_any (λ k. clause_eq c k.now) ks ≡ list_any (clause_eq c) (map (λ k. k.now) ks)
any_now c [] = refl
any_now c (k ∷ ks) = ap (λ b. clause_eq c k.now || b) (any_now c ks)

module _ (limit : Option ℕ) (log : List Entry) (i : ℕ) (e : Entry) (lt : i < length log) (at : e ≡ get_or log i e)
    (past : option_map_or (λ most. nat_le most i) limit false ≡ false) (open_end : has_end (take i log) ≡ false) where
  len : length (take i log) ≡ i
  len = length-take-le i log (omega arith)

  below : is_at_limit limit (take i log) ≡ false
  below = by limit past
    where
      by : (o : Option ℕ) → option_map_or (λ most. nat_le most i) o false ≡ false → is_at_limit o (take i log) ≡ false
      by None h = refl
      by (Some most) h = ap (nat_le most) len ∙ h

  place_of_entry : (b : Bool) → has_clause e.clause (take i log) ≡ b → answer_at (place_fault limit) log i ≡ (if b then Some (Repeated i) else None)
  place_of_entry b h =
      ap (option_and_then (λ d. place_fault limit (take i log) d)) (slice_get-get_or log i e lt ∙ ap Some (sym at))
      ∙ ap (λ a. if a then Some (OverLimit (length (take i log))) else if has_end (take i log) then Some (AfterEnd (length (take i log))) else if has_clause e.clause (take i log) then Some (Repeated (length (take i log))) else None) below
      ∙ ap (λ a. if a then Some (AfterEnd (length (take i log))) else if has_clause e.clause (take i log) then Some (Repeated (length (take i log))) else None) open_end
      ∙ ap (λ a. if a then Some (Repeated (length (take i log))) else None) h
      ∙ ap (λ n. if b then Some (Repeated n) else None) len

  known : (ks : List (Bor (List Literal))) → map (λ k. k.now) ks ≡ clauses_of (take i log) → list_any (λ k. clause_eq e.clause k.now) ks ≡ has_clause e.clause (take i log)
  known ks seen = any_now e.clause ks ∙ ap (list_any (clause_eq e.clause)) seen

  pub repeated : (ks : List (Bor (List Literal))) → map (λ k. k.now) ks ≡ clauses_of (take i log) → not (list_any (λ k. clause_eq e.clause k.now) ks) ≡ false
      → ((j : ℕ) → 0 ≤ j → j < i → answer_at (place_fault limit) log j ≡ None) → IsFoundAt (place_fault limit) log 0 (length log) (Repeated i) i
  repeated ks seen h none = record {
    low = omega arith;
    high = lt;
    found = place_of_entry true (sym (known ks seen) ∙ by (list_any (λ k. clause_eq e.clause k.now) ks) h);
    none_before = none;
  }
    where
      by : (b : Bool) → not b ≡ false → b ≡ true
      by true k = refl
      by false k = absurd (true≢false k)

  more : take (i + 1) log ≡ take i log ++ e ∷ []
  more = take_more log i e lt ∙ ap (λ d. take i log ++ d ∷ []) (sym at)

  -- what the loop keeps: the clauses that were seen, whether an empty one was, and that there was no fault
  pub seen_more : (ks new : List (Bor (List Literal))) (k : Bor (List Literal)) → k.now ≡ e.clause → map (λ k. k.now) ks ≡ clauses_of (take i log) → not (list_any (λ k. clause_eq e.clause k.now) ks) ≡ true
      → new ≡ (if list_any (λ k. clause_eq e.clause k.now) ks then ks else ks ++ k ∷ []) → map (λ k. k.now) new ≡ clauses_of (take (i + 1) log)
  seen_more ks new k same seen h keys =
      ap (map (λ k. k.now)) (keys ∙ ap (λ b. if b then ks else ks ++ k ∷ []) (by (list_any (λ k. clause_eq e.clause k.now) ks) h))
      ∙ map-append (λ (k : Bor (List Literal)). k.now) ks (k ∷ []) ∙ (λ j. seen j ++ same j ∷ [])
      ∙ sym (ap clauses_of more ∙ map-append (λ (d : Entry). d.clause) (take i log) (e ∷ []))
    where
      by : (b : Bool) → not b ≡ true → b ≡ false
      by true k = absurd (true≢false (sym k))
      by false k = refl

  pub end_more : (b : Bool) → b ≡ (length e.clause == 0) → has_end (take (i + 1) log) ≡ b
  end_more b h =
      ap has_end more ∙ ap (list_any is_empty_clause) (map-append (λ (d : Entry). d.clause) (take i log) (e ∷ []))
      ∙ list_any-append is_empty_clause (clauses_of (take i log)) (e.clause ∷ []) ∙ ap (λ a. a || (is_empty_clause e.clause || false)) open_end
      ∙ or-false (is_empty_clause e.clause) ∙ is_empty_clause-length e.clause ∙ sym h

  pub none_more : (ks : List (Bor (List Literal))) → map (λ k. k.now) ks ≡ clauses_of (take i log) → not (list_any (λ k. clause_eq e.clause k.now) ks) ≡ true
      → ((j : ℕ) → 0 ≤ j → j < i → answer_at (place_fault limit) log j ≡ None) → (j : ℕ) → 0 ≤ j → j < i + 1 → answer_at (place_fault limit) log j ≡ None
  none_more ks seen h none j low high =
      below_more (λ j. answer_at (place_fault limit) log j ≡ None) i (λ j lt. none j (omega arith) lt)
      (place_of_entry false (sym (known ks seen) ∙ by (list_any (λ k. clause_eq e.clause k.now) ks) h)) j high
    where
      by : (b : Bool) → not b ≡ true → b ≡ false
      by true k = absurd (true≢false (sym k))
      by false k = refl
