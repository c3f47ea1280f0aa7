-- What is made of clauses is true where they are.
use Rattle.std.proofs.Common.{◌≡◌, ℕ, zero, suc, ◌+◌, ◌-◌, ◌*◌, ◌/◌, ◌<◌, ◌≤◌, Bool, true, false, not, cond, List, [], ◌∷◌, ◌&&◌, ◌||◌, refl, sym, ap, subst, ◌∙◌, arith, inl, inr}
use Rattle.std.specs.Prelude.{map, All, nat_eq, nat_lt, slice_get, unwrap_or, Some, Option}
use Rattle.std.specs.List.{list_any}
use Rattle.std.proofs.lemmas.Bool.{cond_both, cases_Bool, ne_eqb, eqb-true, or_parts, or_from, true≢false}
use Rattle.std.proofs.lemmas.List.Folds.{list_all-append}
use Rattle.std.proofs.lemmas.List.Elements.{All-nil, All-cons, All-head, All-tail}
use Rattle.propositional_logic.specs.Literal.{sign_eq}
use Rattle.propositional_logic.specs.Truth.{value_of, is_true_literal, is_true_clause, meets}
use Rattle.aiger_text.specs.Circuit.{Valuation, variable_value, literal_value}
use Rattle.truth_witness.specs.Clauses.{opposite, is_valid, placed, rising, literal_of, made, base_clauses}
use Rattle.truth_witness.specs.Truths.{is_met, are_met, values_from, ClausesAreMade}
use Rattle.truth_witness.proofs.Values.{Form, form_of, double_mod, double_div, odd_mod, odd_div, value_even, value_odd, value_opposite}
use Rattle.truth_witness.proofs.Values.Form.{is_even, is_odd}

-- the value at a place of the list
value_at : (values : Valuation) (v n i : ℕ) → i < n → slice_get (values_from values v n) i ≡ Some (values (v + i))
value_at values v zero i h = absurd (omega arith)
value_at values v (suc n) zero h = let e : v ≡ v + 0 = omega arith in ap (λ (k : ℕ). Some (values k)) e
value_at values v (suc n) (suc i) h =
    let e : suc v + i ≡ v + suc i = omega arith in
    value_at values (suc v) n i (omega arith) ∙ ap (λ (k : ℕ). Some (values k)) e

-- where no element passes one test, none passes a test that only such elements pass
pub any_none : {X : Type 0} (P Q : X → Bool) → ((x : X) → P x ≡ false → Q x ≡ false) → (xs : List X) → list_any P xs ≡ false → list_any Q xs ≡ false
any_none P Q fails [] h = refl
any_none P Q fails (x ∷ xs) h =
    let parts : (P x ≡ false) × (list_any P xs ≡ false) = or_parts (P x) (list_any P xs) h in
    or_from (Q x) (list_any Q xs) (fails x parts.0) (any_none P Q fails xs parts.1)

module _ (values : Valuation) (n : ℕ) where
  abbrev listed : List Bool
  listed = values_from values 1 n

  value_listed : (u : ℕ) → suc u ≤ n → value_of listed (suc u) ≡ variable_value values (suc u)
  value_listed u h =
      let e : suc u - 1 ≡ u = omega arith in
      let f : 1 + u ≡ suc u = omega arith in
      ap (λ (i : ℕ). unwrap_or (slice_get listed i) false) e
      ∙ ap (λ (o : Option Bool). unwrap_or o false) (value_at values 1 n u (omega arith))
      ∙ ap values f

  -- a literal of the logs is true where AIGER's is
  literal_listed : (l : ℕ) → 2 ≤ l → l ≤ 2 * n + 1 → is_true_literal listed (literal_of l) ≡ literal_value values l
  literal_listed l low high = by (form_of l)
    where
      truth : ℕ → ℕ → Bool
      truth r v = sign_eq (nat_eq r 0) (value_of listed v)

      even : (v : ℕ) → l ≡ 2 * v → is_true_literal listed (literal_of l) ≡ literal_value values l
      even zero e = absurd (omega arith)
      even (suc u) e =
          subst (λ k. is_true_literal listed (literal_of k) ≡ literal_value values k) (sym e)
          (ap (λ r. sign_eq (nat_eq r 0) (value_of listed ((2 * suc u) / 2))) (double_mod (suc u))
          ∙ ap (λ v. value_of listed v) (double_div (suc u)) ∙ value_listed u (omega arith) ∙ sym (value_even values (suc u)))

      odd : (v : ℕ) → l ≡ 2 * v + 1 → is_true_literal listed (literal_of l) ≡ literal_value values l
      odd zero e = absurd (omega arith)
      odd (suc u) e =
          subst (λ k. is_true_literal listed (literal_of k) ≡ literal_value values k) (sym e)
          (ap (λ r. sign_eq (nat_eq r 0) (value_of listed ((2 * suc u + 1) / 2))) (odd_mod (suc u))
          ∙ ap (λ v. not (value_of listed v)) (odd_div (suc u)) ∙ ap not (value_listed u (omega arith)) ∙ sym (value_odd values (suc u)))

      by : Form l → is_true_literal listed (literal_of l) ≡ literal_value values l
      by (is_even v e) = even v e
      by (is_odd v e) = odd v e

  abbrev truth : ℕ → Bool
  truth l = is_true_literal listed (literal_of l)

  abbrev AtMost : ℕ → Type 0
  AtMost l = l ≤ 2 * n + 1

  abbrev is_one : ℕ → Bool
  is_one l = nat_eq l 1

  -- a literal put in its place counts as one more
  any_placed : (l : ℕ) (ms : List ℕ) → list_any truth (placed l ms) ≡ (truth l || list_any truth ms)
  any_placed l [] = refl
  any_placed l (m ∷ ms) =
      cond_both (nat_eq l m) (m ∷ ms) (cond (nat_lt l m) (l ∷ m ∷ ms) (m ∷ placed l ms)) (λ xs. list_any truth xs ≡ (truth l || list_any truth (m ∷ ms)))
      (λ e. rw (eqb-true l m e) (idempotent (truth m) (list_any truth ms)))
      (λ _. cond_both (nat_lt l m) (l ∷ m ∷ ms) (m ∷ placed l ms) (λ xs. list_any truth xs ≡ (truth l || list_any truth (m ∷ ms)))
      (λ _. refl) (λ _. ap (λ b. truth m || b) (any_placed l ms) ∙ swapped (truth m) (truth l) (list_any truth ms)))
    where
      idempotent : (a b : Bool) → (a || b) ≡ (a || (a || b))
      idempotent true b = refl
      idempotent false b = refl

      swapped : (a b c : Bool) → (a || (b || c)) ≡ (b || (a || c))
      swapped true true c = refl
      swapped true false c = refl
      swapped false b c = refl

  -- the rising list is true where the list is, in which 1 doesn't stand
  any_rising : (lits : List ℕ) → All AtMost lits → list_any is_one lits ≡ false → list_any truth (rising lits) ≡ is_met values lits
  any_rising [] within h = refl
  any_rising (zero ∷ lits) within h = any_rising lits (All-tail AtMost zero lits within) (or_parts (is_one zero) (list_any is_one lits) h).1
  any_rising (suc zero ∷ lits) within h = absurd (true≢false h)
  any_rising (suc (suc l) ∷ lits) within h =
      let here : suc (suc l) ≤ 2 * n + 1 = All-head AtMost (suc (suc l)) lits within in
      any_placed (suc (suc l)) (rising lits)
      ∙ ap (λ b. b || list_any truth (rising lits)) (literal_listed (suc (suc l)) (omega arith) here)
      ∙ ap (λ b. literal_value values (suc (suc l)) || b) (any_rising lits (All-tail AtMost (suc (suc l)) lits within) (or_parts (is_one (suc (suc l))) (list_any is_one lits) h).1)

  -- a clause without 1 and without opposites goes by its rising list
  any_mapped : (lits : List ℕ) → is_true_clause listed (map literal_of lits) ≡ list_any truth lits
  any_mapped [] = refl
  any_mapped (l ∷ lits) = ap (λ b. truth l || b) (any_mapped lits)

  -- what is valid is true
  valid_met : (lits : List ℕ) → is_met values lits ≡ false → is_valid lits ≡ false
  valid_met lits none =
      any_none (literal_value values) (λ l. nat_eq l 1 || list_any (nat_eq (opposite l)) lits)
      (λ l off. or_from (nat_eq l 1) (list_any (nat_eq (opposite l)) lits) (not_one l off) (any_none (literal_value values) (nat_eq (opposite l)) (apart l off) lits none))
      lits none
    where
      not_one : (l : ℕ) → literal_value values l ≡ false → nat_eq l 1 ≡ false
      not_one l off = ne_eqb l 1 (λ e. true≢false (subst (λ k. literal_value values k ≡ false) e off))

      apart : (l : ℕ) → literal_value values l ≡ false → (m : ℕ) → literal_value values m ≡ false → nat_eq (opposite l) m ≡ false
      apart l off m off' = ne_eqb (opposite l) m (λ e. true≢false (sym (ap not off) ∙ sym (value_opposite values l) ∙ ap (literal_value values) e ∙ off'))

  no_one : (lits : List ℕ) → is_valid lits ≡ false → list_any is_one lits ≡ false
  no_one lits h =
      any_none (λ l. nat_eq l 1 || list_any (nat_eq (opposite l)) lits) is_one (λ l none. (or_parts (nat_eq l 1) (list_any (nat_eq (opposite l)) lits) none).0) lits h

  and_true : (b : Bool) → (b && true) ≡ b
  and_true true = refl
  and_true false = refl

  made_met : (lits : List ℕ) → All AtMost lits → meets listed (made lits) ≡ is_met values lits
  made_met lits within =
      cond_both (is_valid lits) [] (map literal_of (rising lits) ∷ []) (λ clauses. meets listed clauses ≡ is_met values lits)
      (λ valid. elim (cases_Bool (is_met values lits)) [ inl on ↦ sym on | inr off ↦ absurd (true≢false (sym valid ∙ valid_met lits off)) ])
      (λ ordinary. and_true (is_true_clause listed (map literal_of (rising lits))) ∙ any_mapped (rising lits) ∙ any_rising lits within (no_one lits ordinary))

  all_made_met : (clauses : List (List ℕ)) → All (All AtMost) clauses → meets listed (base_clauses clauses) ≡ are_met values clauses
  all_made_met [] within = refl
  all_made_met (lits ∷ clauses) within =
      list_all-append (is_true_clause listed) (made lits) (base_clauses clauses)
      ∙ ap (λ b. b && meets listed (base_clauses clauses)) (made_met lits (All-head (All AtMost) lits clauses within))
      ∙ ap (λ b. is_met values lits && b) (all_made_met clauses (All-tail (All AtMost) lits clauses within))

pub clauses_are_made : ClausesAreMade
clauses_are_made values n clauses within = all_made_met values n clauses within

-- a number that no literal of the clauses passes
abbrev bound : List ℕ → ℕ
bound [] = 0
bound (l ∷ lits) = l + bound lits

abbrev bounds : List (List ℕ) → ℕ
bounds [] = 0
bounds (lits ∷ clauses) = bound lits + bounds clauses

below_bound : (n : ℕ) (lits : List ℕ) → bound lits ≤ n → All (λ l. l ≤ 2 * n + 1) lits
below_bound n [] h = All-nil (λ l. l ≤ 2 * n + 1)
below_bound n (l ∷ lits) h = All-cons (λ m. m ≤ 2 * n + 1) l lits (omega arith) (below_bound n lits (omega arith))

below_bounds : (n : ℕ) (clauses : List (List ℕ)) → bounds clauses ≤ n → All (All (λ l. l ≤ 2 * n + 1)) clauses
below_bounds n [] h = All-nil (All (λ l. l ≤ 2 * n + 1))
below_bounds n (lits ∷ clauses) h =
    All-cons (All (λ l. l ≤ 2 * n + 1)) lits clauses (below_bound n lits (omega arith)) (below_bounds n clauses (omega arith))

-- clauses that are met have base clauses that some list of values meets
pub met_base : (values : Valuation) (clauses : List (List ℕ)) → are_met values clauses ≡ true → (list : List Bool) × (meets list (base_clauses clauses) ≡ true)
met_base values clauses met =
    let n : ℕ = bounds clauses in
    (values_from values 1 n, clauses_are_made values n clauses (below_bounds n clauses (omega arith)) ∙ met)
