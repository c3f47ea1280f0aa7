-- The clause with the literals that are no constants is the one that is made.
use Rattle.std.proofs.Common.{◌≡◌, ◌≢◌, ℕ, zero, suc, ◌+◌, ◌*◌, ◌/◌, ◌%◌, ◌<◌, ◌≤◌, Bool, true, false, not, cond, List, [], ◌∷◌, ◌++◌, ◌||◌, length, get_or, refl, sym, ap, subst, ◌∙◌, arith, inl, inr}
use Rattle.std.specs.Prelude.{◌⊎◌, map, filter, nat_eq, nat_lt, All, Contains}
use Rattle.std.specs.List.{list_any}
use Rattle.std.proofs.Math.Nat.{div-add-mod, mod-lt}
use Rattle.std.proofs.lemmas.Bool.{false_from_ne_true, cases_lt, cond_both, cond-true, cond-false, eq-eqb, eqb-true, eqb-false, ltb-true, ltb-false, lt-ltb, or_left, or_right, or_cases, true≢false}
use Rattle.std.proofs.lemmas.List.{append-nil}
use Rattle.std.proofs.lemmas.List.Elements.{All-contains}
use Rattle.propositional_logic.specs.Literal.{Literal, negated}
use Rattle.propositional_logic.specs.Clause.{IsClause, IsClauseOf, IsRisingFrom, IsTautology, HasBadVariable}
use Rattle.propositional_logic.specs.Laws.{ClausesAreSets}
use Rattle.truth_witness.specs.Clauses.{opposite, is_valid, placed, rising, literal_of, made}
use Rattle.truth_witness.proofs.Values.{Form, form_of, double_mod, double_div, odd_mod, odd_div, opposite_even, opposite_odd}
use Rattle.truth_witness.proofs.Values.Form.{is_even, is_odd}

-- membership by recursion on the list
abbrev Among : {X : Type 0} → X → List X → Type 0
Among x [] = ⊥
Among x (y ∷ ys) = (y ≡ x) ⊎ Among x ys

contains_among : {X : Type 0} (x : X) (xs : List X) → Among x xs → Contains xs x
contains_among x [] is = absurd is
contains_among x (y ∷ ys) (inl e) = (0, (let h : 0 < suc (length ys) = omega arith in h), e)
contains_among x (y ∷ ys) (inr is) = let c : Contains ys x = contains_among x ys is in let h : c.0 < length ys = c.1 in (suc c.0, (let k : suc c.0 < suc (length ys) = omega arith in k), c.2)

among_at : {X : Type 0} (x : X) (xs : List X) (k : ℕ) → k < length xs → get_or xs k x ≡ x → Among x xs
among_at x [] k h e = absurd (omega arith)
among_at x (y ∷ ys) zero h e = inl e
among_at x (y ∷ ys) (suc k) h e = inr (among_at x ys k (omega arith) e)

among_contains : {X : Type 0} (x : X) (xs : List X) → Contains xs x → Among x xs
among_contains x xs c = among_at x xs c.0 c.1 c.2

-- what is among mapped elements is one of them, mapped
record Mapped (l : Literal) (lits : List ℕ) : Type 0 where
  pub from : ℕ
  pub is : Among from lits
  pub same : literal_of from ≡ l

mapped : (l : Literal) (lits : List ℕ) → Among l (map literal_of lits) → Mapped l lits
mapped l [] is = absurd is
mapped l (m ∷ ms) (inl e) = record { from = m; is = inl refl; same = e }
mapped l (m ∷ ms) (inr is) = let more : Mapped l ms = mapped l ms is in record { from = more.from; is = inr more.is; same = more.same }

map_among : (m : ℕ) (lits : List ℕ) → Among m lits → Among (literal_of m) (map literal_of lits)
map_among m [] is = absurd is
map_among m (n ∷ ns) (inl e) = inl (ap literal_of e)
map_among m (n ∷ ns) (inr is) = inr (map_among m ns is)

-- what a filter keeps
filtered : (m : ℕ) (lits : List ℕ) → Among m (filter (nat_lt 1) lits) → Among m lits × (1 < m)
filtered m [] = λ is. absurd is
filtered m (n ∷ ns) = cond_both (nat_lt 1 n) (n ∷ filter (nat_lt 1) ns) (filter (nat_lt 1) ns) (λ ms. Among m ms → Among m (n ∷ ns) × (1 < m))
    (λ big is. stood big is (filtered m ns)) (λ _ is. let more : Among m ns × (1 < m) = filtered m ns is in (inr more.0, more.1))
  where
    stood : nat_lt 1 n ≡ true → (n ≡ m) ⊎ Among m (filter (nat_lt 1) ns) → (Among m (filter (nat_lt 1) ns) → Among m ns × (1 < m)) → ((n ≡ m) ⊎ Among m ns) × (1 < m)
    stood big (inl e) rest = (inl e, subst (λ k. 1 < k) e (ltb-true 1 n big))
    stood big (inr is) rest = let more : Among m ns × (1 < m) = rest is in (inr more.0, more.1)

filter_among : (m : ℕ) (lits : List ℕ) → Among m lits → 1 < m → Among m (filter (nat_lt 1) lits)
filter_among m [] is big = absurd is
filter_among m (n ∷ ns) (inl e) big =
    subst (Among m) (sym (cond-true (nat_lt 1 n) (n ∷ filter (nat_lt 1) ns) (filter (nat_lt 1) ns) (lt-ltb 1 n (subst (λ k. 1 < k) (sym e) big)))) (inl e)
filter_among m (n ∷ ns) (inr is) big =
    cond_both (nat_lt 1 n) (n ∷ filter (nat_lt 1) ns) (filter (nat_lt 1) ns) (Among m) (λ _. inr (filter_among m ns is big)) (λ _. filter_among m ns is big)

-- what stands in a list that is put into, and in the rising list
placed_among : (l m : ℕ) (ms : List ℕ) → Among m (placed l ms) → (l ≡ m) ⊎ Among m ms
placed_among l m [] = λ is. is
placed_among l m (n ∷ ns) =
    cond_both (nat_eq l n) (n ∷ ns) (cond (nat_lt l n) (l ∷ n ∷ ns) (n ∷ placed l ns)) (λ xs. Among m xs → (l ≡ m) ⊎ Among m (n ∷ ns))
    (λ _ is. inr is)
    (λ _. cond_both (nat_lt l n) (l ∷ n ∷ ns) (n ∷ placed l ns) (λ xs. Among m xs → (l ≡ m) ⊎ Among m (n ∷ ns))
    (λ _ is. is) (λ _ is. behind is (placed_among l m ns)))
  where
    behind : (n ≡ m) ⊎ Among m (placed l ns) → (Among m (placed l ns) → (l ≡ m) ⊎ Among m ns) → (l ≡ m) ⊎ ((n ≡ m) ⊎ Among m ns)
    behind (inl e) rest = inr (inl e)
    behind (inr is) rest = elim (rest is) [ inl e ↦ inl e | inr more ↦ inr (inr more) ]

among_placed : (l m : ℕ) (ms : List ℕ) → (l ≡ m) ⊎ Among m ms → Among m (placed l ms)
among_placed l m [] (inl e) = inl e
among_placed l m [] (inr is) = absurd is
among_placed l m (n ∷ ns) at =
    cond_both (nat_eq l n) (n ∷ ns) (cond (nat_lt l n) (l ∷ n ∷ ns) (n ∷ placed l ns)) (Among m)
    (λ same. by_same (eqb-true l n same) at)
    (λ _. cond_both (nat_lt l n) (l ∷ n ∷ ns) (n ∷ placed l ns) (Among m) (λ _. at) (λ _. behind at (among_placed l m ns)))
  where
    by_same : l ≡ n → (l ≡ m) ⊎ ((n ≡ m) ⊎ Among m ns) → (n ≡ m) ⊎ Among m ns
    by_same e (inl f) = inl (sym e ∙ f)
    by_same e (inr is) = is

    behind : (l ≡ m) ⊎ ((n ≡ m) ⊎ Among m ns) → ((l ≡ m) ⊎ Among m ns → Among m (placed l ns)) → (n ≡ m) ⊎ Among m (placed l ns)
    behind (inl e) rest = inr (rest (inl e))
    behind (inr (inl e)) rest = inl e
    behind (inr (inr is)) rest = inr (rest (inr is))

rising_among : (m : ℕ) (lits : List ℕ) → Among m (rising lits) → Among m lits × (0 < m)
rising_among m [] is = absurd is
rising_among m (zero ∷ lits) is = let more : Among m lits × (0 < m) = rising_among m lits is in (inr more.0, more.1)
rising_among m (suc l ∷ lits) is = elim (placed_among (suc l) m (rising lits) is) [
  | inl e ↦ (inl e, (let f : suc l ≡ m = e in omega arith))
  | inr there ↦ let more : Among m lits × (0 < m) = rising_among m lits there in (inr more.0, more.1)
]

among_rising : (m : ℕ) (lits : List ℕ) → Among m lits → 0 < m → Among m (rising lits)
among_rising m [] is h = absurd is
among_rising m (zero ∷ lits) (inl e) h = let f : 0 ≡ m = e in absurd (omega arith)
among_rising m (zero ∷ lits) (inr is) h = among_rising m lits is h
among_rising m (suc l ∷ lits) (inl e) h = among_placed (suc l) m (rising lits) (inl e)
among_rising m (suc l ∷ lits) (inr is) h = among_placed (suc l) m (rising lits) (inr (among_rising m lits is h))

-- a test at one of a list, and at all
any_true : (P : ℕ → Bool) (n : ℕ) (ns : List ℕ) → Among n ns → P n ≡ true → list_any P ns ≡ true
any_true P n [] is h = absurd is
any_true P n (m ∷ ms) (inl e) h = or_left (P m) (list_any P ms) (ap P e ∙ h)
any_true P n (m ∷ ms) (inr is) h = or_right (P m) (list_any P ms) (any_true P n ms is h)

record Passes (P : ℕ → Bool) (ns : List ℕ) : Type 0 where
  pub at : ℕ
  pub is : Among at ns
  pub passes : P at ≡ true

any_among : (P : ℕ → Bool) (ns : List ℕ) → list_any P ns ≡ true → Passes P ns
any_among P [] h = absurd (true≢false (sym h))
any_among P (n ∷ ns) h = by (or_cases (P n) (list_any P ns) h) (any_among P ns)
  where
    by : (P n ≡ true) ⊎ (list_any P ns ≡ true) → (list_any P ns ≡ true → Passes P ns) → Passes P (n ∷ ns)
    by (inl here) rest = record { at = n; is = inl refl; passes = here }
    by (inr later) rest = let more : Passes P ns = rest later in record { at = more.at; is = inr more.is; passes = more.passes }

-- the literals of one variable
half : (l : ℕ) → (v : ℕ) × ((l / 2 ≡ v) × (((l ≡ 2 * v) ⊎ (l ≡ 2 * v + 1))))
half l = by (form_of l)
  where
    by : Form l → (v : ℕ) × ((l / 2 ≡ v) × (((l ≡ 2 * v) ⊎ (l ≡ 2 * v + 1))))
    by (is_even v e) = (v, (ap (λ k. k / 2) e ∙ double_div v, inl e))
    by (is_odd v e) = (v, (ap (λ k. k / 2) e ∙ odd_div v, inr e))

same_variable : (a b : ℕ) → a / 2 ≡ b / 2 → (a ≡ b) ⊎ (opposite a ≡ b)
same_variable a b same = by (half a) (half b)
  where
    by : (v : ℕ) × ((a / 2 ≡ v) × (((a ≡ 2 * v) ⊎ (a ≡ 2 * v + 1)))) → (w : ℕ) × ((b / 2 ≡ w) × (((b ≡ 2 * w) ⊎ (b ≡ 2 * w + 1)))) → (a ≡ b) ⊎ (opposite a ≡ b)
    by (v, (hv, inl ea)) (w, (hw, inl eb)) = inl (ea ∙ ap (λ k. 2 * k) (sym hv ∙ same ∙ hw) ∙ sym eb)
    by (v, (hv, inr ea)) (w, (hw, inr eb)) = inl (ea ∙ ap (λ k. 2 * k + 1) (sym hv ∙ same ∙ hw) ∙ sym eb)
    by (v, (hv, inl ea)) (w, (hw, inr eb)) = inr (ap opposite ea ∙ opposite_even v ∙ ap (λ k. 2 * k + 1) (sym hv ∙ same ∙ hw) ∙ sym eb)
    by (v, (hv, inr ea)) (w, (hw, inl eb)) = inr (ap opposite ea ∙ opposite_odd v ∙ ap (λ k. 2 * k) (sym hv ∙ same ∙ hw) ∙ sym eb)

negated_opposite : (l : ℕ) → literal_of (opposite l) ≡ negated (literal_of l)
negated_opposite l = by (form_of l)
  where
    at_even : (v : ℕ) → literal_of (2 * v + 1) ≡ negated (literal_of (2 * v))
    at_even v = λ i. record {
      var = (odd_div v ∙ sym (double_div v)) i;
      positive = (ap (λ r. nat_eq r 0) (odd_mod v) ∙ sym (ap (λ r. not (nat_eq r 0)) (double_mod v))) i;
    }

    at_odd : (v : ℕ) → literal_of (2 * v) ≡ negated (literal_of (2 * v + 1))
    at_odd v = λ i. record {
      var = (double_div v ∙ sym (odd_div v)) i;
      positive = (ap (λ r. nat_eq r 0) (double_mod v) ∙ sym (ap (λ r. not (nat_eq r 0)) (odd_mod v))) i;
    }

    by : Form l → literal_of (opposite l) ≡ negated (literal_of l)
    by (is_even v e) = subst (λ k. literal_of (opposite k) ≡ negated (literal_of k)) (sym e) (ap literal_of (opposite_even v) ∙ at_even v)
    by (is_odd v e) = subst (λ k. literal_of (opposite k) ≡ negated (literal_of k)) (sym e) (ap literal_of (opposite_odd v) ∙ at_odd v)

big_opposite : (l : ℕ) → 1 < l → 1 < opposite l
big_opposite l h = by (form_of l)
  where
    by : Form l → 1 < opposite l
    by (is_even v e) = let k : l ≡ 2 * v = e in let o : opposite l ≡ 2 * v + 1 = ap opposite e ∙ opposite_even v in omega arith
    by (is_odd v e) = let k : l ≡ 2 * v + 1 = e in let o : opposite l ≡ 2 * v = ap opposite e ∙ opposite_odd v in omega arith

-- a literal put into a rising list of other variables keeps it rising
up_placed : (l n : ℕ) (ms : List ℕ) → IsRisingFrom n (map literal_of ms) → n < l / 2 → ((m : ℕ) → Among m ms → l / 2 ≡ m / 2 → l ≡ m)
    → IsRisingFrom n (map literal_of (placed l ms))
up_placed l n [] up low apart = (low, tt)
up_placed l n (m ∷ ms) up low apart =
    cond_both (nat_eq l m) (m ∷ ms) (cond (nat_lt l m) (l ∷ m ∷ ms) (m ∷ placed l ms)) (λ xs. IsRisingFrom n (map literal_of xs)) (λ _. up)
    (λ other. cond_both (nat_lt l m) (l ∷ m ∷ ms) (m ∷ placed l ms) (λ xs. IsRisingFrom n (map literal_of xs))
    (λ less. (low, (below (ltb-true l m less) (eqb-false l m other), up.1)))
    (λ more. (up.0, up_placed l (m / 2) ms up.1 (above (ltb-false l m more) (eqb-false l m other)) (λ k is. apart k (inr is)))))
  where
    halves : (k : ℕ) → (2 * (k / 2) + k % 2 ≡ k) × (k % 2 < 2)
    halves k = (div-add-mod k 2, mod-lt k (omega arith))

    below : l < m → (l ≡ m → ⊥) → l / 2 < m / 2
    below h ne = elim (cases_lt (l / 2) (m / 2)) [
      | inl less ↦ less
      | inr ge ↦
          let a : 2 * (l / 2) + l % 2 ≡ l = (halves l).0 in let b : 2 * (m / 2) + m % 2 ≡ m = (halves m).0 in
          let c : l % 2 < 2 = (halves l).1 in let d : m % 2 < 2 = (halves m).1 in
          let g : m / 2 ≤ l / 2 = ge in
          let same : l / 2 ≡ m / 2 = omega arith in absurd (ne (apart m (inl refl) same))
    ]

    above : m ≤ l → (l ≡ m → ⊥) → m / 2 < l / 2
    above h ne = elim (cases_lt (m / 2) (l / 2)) [
      | inl less ↦ less
      | inr ge ↦
          let a : 2 * (l / 2) + l % 2 ≡ l = (halves l).0 in let b : 2 * (m / 2) + m % 2 ≡ m = (halves m).0 in
          let c : l % 2 < 2 = (halves l).1 in let d : m % 2 < 2 = (halves m).1 in
          let g : l / 2 ≤ m / 2 = ge in
          let same : l / 2 ≡ m / 2 = omega arith in absurd (ne (apart m (inl refl) same))
    ]

up_rising : (ls : List ℕ) → ((a b : ℕ) → Among a ls → Among b ls → a / 2 ≡ b / 2 → a ≡ b) → ((a : ℕ) → Among a ls → a ≢ 1) → IsClause (map literal_of (rising ls))
up_rising [] apart others = tt
up_rising (zero ∷ ls) apart others = up_rising ls (λ a b is there. apart a b (inr is) (inr there)) (λ a is. others a (inr is))
up_rising (suc l ∷ ls) apart others =
    up_placed (suc l) 0 (rising ls) (up_rising ls (λ a b is there. apart a b (inr is) (inr there)) (λ a is. others a (inr is))) low
    (λ m is same. apart (suc l) m (inl refl) (inr (rising_among m ls is).0) same)
  where
    low : 0 < suc l / 2
    low =
        let ne : suc l ≢ 1 = others (suc l) (inl refl) in
        let d : 2 * (suc l / 2) + suc l % 2 ≡ suc l = div-add-mod (suc l) 2 in
        let r : suc l % 2 < 2 = mod-lt (suc l) (omega arith) in
        omega arith

module _ (lits : List ℕ) (no_one : list_any (λ l. nat_eq l 1) lits ≡ false) where
  abbrev kept : List Literal
  kept = map literal_of (filter (nat_lt 1) lits)

  abbrev has_opposite : ℕ → Bool
  has_opposite l = nat_eq l 1 || list_any (nat_eq (opposite l)) lits

  not_one : (l : ℕ) → Among l lits → l ≢ 1
  not_one l is e = true≢false (sym (any_true (λ l. nat_eq l 1) l lits is (eq-eqb l 1 e)) ∙ no_one)

  validated : (l : ℕ) → Among l lits → Among (opposite l) lits → is_valid lits ≡ true
  validated l is there =
      any_true has_opposite l lits is (or_right (nat_eq l 1) (list_any (nat_eq (opposite l)) lits) (any_true (nat_eq (opposite l)) (opposite l) lits there (eq-eqb (opposite l) (opposite l) refl)))

  -- the two literals that make it valid are in the kept ones
  kept_twice : is_valid lits ≡ true → IsTautology kept
  kept_twice valid = by (any_among has_opposite lits valid)
    where
      two : (l : ℕ) → Among l lits → Among (opposite l) lits → IsTautology kept
      two zero is there = absurd (not_one 1 there refl)
      two (suc zero) is there = absurd (not_one 1 is refl)
      two (suc (suc l)) is there =
          let big : 1 < suc (suc l) = omega arith in
          let first : Contains kept (literal_of (suc (suc l))) =
          contains_among (literal_of (suc (suc l))) kept (map_among (suc (suc l)) (filter (nat_lt 1) lits) (filter_among (suc (suc l)) lits is big)) in
          let second : Contains kept (negated (literal_of (suc (suc l)))) =
          subst (Contains kept) (negated_opposite (suc (suc l)))
          (contains_among (literal_of (opposite (suc (suc l)))) kept (map_among (opposite (suc (suc l))) (filter (nat_lt 1) lits) (filter_among (opposite (suc (suc l))) lits there (big_opposite (suc (suc l)) big)))) in
          (first.0, literal_of (suc (suc l)), first.1, first.2, second)

      by : Passes has_opposite lits → IsTautology kept
      by found = elim (or_cases (nat_eq found.at 1) (list_any (nat_eq (opposite found.at)) lits) found.passes) [
        | inl one ↦ absurd (not_one found.at found.is (eqb-true found.at 1 one))
        | inr some ↦
            let other : Passes (nat_eq (opposite found.at)) lits = any_among (nat_eq (opposite found.at)) lits some in
            two found.at found.is (subst (λ m. Among m lits) (sym (eqb-true (opposite found.at) other.at other.passes)) other.is)
      ]

  opposites_stand : IsTautology kept → is_valid lits ≡ true
  opposites_stand any =
      let l : Literal = any.1 in
      let first : Mapped any.1 (filter (nat_lt 1) lits) = mapped any.1 (filter (nat_lt 1) lits) (among_at any.1 kept any.0 any.2 any.3) in
      let second : Mapped (negated any.1) (filter (nat_lt 1) lits) = mapped (negated any.1) (filter (nat_lt 1) lits) (among_contains (negated any.1) kept any.4) in
      let a : ℕ = first.from in
      let b : ℕ = second.from in
      let same : a / 2 ≡ b / 2 = ap (λ (k : Literal). k.var) (first.same) ∙ sym (ap (λ (k : Literal). k.var) second.same) in
      elim (same_variable a b same) [
        | inl e ↦ absurd (unlike any.1.positive (ap (λ (k : Literal). k.positive) (sym first.same ∙ ap literal_of e ∙ second.same)))
        | inr e ↦ validated a (filtered a lits first.is).0 (subst (λ m. Among m lits) (sym e) (filtered b lits second.is).0)
      ]
    where
      unlike : (b : Bool) → b ≡ not b → ⊥
      unlike true e = true≢false e
      unlike false e = true≢false (sym e)

  pub made_none : IsTautology kept → made lits ≡ []
  made_none any = cond-true (is_valid lits) [] (map literal_of (rising lits) ∷ []) (opposites_stand any)

  pub made_clause : ClausesAreSets → (IsTautology kept → ⊥) → (clause : List Literal) → IsClauseOf kept clause → made lits ≡ clause ∷ []
  made_clause sets no_twins clause is =
      cond-false (is_valid lits) [] (map literal_of (rising lits) ∷ []) ordinary
      ∙ ap (λ c. c ∷ []) (sets.one_order (map literal_of (rising lits)) clause sorted is.sorted (λ l. (to l, from l)))
    where
      ordinary : is_valid lits ≡ false
      ordinary = false_from_ne_true (is_valid lits) (λ valid. no_twins (kept_twice valid))

      apart : (a b : ℕ) → Among a lits → Among b lits → a / 2 ≡ b / 2 → a ≡ b
      apart a b here there same = elim (same_variable a b same) [
        | inl e ↦ e
        | inr e ↦ absurd (true≢false (sym (validated a here (subst (λ m. Among m lits) (sym e) there)) ∙ ordinary))
      ]

      sorted : IsClause (map literal_of (rising lits))
      sorted = up_rising lits apart not_one

      to : (l : Literal) → Contains (map literal_of (rising lits)) l → Contains clause l
      to l there =
          let found : Mapped l (rising lits) = mapped l (rising lits) (among_contains l (map literal_of (rising lits)) there) in
          let stands : Among found.from lits × (0 < found.from) = rising_among found.from lits found.is in
          let some : 0 < found.from = stands.1 in
          let ne : found.from ≢ 1 = not_one found.from stands.0 in
          (is.same_literals l).1 (subst (Contains kept) found.same
          (contains_among (literal_of found.from) kept (map_among found.from (filter (nat_lt 1) lits) (filter_among found.from lits stands.0 (omega arith)))))

      from : (l : Literal) → Contains clause l → Contains (map literal_of (rising lits)) l
      from l there =
          let found : Mapped l (filter (nat_lt 1) lits) = mapped l (filter (nat_lt 1) lits) (among_contains l kept ((is.same_literals l).0 there)) in
          let stands : Among found.from lits × (1 < found.from) = filtered found.from lits found.is in
          let big : 1 < found.from = stands.1 in
          subst (Contains (map literal_of (rising lits))) found.same
          (contains_among (literal_of found.from) (map literal_of (rising lits)) (map_among found.from (rising lits) (among_rising found.from lits stands.0 (omega arith))))

-- where 1 stands nothing is made
pub made_true : (lits : List ℕ) → list_any (λ l. nat_eq l 1) lits ≡ true → made lits ≡ []
made_true lits one = cond-true (is_valid lits) [] (map literal_of (rising lits) ∷ []) (by (any_among (λ l. nat_eq l 1) lits one))
  where
    by : Passes (λ l. nat_eq l 1) lits → is_valid lits ≡ true
    by found = any_true (λ l. nat_eq l 1 || list_any (nat_eq (opposite l)) lits) found.at lits found.is (or_left (nat_eq found.at 1) (list_any (nat_eq (opposite found.at)) lits) found.passes)

-- what `Clause::new` answers, and what is made
pub added_clause : ClausesAreSets → (lits : List ℕ) (shown clause : List Literal) (old new : List (List Literal)) → list_any (λ l. nat_eq l 1) lits ≡ false
    → shown ≡ map literal_of (filter (nat_lt 1) lits) → (IsTautology shown → ⊥) → IsClauseOf shown clause → new ≡ old ++ clause ∷ [] → new ≡ old ++ made lits
added_clause sets lits shown clause old new no_one same no_twins is grown =
    grown
    ∙ ap (λ more. old ++ more)
    (sym (made_clause lits no_one sets (subst (λ k. IsTautology k → ⊥) same no_twins) clause (subst (λ k. IsClauseOf k clause) same is)))

pub added_none : (lits : List ℕ) (shown : List Literal) (old : List (List Literal)) → list_any (λ l. nat_eq l 1) lits ≡ false
    → shown ≡ map literal_of (filter (nat_lt 1) lits) → IsTautology shown → old ≡ old ++ made lits
added_none lits shown old no_one same twins =
    sym (append-nil old) ∙ ap (λ more. old ++ more) (sym (made_none lits no_one (subst IsTautology same twins)))

pub added_true : (lits : List ℕ) (old : List (List Literal)) → list_any (λ l. nat_eq l 1) lits ≡ true → old ≡ old ++ made lits
added_true lits old one = sym (append-nil old) ∙ ap (λ more. old ++ more) (sym (made_true lits one))

pub none_bad : (vars : ℕ) (lits : List ℕ) (shown : List Literal) → All (λ l. l ≤ 2 * vars + 1) lits → shown ≡ map literal_of (filter (nat_lt 1) lits)
    → HasBadVariable vars shown → ⊥
none_bad vars lits shown within same bad = by (subst (HasBadVariable vars) same bad)
  where
    by : HasBadVariable vars (map literal_of (filter (nat_lt 1) lits)) → ⊥
    by any =
        let found : Mapped any.1 (filter (nat_lt 1) lits) =
        mapped any.1 (filter (nat_lt 1) lits) (among_at any.1 (map literal_of (filter (nat_lt 1) lits)) any.0 any.2 any.3) in
        let a : ℕ = found.from in
        let stands : Among a lits × (1 < a) = filtered a lits found.is in
        let small : a ≤ 2 * vars + 1 = All-contains (λ l. l ≤ 2 * vars + 1) lits a within (contains_among a lits stands.0) in
        let e : a / 2 ≡ any.1.var = ap (λ (l : Literal). l.var) found.same in
        let large : vars < any.1.var = any.4 in
        let d : 2 * (a / 2) + a % 2 ≡ a = div-add-mod a 2 in
        omega arith
