-- When lists of clauses are met, and which literals they have.
use Rattle.std.proofs.Common.{◌≡◌, ℕ, suc, ◌+◌, ◌*◌, ◌≤◌, Bool, true, false, not, ◌&&◌, ◌||◌, List, [], ◌∷◌, ◌++◌, refl, sym, ap, subst, ◌∙◌, arith}
use Rattle.std.specs.Prelude.{map, All, slice_get, Some}
use Rattle.std.specs.List.{flat_map}
use Rattle.std.proofs.lemmas.Bool.{and_from}
use Rattle.std.proofs.lemmas.List.Folds.{list_all-append}
use Rattle.std.proofs.lemmas.List.Elements.{All-nil, All-cons, All-head, All-tail, All-append, All-weaker}
use Rattle.std.proofs.lemmas.List.{map-id}
use Rattle.aiger_text.specs.Circuit.{Valuation, literal_value}
use Rattle.truth_witness.specs.Clauses.{opposite, equal, conjoined}
use Rattle.truth_witness.specs.Frames.{numbered}
use Rattle.truth_witness.specs.Truths.{is_met, are_met}
use Rattle.truth_witness.proofs.Values.{value_opposite, opposite_within}

module _ (values : Valuation) where
  -- both lists are met where each is
  pub met_both : (a b : List (List ℕ)) → are_met values a ≡ true → are_met values b ≡ true → are_met values (a ++ b) ≡ true
  met_both a b ha hb = list_all-append (is_met values) a b ∙ and_from (are_met values a) (are_met values b) ha hb

  pub met_one : (l : ℕ) → literal_value values l ≡ true → are_met values ((l ∷ []) ∷ []) ≡ true
  met_one l h = λ i. (h i || false) && true

  -- two literals with one value
  pub met_equal : (x y : ℕ) → literal_value values x ≡ literal_value values y → are_met values (equal x y) ≡ true
  met_equal x y e =
      (λ i. (((value_opposite values x ∙ ap not e) i) || (literal_value values y || false)) && (((e i) || (value_opposite values y i || false)) && true))
      ∙ by (literal_value values y)
    where
      by : (b : Bool) → ((not b || (b || false)) && ((b || (not b || false)) && true)) ≡ true
      by true = refl
      by false = refl

  -- a literal with the value of a conjunction
  pub met_conjoined : (x a b : ℕ) → literal_value values x ≡ (literal_value values a && literal_value values b) → are_met values (conjoined x a b) ≡ true
  met_conjoined x a b e =
      (λ i. (((value_opposite values x ∙ ap not e) i) || (literal_value values a || false))
      && ((((value_opposite values x ∙ ap not e) i) || (literal_value values b || false))
      && (((e i) || (value_opposite values a i || (value_opposite values b i || false))) && true)))
      ∙ by (literal_value values a) (literal_value values b)
    where
      by : (a b : Bool) → ((not (a && b) || (a || false)) && ((not (a && b) || (b || false)) && (((a && b) || (not a || (not b || false))) && true))) ≡ true
      by true true = refl
      by true false = refl
      by false b = refl

  pub met_each : {X : Type 0} (clauses : X → List (List ℕ)) (xs : List X) → All (λ x. are_met values (clauses x) ≡ true) xs → are_met values (flat_map clauses xs) ≡ true
  met_each clauses [] each = refl
  met_each clauses (x ∷ xs) each =
      met_both (clauses x) (flat_map clauses xs) (All-head (λ x. are_met values (clauses x) ≡ true) x xs each)
      (met_each clauses xs (All-tail (λ x. are_met values (clauses x) ≡ true) x xs each))

  pub met_numbered : {X : Type 0} (clauses : ℕ → X → List (List ℕ)) (n : ℕ) (xs : List X)
      → ((k : ℕ) (x : X) → slice_get xs k ≡ Some x → are_met values (clauses (n + k) x) ≡ true) → are_met values (numbered clauses n xs) ≡ true
  met_numbered clauses n [] each = refl
  met_numbered clauses n (x ∷ xs) each =
      let e : n + 0 ≡ n = omega arith in
      met_both (clauses n x) (numbered clauses (suc n) xs) (ap (λ k. are_met values (clauses k x)) (sym e) ∙ each 0 x refl)
      (met_numbered clauses (suc n) xs (λ k y at. let f : n + suc k ≡ suc n + k = omega arith in ap (λ j. are_met values (clauses j y)) (sym f) ∙ each (suc k) y at))

-- clauses are met alike where their literals have the same values
pub is_met_same : (v w : Valuation) (f : ℕ → ℕ) (lits : List ℕ) → All (λ l. literal_value v (f l) ≡ literal_value w l) lits → is_met v (map f lits) ≡ is_met w lits
is_met_same v w f [] same = refl
is_met_same v w f (l ∷ lits) same =
    λ i. All-head (λ l. literal_value v (f l) ≡ literal_value w l) l lits same i || is_met_same v w f lits (All-tail (λ l. literal_value v (f l) ≡ literal_value w l) l lits same) i

pub is_met_plain : (v w : Valuation) (lits : List ℕ) → All (λ l. literal_value v l ≡ literal_value w l) lits → is_met v lits ≡ is_met w lits
is_met_plain v w lits same = ap (is_met v) (sym (map-id lits)) ∙ is_met_same v w (λ l. l) lits same

pub are_met_mapped : (v w : Valuation) (f : ℕ → ℕ) (top : ℕ) → ((l : ℕ) → l ≤ top → literal_value v (f l) ≡ literal_value w l) → (clauses : List (List ℕ))
    → All (All (λ l. l ≤ top)) clauses → are_met v (map (map f) clauses) ≡ are_met w clauses
are_met_mapped v w f top same [] within = refl
are_met_mapped v w f top same (lits ∷ clauses) within =
    λ i. is_met_same v w f lits (All-weaker (λ l. l ≤ top) (λ l. literal_value v (f l) ≡ literal_value w l) same lits (All-head (All (λ l. l ≤ top)) lits clauses within)) i
    && are_met_mapped v w f top same clauses (All-tail (All (λ l. l ≤ top)) lits clauses within) i

map_same : (xs : List (List ℕ)) → map (map (λ (l : ℕ). l)) xs ≡ xs
map_same [] = refl
map_same (x ∷ xs) = λ i. map-id x i ∷ map_same xs i

pub are_met_same : (v w : Valuation) (top : ℕ) → ((l : ℕ) → l ≤ top → literal_value v l ≡ literal_value w l) → (clauses : List (List ℕ))
    → All (All (λ l. l ≤ top)) clauses → are_met v clauses ≡ are_met w clauses
are_met_same v w top same clauses within = ap (are_met v) (sym (map_same clauses)) ∙ are_met_mapped v w (λ l. l) top same clauses within

-- clauses of literals that are at most an odd number
module _ (n : ℕ) where
  abbrev pub AtMost : ℕ → Type 0
  AtMost l = l ≤ 2 * n + 1

  pub within_one : (l : ℕ) → AtMost l → All (All AtMost) ((l ∷ []) ∷ [])
  within_one l h = All-cons (All AtMost) (l ∷ []) [] (All-cons AtMost l [] h (All-nil AtMost)) (All-nil (All AtMost))

  pub within_two : (l m : ℕ) → AtMost l → AtMost m → All AtMost (l ∷ m ∷ [])
  within_two l m hl hm = All-cons AtMost l (m ∷ []) hl (All-cons AtMost m [] hm (All-nil AtMost))

  pub within_three : (l m k : ℕ) → AtMost l → AtMost m → AtMost k → All AtMost (l ∷ m ∷ k ∷ [])
  within_three l m k hl hm hk = All-cons AtMost l (m ∷ k ∷ []) hl (within_two m k hm hk)

  pub two_clauses : (a b : List ℕ) → All AtMost a → All AtMost b → All (All AtMost) (a ∷ b ∷ [])
  two_clauses a b ha hb = All-cons (All AtMost) a (b ∷ []) ha (All-cons (All AtMost) b [] hb (All-nil (All AtMost)))

  pub three_clauses : (a b c : List ℕ) → All AtMost a → All AtMost b → All AtMost c → All (All AtMost) (a ∷ b ∷ c ∷ [])
  three_clauses a b c ha hb hc = All-cons (All AtMost) a (b ∷ c ∷ []) ha (two_clauses b c hb hc)

  pub within_equal : (x y : ℕ) → AtMost x → AtMost y → All (All AtMost) (equal x y)
  within_equal x y hx hy =
      two_clauses (opposite x ∷ y ∷ []) (x ∷ opposite y ∷ []) (within_two (opposite x) y (opposite_within n x hx) hy) (within_two x (opposite y) hx (opposite_within n y hy))

  pub within_conjoined : (x a b : ℕ) → AtMost x → AtMost a → AtMost b → All (All AtMost) (conjoined x a b)
  within_conjoined x a b hx ha hb =
      three_clauses (opposite x ∷ a ∷ []) (opposite x ∷ b ∷ []) (x ∷ opposite a ∷ opposite b ∷ [])
      (within_two (opposite x) a (opposite_within n x hx) ha) (within_two (opposite x) b (opposite_within n x hx) hb)
      (within_three x (opposite a) (opposite b) hx (opposite_within n a ha) (opposite_within n b hb))

  pub within_each : {X : Type 0} (clauses : X → List (List ℕ)) (xs : List X) → All (λ x. All (All AtMost) (clauses x)) xs → All (All AtMost) (flat_map clauses xs)
  within_each clauses [] each = All-nil (All AtMost)
  within_each clauses (x ∷ xs) each =
      All-append (All AtMost) (clauses x) (flat_map clauses xs) (All-head (λ x. All (All AtMost) (clauses x)) x xs each)
      (within_each clauses xs (All-tail (λ x. All (All AtMost) (clauses x)) x xs each))

  pub within_numbered : {X : Type 0} (clauses : ℕ → X → List (List ℕ)) (k : ℕ) (xs : List X)
      → ((j : ℕ) (x : X) → slice_get xs j ≡ Some x → All (All AtMost) (clauses (k + j) x)) → All (All AtMost) (numbered clauses k xs)
  within_numbered clauses k [] each = All-nil (All AtMost)
  within_numbered clauses k (x ∷ xs) each =
      let e : k + 0 ≡ k = omega arith in
      All-append (All AtMost) (clauses k x) (numbered clauses (suc k) xs) (subst (λ j. All (All AtMost) (clauses j x)) e (each 0 x refl))
      (within_numbered clauses (suc k) xs (λ j y at. let f : k + suc j ≡ suc k + j = omega arith in subst (λ i. All (All AtMost) (clauses i y)) f (each (suc j) y at)))
