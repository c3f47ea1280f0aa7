-- What follows stays so in a longer list, and is implied.
use Rattle.std.proofs.Common.{◌≡◌, ℕ, suc, zero, ◌-◌, ◌<◌, ◌≤◌, ◌≢◌, Bool, true, false, not, nat_eq, cond, List, [], ◌∷◌, ◌++◌, Option, Some, None, map, slice_get, length, All, refl, sym, ap, ◌∙◌, true≢false, arith}
use Rattle.std.specs.Cmp.{first_so, second_so}
use Rattle.std.specs.Option.{option_map_or, option_and_then}
use Rattle.std.proofs.lemmas.List.Elements.{All-nil, All-cons}
use Rattle.std.proofs.lemmas.Option.{slice_get_within}
use Rattle.std.proofs.lemmas.Bool.Decides.{Decides-eqb}
use Rattle.std.proofs.lemmas.Bool.{or_parts}
use Rattle.std_lemmas.proofs.Options.{chained_some}
use Rattle.std_lemmas.proofs.Lists.{slice_get-append}
use Rattle.propositional_logic.specs.Literal.{Literal, negated}
use Rattle.propositional_logic.specs.Truth.{is_true_literal, is_true_clause, meets}
use Rattle.propositional_logic.specs.Partial.{is_falsified, unit_of, AgreesWith}
use Rattle.propositional_logic.proofs.Tests.{is_true_literal-negated, falsified_is_false, unit_is_true}
use Rattle.refutation_log.specs.Follows.{clause_named, unit_named, leads_to_conflict, Follows}

-- what stands behind a test of an option
behind_test : {X : Type 0} (f : X → Bool) (o : Option X) → option_map_or f o false ≡ true → (x : X) × (o ≡ Some x) × (f x ≡ true)
behind_test f None h = absurd (true≢false (sym h))
behind_test f (Some x) h = (x, refl, h)

-- ---- longer lists

pub clause_named-append : (clauses more : List (List Literal)) (n : ℕ) (c : List Literal) → clause_named clauses n ≡ Some c → clause_named (clauses ++ more) n ≡ Some c
clause_named-append clauses more n c h = by (nat_eq n 0) h
  where
    by : (b : Bool) → cond b None (slice_get clauses (n - 1)) ≡ Some c → cond b None (slice_get (clauses ++ more) (n - 1)) ≡ Some c
    by true k = k
    by false k = slice_get-append clauses more (n - 1) c k

unit_named-append : (clauses more : List (List Literal)) (trues : List Literal) (n : ℕ) (l : Literal) → unit_named clauses trues n ≡ Some l → unit_named (clauses ++ more) trues n ≡ Some l
unit_named-append clauses more trues n l h =
    let k = chained_some (unit_of trues) (clause_named clauses n) l h in
    ap (option_and_then (unit_of trues)) (clause_named-append clauses more n k.0 k.1) ∙ k.2

leads-append : (clauses more : List (List Literal)) (trues : List Literal) (hints : List ℕ) → leads_to_conflict clauses trues hints ≡ true → leads_to_conflict (clauses ++ more) trues hints ≡ true
leads-append clauses more trues [] h = h
leads-append clauses more trues (n ∷ []) h =
    let k = behind_test (is_falsified trues) (clause_named clauses n) h in
    ap (λ o. option_map_or (is_falsified trues) o false) (clause_named-append clauses more n k.0 k.1) ∙ k.2
leads-append clauses more trues (n ∷ m ∷ hints) h =
    let k = behind_test (λ l. leads_to_conflict clauses (l ∷ trues) (m ∷ hints)) (unit_named clauses trues n) h in
    ap (λ o. option_map_or (λ l. leads_to_conflict (clauses ++ more) (l ∷ trues) (m ∷ hints)) o false) (unit_named-append clauses more trues n k.0 k.1)
    ∙ leads-append clauses more (k.0 ∷ trues) (m ∷ hints) k.2

pub Follows-append : (clauses more : List (List Literal)) (clause : List Literal) (hints : List ℕ) → Follows clauses clause hints → Follows (clauses ++ more) clause hints
Follows-append clauses more clause hints h = leads-append clauses more (map negated clause) hints h

-- ---- what follows is implied

pub met : (values : List Bool) (clauses : List (List Literal)) (i : ℕ) (c : List Literal) → meets values clauses ≡ true → slice_get clauses i ≡ Some c → is_true_clause values c ≡ true
met values [] i c m h = absurd (cc)
met values (d ∷ clauses) zero c m h = let s : d ≡ c = cc in ap (is_true_clause values) (sym s) ∙ first_so (is_true_clause values d) (meets values clauses) m
met values (d ∷ clauses) (suc i) c m h = met values clauses i c (second_so (is_true_clause values d) (meets values clauses) m) h

met_named : (values : List Bool) (clauses : List (List Literal)) (n : ℕ) (c : List Literal) → meets values clauses ≡ true → clause_named clauses n ≡ Some c → is_true_clause values c ≡ true
met_named values clauses n c m h = by (nat_eq n 0) h
  where
    by : (b : Bool) → cond b None (slice_get clauses (n - 1)) ≡ Some c → is_true_clause values c ≡ true
    by true k = absurd (cc)
    by false k = met values clauses (n - 1) c m k

no_conflict : (values : List Bool) (clauses : List (List Literal)) (trues : List Literal) (hints : List ℕ) → meets values clauses ≡ true → AgreesWith values trues
    → leads_to_conflict clauses trues hints ≡ true → ⊥
no_conflict values clauses trues [] m a h = true≢false (sym h)
no_conflict values clauses trues (n ∷ []) m a h =
    let k = behind_test (is_falsified trues) (clause_named clauses n) h in
    true≢false (sym (met_named values clauses n k.0 m k.1) ∙ falsified_is_false values trues k.0 a k.2)
no_conflict values clauses trues (n ∷ o ∷ hints) m a h =
    let k = behind_test (λ l. leads_to_conflict clauses (l ∷ trues) (o ∷ hints)) (unit_named clauses trues n) h in
    let u = chained_some (unit_of trues) (clause_named clauses n) k.0 k.1 in
    no_conflict values clauses (k.0 ∷ trues) (o ∷ hints) m (unit_is_true values trues u.0 k.0 a u.2 (met_named values clauses n u.0 m u.1)) k.2

-- where a clause is false, the opposites of its literals are true
false_agrees : (values : List Bool) (clause : List Literal) → is_true_clause values clause ≡ false → AgreesWith values (map negated clause)
false_agrees values [] h = All-nil (λ l. is_true_literal values l ≡ true)
false_agrees values (l ∷ clause) h =
    let k = or_parts (is_true_literal values l) (is_true_clause values clause) h in
    All-cons (λ l. is_true_literal values l ≡ true) (negated l) (map negated clause) (is_true_literal-negated values l ∙ ap not k.0) (false_agrees values clause k.1)

pub Follows-implied : (values : List Bool) (clauses : List (List Literal)) (clause : List Literal) (hints : List ℕ)
    → Follows clauses clause hints → meets values clauses ≡ true → is_true_clause values clause ≡ true
Follows-implied values clauses clause hints h m = by (is_true_clause values clause) refl
  where
    by : (b : Bool) → is_true_clause values clause ≡ b → b ≡ true
    by true e = refl
    by false e = absurd (no_conflict values clauses (map negated clause) hints m (false_agrees values clause e) h)

-- ---- the clauses that hints name

named : (clauses : List (List Literal)) (n : ℕ) (c : List Literal) → clause_named clauses n ≡ Some c → (0 < n) × (n ≤ length clauses)
named clauses n c h = by (nat_eq n 0) refl h
  where
    by : (b : Bool) → nat_eq n 0 ≡ b → cond b None (slice_get clauses (n - 1)) ≡ Some c → (0 < n) × (n ≤ length clauses)
    by true e k = absurd (cc)
    by false e k =
        let lt = slice_get_within clauses (n - 1) c k in
        let some : n ≢ 0 = λ z. true≢false (sym ((Decides-eqb n 0).1 z) ∙ e) in
        (omega arith, omega (arith, lt))

pub hints-named : (clauses : List (List Literal)) (trues : List Literal) (hints : List ℕ) → leads_to_conflict clauses trues hints ≡ true
    → All (λ n. (0 < n) × (n ≤ length clauses)) hints
hints-named clauses trues [] h = absurd (true≢false (sym h))
hints-named clauses trues (n ∷ []) h =
    let k = behind_test (is_falsified trues) (clause_named clauses n) h in
    All-cons (λ m. (0 < m) × (m ≤ length clauses)) n [] (named clauses n k.0 k.1) (All-nil (λ m. (0 < m) × (m ≤ length clauses)))
hints-named clauses trues (n ∷ m ∷ hints) h =
    let k = behind_test (λ l. leads_to_conflict clauses (l ∷ trues) (m ∷ hints)) (unit_named clauses trues n) h in
    let c = chained_some (unit_of trues) (clause_named clauses n) k.0 k.1 in
    All-cons (λ j. (0 < j) × (j ≤ length clauses)) n (m ∷ hints) (named clauses n c.0 c.1) (hints-named clauses (k.0 ∷ trues) (m ∷ hints) k.2)
