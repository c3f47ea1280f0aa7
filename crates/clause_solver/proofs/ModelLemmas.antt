-- A trail on which each variable has a value, as an assignment.
use Rattle.std.proofs.Common.{◌≡◌, ℕ, ◌+◌, ◌-◌, ◌<◌, ◌≤◌, Bool, true, false, not, ◌&&◌, List, [], ◌∷◌, ◌++◌, inl, inr, Option, Some, None, is_some, unwrap_or, take, get_or, slice_get, length, Contains, All, refl, sym, subst, ap, ◌∙◌, true≢false, arith}
use Rattle.std.specs.Prelude.{IfSome, IfNone}
use Rattle.std.specs.List.{list_all}
use Rattle.std.proofs.lemmas.Bool.{cases_lt}
use Rattle.std.proofs.lemmas.List.{take_all, take_more}
use Rattle.std.proofs.lemmas.List.Elements.{All-contains, All-push}
use Rattle.std.proofs.lemmas.Option.{slice_get-get_or}
use Rattle.std_lemmas.proofs.Lists.{Contains-head, Contains-later, Contains-slice_get, any_holds}
use Rattle.propositional_logic.specs.Literal.{Literal, negated, sign_eq}
use Rattle.propositional_logic.specs.Clause.{IsClause, IsWithinVariables}
use Rattle.propositional_logic.specs.Partial.{is_false_in, is_falsified}
use Rattle.propositional_logic.specs.Truth.{value_of, is_true_literal, is_true_clause, meets}
use Rattle.propositional_logic.proofs.Rising.{rising_above}
use Rattle.propositional_logic.proofs.Tests.{Decides-all, Decides-is_true_in}
use Rattle.unit_propagate.specs.declared.marks.Mark.{Mark}
use Rattle.unit_propagate.specs.Trail.{IsFree, literals_of}
use Rattle.unit_propagate.specs.Quiet.{IsQuiet}
use Rattle.unit_propagate.proofs.Places.{slice_get-front, slice_get-last}
use Rattle.unit_propagate.proofs.TrailLemmas.{free-no_literal}
use Rattle.clause_solver.specs.Free.{IsTotal}

-- The values agree with the trail in the variables 1 to n.
pub record AreValues (marks : List Mark) (n : ℕ) (values : List Bool) : Type 0 where
  pub count : length values ≡ n
  pub agree : (var : ℕ) → 0 < var → var ≤ n → Contains (literals_of marks) (record { var = var; positive = value_of values var })

valued : (marks : List Mark) (vars var : ℕ) (o : Option Bool) → IsTotal vars marks → 0 < var → var ≤ vars
    → IfSome o (λ sign. Contains (literals_of marks) (record { var = var; positive = sign })) → IfNone o (IsFree marks var)
    → Contains (literals_of marks) (record { var = var; positive = unwrap_or o false })
valued marks vars var (Some sign) t low high some none = some
valued marks vars var None t low high some none = absurd (t var low high none)

pub one_value_more : (marks : List Mark) (vars n : ℕ) (values after : List Bool) (o : Option Bool) → IsTotal vars marks → n < vars → AreValues marks n values → after ≡ values ++ (unwrap_or o false) ∷ []
    → IfSome o (λ sign. Contains (literals_of marks) (record { var = n + 1; positive = sign })) → IfNone o (IsFree marks (n + 1)) → AreValues marks (n + 1) after
one_value_more marks vars n values after o t within v is some none = record {
  count = ap length is ∙ length-more values (unwrap_or o false) ∙ ap (λ k. k + 1) v.count;
  agree = λ var low high. elim (cases_lt n var) [
    | inl lt ↦
        let e : var ≡ n + 1 = omega arith in
        let last : value_of after var ≡ unwrap_or o false = ap (λ xs. value_of xs var) is ∙ ap (λ k. unwrap_or (slice_get (values ++ (unwrap_or o false) ∷ []) k) false) (place var e) ∙ ap (λ x. unwrap_or x false) (slice_get-last values (unwrap_or o false)) in
        let there : Contains (literals_of marks) (record { var = n + 1; positive = unwrap_or o false }) = valued marks vars (n + 1) o t (omega arith) (omega arith) some none in
        subst (Contains (literals_of marks)) (λ i. record { var = sym e i; positive = sym last i }) there
    | inr ge ↦
        let c : length values ≡ n = v.count in
        let old : value_of after var ≡ value_of values var = ap (λ xs. value_of xs var) is ∙ ap (λ x. unwrap_or x false) (slice_get-front values ((unwrap_or o false) ∷ []) (var - 1) (omega arith)) in
        subst (λ b. Contains (literals_of marks) (record { var = var; positive = b })) (sym old) (v.agree var low ge)
  ];
}
  where
    length-more : (xs : List Bool) (x : Bool) → length (xs ++ x ∷ []) ≡ length xs + 1
    length-more [] x = refl
    length-more (y ∷ ys) x = let h : length (ys ++ x ∷ []) ≡ length ys + 1 = length-more ys x in omega arith

    place : (var : ℕ) → var ≡ n + 1 → var - 1 ≡ length values
    place var e = let c : length values ≡ n = v.count in omega arith

-- ---- a clause that isn't falsified is true

not_all : {X : Type 0} (p : X → Bool) (xs : List X) → list_all p xs ≡ false → (x : X) × Contains xs x × (p x ≡ false)
not_all p [] h = absurd (true≢false h)
not_all {X = X} p (x ∷ xs) h = by (p x) refl (not_all p xs) h
  where
    by : (b : Bool) → p x ≡ b → (list_all p xs ≡ false → (y : X) × Contains xs y × (p y ≡ false)) → (b && list_all p xs) ≡ false → (y : X) × Contains (x ∷ xs) y × (p y ≡ false)
    by true e rest r = let k = rest r in (k.0, Contains-later x xs k.0 k.1, k.2)
    by false e rest r = (x, Contains-head x xs, e)

other_sign : (a b : Bool) → sign_eq a b ≡ false → b ≡ not a
other_sign true b h = h
other_sign false true h = refl
other_sign false false h = absurd (true≢false h)

true_unless_false : (marks : List Mark) (values : List Bool) (l : Literal) → Contains (literals_of marks) (record { var = l.var; positive = value_of values l.var }) → is_false_in (literals_of marks) l ≡ false
    → is_true_literal values l ≡ true
true_unless_false marks values l there open_now = by (is_true_literal values l) refl
  where
    by : (b : Bool) → is_true_literal values l ≡ b → b ≡ true
    by true e = refl
    by false e =
        let s : value_of values l.var ≡ not l.positive = other_sign l.positive (value_of values l.var) e in
        let c : Contains (literals_of marks) (negated l) = subst (λ b. Contains (literals_of marks) (record { var = l.var; positive = b })) s there in
        absurd (true≢false (sym ((Decides-is_true_in (literals_of marks) (negated l)).1 c) ∙ open_now))

pub true_clause : (vars : ℕ) (marks : List Mark) (values : List Bool) (clause : List Literal) → AreValues marks vars values → IsClause clause → IsWithinVariables vars clause → is_falsified (literals_of marks) clause ≡ false
    → is_true_clause values clause ≡ true
true_clause vars marks values clause v sorted within open_now =
    let k = not_all (is_false_in (literals_of marks)) clause open_now in
    let low : 0 < k.0.var = rising_above 0 clause k.0 sorted k.1 in
    let high : k.0.var ≤ vars = All-contains (λ (l : Literal). l.var ≤ vars) clause k.0 within k.1 in
    any_holds (is_true_literal values) clause k.0 k.1 (true_unless_false marks values k.0 (v.agree k.0.var low high) k.2)

-- each of the clauses is true, so all are met
pub all_met : (values : List Bool) (base : List (List Literal)) (n : ℕ) → length base ≤ n → All (λ c. is_true_clause values c ≡ true) (take n base) → meets values base ≡ true
all_met values base n le h =
    (Decides-all (is_true_clause values) (λ c. is_true_clause values c ≡ true) (λ c. (λ e. e, λ e. e)) base).1 (subst (All (λ c. is_true_clause values c ≡ true)) (take_all n base le) h)

-- a variable that is looked up has a value
pub not_free : (marks : List Mark) (var : ℕ) (o : Option Bool) → IfSome o (λ sign. Contains (literals_of marks) (record { var = var; positive = sign })) → is_some o ≡ true → IsFree marks var → ⊥
not_free marks var (Some sign) some found free = free-no_literal marks (record { var = var; positive = sign }) free some
not_free marks var None some found free = absurd (true≢false (sym found))

pub total_more : (marks : List Mark) (n : ℕ) → IsTotal n marks → (IsFree marks (n + 1) → ⊥) → IsTotal (n + 1) marks
total_more marks n t last var low high free = elim (cases_lt n var) [
  | inl lt ↦ (let e : var ≡ n + 1 = omega arith in last (subst (IsFree marks) e free))
  | inr ge ↦ t var low ge free
]

-- one clause more is true
pub next_true : (vars : ℕ) (marks : List Mark) (values : List Bool) (base clauses : List (List Literal)) (i : ℕ) (c : List Literal) → clauses ≡ base → i < length clauses → c ≡ get_or clauses i c
    → AreValues marks vars values → All (IsWithinVariables vars) base → IsQuiet base (literals_of marks) → IsClause c
    → All (λ d. is_true_clause values d ≡ true) (take i clauses) → All (λ d. is_true_clause values d ≡ true) (take (i + 1) clauses)
next_true vars marks values base clauses i c same lt at v within quiet sorted all =
    let found : slice_get clauses i ≡ Some c = slice_get-get_or clauses i c lt ∙ ap Some (sym at) in
    let member : Contains base c = subst (λ cs. Contains cs c) same (Contains-slice_get clauses i c found) in
    let more : take (i + 1) clauses ≡ take i clauses ++ c ∷ [] = take_more clauses i c lt ∙ ap (λ x. take i clauses ++ x ∷ []) (sym at) in
    subst (All (λ d. is_true_clause values d ≡ true)) (sym more)
    (All-push (λ d. is_true_clause values d ≡ true) (take i clauses) c all
    (true_clause vars marks values c v sorted (All-contains (IsWithinVariables vars) base c within member) (quiet.not_falsified c member)))
