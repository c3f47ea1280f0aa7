-- What the tests under a partial assignment mean, and what they say of total assignments.
use Rattle.std.proofs.Common.{◌≡◌, ◌≢◌, ℕ, ◌<◌, Bool, true, false, cond, not, ◌&&◌, ◌||◌, List, [], ◌∷◌, inl, inr, Some, None, Contains, refl, sym, subst, ap, ◌∙◌, true≢false, arith}
use Rattle.std.specs.Prelude.{All, Any}
use Rattle.std.specs.Bool.{Decides}
use Rattle.std.specs.Cmp.{first_so, second_so}
use Rattle.std.specs.List.{list_any, list_all}
use Rattle.std.proofs.lemmas.List.Elements.{All-cons, All-head, All-tail, All-nil, All-contains}
use Rattle.std.proofs.lemmas.Map.Views.{list_any-from_Contains, Contains-from_any}
use Rattle.std.proofs.lemmas.Bool.{or_cases, not-true}
use mathlib.Core.Bool.{or-false}
use Rattle.std_lemmas.proofs.Lists.{Contains-head, Contains-later, Contains-none, Contains-cases, any_holds}
use Rattle.propositional_logic.specs.Literal.{Literal, negated, literal_eq, sign_eq}
use Rattle.propositional_logic.specs.Clause.{IsRisingFrom, IsClause}
use Rattle.propositional_logic.specs.Truth.{value_of, is_true_literal, is_true_clause}
use Rattle.propositional_logic.specs.Partial.{is_true_in, is_false_in, is_satisfied, is_falsified, unfalsified, lone_of, unit_of, AgreesWith, IsUnitIn}
use Rattle.propositional_logic.specs.Equality.{Decides-literal_eq, literal_eq-equivalence}
use Rattle.propositional_logic.proofs.Members.{Contains-filter, filter-Contains, filter-none}
use Rattle.propositional_logic.proofs.Rising.{rising_above}

pub Decides-is_true_in : (trues : List Literal) (l : Literal) → Decides (is_true_in trues l) (Contains trues l)
Decides-is_true_in trues l =
    (Contains-from_any (λ x y. (Decides-literal_eq x y).0) l trues, list_any-from_Contains literal_eq-equivalence l trues)

-- a test that fails, from its opposite
pub fails : {P : Type 0} (b : Bool) → Decides b P → (P → ⊥) → b ≡ false
fails true d n = absurd (n (d.0 refl))
fails false d n = refl

pub Any-member : {X : Type 0} (P : X → Type 0) (xs : List X) (x : X) → Contains xs x → P x → Any P xs
Any-member P xs x m p = (m.0, x, m.1, m.2, p)

any_found : {X : Type 0} (p : X → Bool) (P : X → Type 0) → ((x : X) → Decides (p x) (P x)) → (xs : List X) → list_any p xs ≡ true → Any P xs
any_found p P d [] h = absurd (true≢false (sym h))
any_found p P d (x ∷ xs) h =
    elim (or_cases (p x) (list_any p xs) h) [
      | inl e ↦ Any-member P (x ∷ xs) x (Contains-head x xs) ((d x).0 e)
      | inr e ↦ let k = any_found p P d xs e in Any-member P (x ∷ xs) k.1 (Contains-later x xs k.1 (k.0, k.2, k.3)) k.4
    ]

pub Decides-any : {X : Type 0} (p : X → Bool) (P : X → Type 0) → ((x : X) → Decides (p x) (P x)) → (xs : List X) → Decides (list_any p xs) (Any P xs)
Decides-any p P d xs = (any_found p P d xs, λ h. any_holds p xs h.1 (h.0, h.2, h.3) ((d h.1).1 h.4))

all_found : {X : Type 0} (p : X → Bool) (P : X → Type 0) → ((x : X) → Decides (p x) (P x)) → (xs : List X) → list_all p xs ≡ true → All P xs
all_found p P d [] h = All-nil P
all_found p P d (x ∷ xs) h = All-cons P x xs ((d x).0 (first_so (p x) _ h)) (all_found p P d xs (second_so (p x) _ h))

all_holds : {X : Type 0} (p : X → Bool) (P : X → Type 0) → ((x : X) → Decides (p x) (P x)) → (xs : List X) → All P xs → list_all p xs ≡ true
all_holds p P d [] h = refl
all_holds p P d (x ∷ xs) h =
    ap (λ b. b && list_all p xs) ((d x).1 (All-head P x xs h)) ∙ all_holds p P d xs (All-tail P x xs h)

pub Decides-all : {X : Type 0} (p : X → Bool) (P : X → Type 0) → ((x : X) → Decides (p x) (P x)) → (xs : List X) → Decides (list_all p xs) (All P xs)
Decides-all p P d xs = (all_found p P d xs, all_holds p P d xs)

pub Decides-is_satisfied : (trues clause : List Literal) → Decides (is_satisfied trues clause) (Any (Contains trues) clause)
Decides-is_satisfied trues clause = Decides-any (is_true_in trues) (Contains trues) (Decides-is_true_in trues) clause

pub Decides-is_falsified : (trues clause : List Literal) → Decides (is_falsified trues clause) (All (λ l. Contains trues (negated l)) clause)
Decides-is_falsified trues clause =
    Decides-all (is_false_in trues) (λ l. Contains trues (negated l)) (λ l. Decides-is_true_in trues (negated l)) clause

-- ---- unit clauses

-- the one literal that is left, where a clause is unit
pub lone_is : (trues left : List Literal) (l : Literal) → lone_of trues left ≡ Some l → (left ≡ l ∷ []) × (is_true_in trues l ≡ false)
lone_is trues [] l h = absurd (cc)
lone_is trues (x ∷ []) l h = by (is_true_in trues x) refl h
  where
    by : (b : Bool) → is_true_in trues x ≡ b → cond b None (Some x) ≡ Some l → (x ∷ [] ≡ l ∷ []) × (is_true_in trues l ≡ false)
    by true e k = absurd (cc)
    by false e k = let s : x ≡ l = cc in (ap (λ m. m ∷ []) s, ap (is_true_in trues) (sym s) ∙ e)
lone_is trues (x ∷ y ∷ ys) l h = absurd (cc)

pub unit_is : (trues clause : List Literal) (l : Literal) → unit_of trues clause ≡ Some l → IsUnitIn trues clause l
unit_is trues clause l h =
    let k = lone_is trues (unfalsified trues clause) l h in
    let there = Contains-filter (λ m. not (is_false_in trues m)) clause l (subst (λ u. Contains u l) (sym k.0) (Contains-head l [])) in
    record {
      member = there.0;
      not_true = λ c. true≢false (sym ((Decides-is_true_in trues l).1 c) ∙ k.1);
      not_false = λ c. true≢false (sym ((Decides-is_true_in trues (negated l)).1 c) ∙ not-true _ there.1);
      others_false = λ m c n. by m c n (is_false_in trues m) refl k.0;
    }
  where
    by : (m : Literal) → Contains clause m → m ≢ l → (b : Bool) → is_false_in trues m ≡ b → unfalsified trues clause ≡ l ∷ [] → Contains trues (negated m)
    by m c n true e k = (Decides-is_true_in trues (negated m)).0 e
    by m c n false e k =
        elim (Contains-cases l [] m (subst (λ u. Contains u m) k (filter-Contains (λ m. not (is_false_in trues m)) clause m c (ap not e)))) [
          | inl s ↦ absurd (n (sym s))
          | inr z ↦ absurd (Contains-none m z)
        ]

-- a clause's literals that aren't false, where it is unit
unit_left : (n : ℕ) (trues clause : List Literal) (l : Literal) → IsRisingFrom n clause → IsUnitIn trues clause l → unfalsified trues clause ≡ l ∷ []
unit_left n trues [] l r u = absurd (Contains-none l u.member)
unit_left n trues (x ∷ xs) l r u = by (literal_eq x l) refl (unit_left x.var trues xs l r.1)
  where
    free : Literal → Bool
    free m = not (is_false_in trues m)

    dead : (m : Literal) → Contains trues (negated m) → not (is_false_in trues m) ≡ false
    dead m c = ap not ((Decides-is_true_in trues (negated m)).1 c)

    by : (b : Bool) → literal_eq x l ≡ b → (IsUnitIn trues xs l → unfalsified trues xs ≡ l ∷ []) → unfalsified trues (x ∷ xs) ≡ l ∷ []
    by true e rest =
        let s = (Decides-literal_eq x l).0 e in
        let alive : not (is_false_in trues x) ≡ true = ap not (fails _ (Decides-is_true_in trues (negated x)) (λ c. u.not_false (subst (λ m. Contains trues (negated m)) s c))) in
        let none = filter-none (λ m. not (is_false_in trues m)) xs (λ m c. dead m (u.others_false m (Contains-later x xs m c) (λ q.
        let f : x.var < m.var = rising_above x.var xs m r.1 c in let g : x.var ≡ m.var = ap (λ (a : Literal). a.var) (s ∙ sym q) in omega arith))) in
        ap (λ b. cond b (x ∷ unfalsified trues xs) (unfalsified trues xs)) alive ∙ (λ i. s i ∷ none i)
    by false e rest =
        let n : x ≢ l = λ s. true≢false (sym ((Decides-literal_eq x l).1 s) ∙ e) in
        let gone = dead x (u.others_false x (Contains-head x xs) n) in
        let there : Contains xs l = elim (Contains-cases x xs l u.member) [ inl s ↦ absurd (n s) | inr c ↦ c ] in
        ap (λ b. cond b (x ∷ unfalsified trues xs) (unfalsified trues xs)) gone ∙ rest (record {
          member = there;
          not_true = u.not_true;
          not_false = u.not_false;
          others_false = λ m c q. u.others_false m (Contains-later x xs m c) q;
        })

pub unit_found : (trues clause : List Literal) (l : Literal) → IsClause clause → IsUnitIn trues clause l → unit_of trues clause ≡ Some l
unit_found trues clause l r u =
    ap (lone_of trues) (unit_left 0 trues clause l r u) ∙ ap (λ b. cond b None (Some l)) (fails _ (Decides-is_true_in trues l) u.not_true)

-- ---- total assignments that agree

opposite : (p v : Bool) → sign_eq (not p) v ≡ not (sign_eq p v)
opposite true v = refl
opposite false true = refl
opposite false false = refl

pub is_true_literal-negated : (values : List Bool) (l : Literal) → is_true_literal values (negated l) ≡ not (is_true_literal values l)
is_true_literal-negated values l = opposite l.positive (value_of values l.var)

pub true_in_is_true : (values : List Bool) (trues : List Literal) (l : Literal) → AgreesWith values trues → is_true_in trues l ≡ true → is_true_literal values l ≡ true
true_in_is_true values trues l a h = All-contains (λ m. is_true_literal values m ≡ true) trues l a ((Decides-is_true_in trues l).0 h)

pub false_in_is_false : (values : List Bool) (trues : List Literal) (l : Literal) → AgreesWith values trues → is_false_in trues l ≡ true → is_true_literal values l ≡ false
false_in_is_false values trues l a h = not-true _ (sym (is_true_literal-negated values l) ∙ true_in_is_true values trues (negated l) a h)

pub satisfied_is_true : (values : List Bool) (trues clause : List Literal) → AgreesWith values trues → is_satisfied trues clause ≡ true → is_true_clause values clause ≡ true
satisfied_is_true values trues clause a h =
    let k = (Decides-is_satisfied trues clause).0 h in
    any_holds (is_true_literal values) clause k.1 (k.0, k.2, k.3) (All-contains (λ m. is_true_literal values m ≡ true) trues k.1 a k.4)

pub falsified_is_false : (values : List Bool) (trues clause : List Literal) → AgreesWith values trues → is_falsified trues clause ≡ true → is_true_clause values clause ≡ false
falsified_is_false values trues [] a h = refl
falsified_is_false values trues (x ∷ xs) a h =
    ap (λ b. b || is_true_clause values xs) (false_in_is_false values trues x a (first_so _ _ h)) ∙ falsified_is_false values trues xs a (second_so (is_false_in trues x) _ h)

-- a clause is true by its literals that aren't false
pub true_by_left : (values : List Bool) (trues clause : List Literal) → AgreesWith values trues → is_true_clause values (unfalsified trues clause) ≡ is_true_clause values clause
true_by_left values trues [] a = refl
true_by_left values trues (x ∷ xs) a = by (is_false_in trues x) refl (true_by_left values trues xs a)
  where
    by : (b : Bool) → is_false_in trues x ≡ b → is_true_clause values (unfalsified trues xs) ≡ is_true_clause values xs
        → is_true_clause values (cond (not b) (x ∷ unfalsified trues xs) (unfalsified trues xs)) ≡ (is_true_literal values x || is_true_clause values xs)
    by true e rest = rest ∙ ap (λ b. b || is_true_clause values xs) (sym (false_in_is_false values trues x a e))
    by false e rest = ap (λ b. is_true_literal values x || b) rest

pub unit_is_true : (values : List Bool) (trues clause : List Literal) (l : Literal) → AgreesWith values trues → unit_of trues clause ≡ Some l
    → is_true_clause values clause ≡ true → AgreesWith values (l ∷ trues)
unit_is_true values trues clause l a h t =
    let k = lone_is trues (unfalsified trues clause) l h in
    let yes : is_true_literal values l ≡ true =
    sym (or-false _) ∙ ap (is_true_clause values) (sym k.0) ∙ true_by_left values trues clause a ∙ t in
    All-cons (λ m. is_true_literal values m ≡ true) l trues yes a
