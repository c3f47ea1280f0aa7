-- A table of marks, and the literals that it marks.
use Rattle.std.proofs.Common.{◌≡◌, ◌≢◌, ℕ, ◌+◌, ◌*◌, ◌<◌, ◌≤◌, Bool, true, false, not, ◌&&◌, ◌||◌, cond, nat_eq, List, [], ◌∷◌, ◌++◌, Some, None, length, map, reverse, set, get_or, refl, sym, subst, ap, ◌∙◌, true≢false, arith, length-set}
use Rattle.std.specs.Prelude.{All, if◌then◌else◌}
use Rattle.std.specs.List.{list_any}
use Rattle.std.specs.Cmp.{both_ways, first_so, second_so}
use Rattle.std.proofs.lemmas.Bool.Decides.{Decides-eqb}
use Rattle.std.proofs.lemmas.List.{reverse-append, get_or-set_same, get_or-set_other, get_or_default}
use Rattle.std.proofs.lemmas.List.Elements.{All-head, All-tail}
use mathlib.Core.Bool.{and-true, and-false}
use Rattle.propositional_logic.specs.Literal.{Literal, sign_eq, literal_eq}
use Rattle.propositional_logic.specs.Partial.{is_true_in, is_false_in, unfalsified, is_falsified, lone_of, unit_of}
use Rattle.log_checker.specs.Marked.{IsMarked}
use Rattle.propositional_logic.specs.Codes.{code_of}

-- ---- places of literals

eq_by : (a b c d : ℕ) → (a ≡ b → c ≡ d) → (c ≡ d → a ≡ b) → nat_eq a b ≡ nat_eq c d
eq_by a b c d f g = both_ways (nat_eq a b) (nat_eq c d) (λ h. (Decides-eqb c d).1 (f ((Decides-eqb a b).0 h))) (λ h. (Decides-eqb a b).1 (g ((Decides-eqb c d).0 h)))

ne_false : (a b : ℕ) → (a ≡ b → ⊥) → nat_eq a b ≡ false
ne_false a b n = by (nat_eq a b) refl
  where
    by : (x : Bool) → nat_eq a b ≡ x → x ≡ false
    by true e = absurd (n ((Decides-eqb a b).0 e))
    by false e = refl

-- two literals have one place exactly where they are the same
place_same : (l m : Literal) → nat_eq (code_of l) (code_of m) ≡ literal_eq l m
place_same l m = by l.positive m.positive
  where
    by : (b c : Bool) → nat_eq (2 * l.var + (if b then 1 else 0)) (2 * m.var + (if c then 1 else 0)) ≡ (nat_eq l.var m.var && sign_eq b c)
    by true true = eq_by (2 * l.var + 1) (2 * m.var + 1) l.var m.var (λ e. omega arith) (λ e. omega arith) ∙ sym (and-true (nat_eq l.var m.var))
    by false false = eq_by (2 * l.var + 0) (2 * m.var + 0) l.var m.var (λ e. omega arith) (λ e. omega arith) ∙ sym (and-true (nat_eq l.var m.var))
    by true false = ne_false (2 * l.var + 1) (2 * m.var + 0) (λ e. omega arith) ∙ sym (and-false (nat_eq l.var m.var))
    by false true = ne_false (2 * l.var + 0) (2 * m.var + 1) (λ e. omega arith) ∙ sym (and-false (nat_eq l.var m.var))

true_by_place : (l : Literal) (trues : List Literal) → list_any (nat_eq (code_of l)) (map code_of trues) ≡ is_true_in trues l
true_by_place l [] = refl
true_by_place l (m ∷ trues) = λ i. place_same l m i || true_by_place l trues i

pub place_within : (l : Literal) (vars n : ℕ) → l.var ≤ vars → n ≡ 2 * vars + 2 → code_of l < n
place_within l vars n le e = by l.positive
  where
    by : (b : Bool) → 2 * l.var + (if b then 1 else 0) < n
    by true = omega arith
    by false = omega arith

-- what the table says of a literal
pub looked_up : (vars : ℕ) (table : List Bool) (trues : List Literal) (l : Literal) (d : Bool) → IsMarked vars table trues → l.var ≤ vars → get_or table (code_of l) d ≡ is_true_in trues l
looked_up vars table trues l d h le =
    get_or_default table (code_of l) d false (place_within l vars (length table) le h.size) ∙ h.marked (code_of l) ∙ true_by_place l trues

-- ---- taking marks back

-- only literals of the trail are marked
pub record IsLeft (vars : ℕ) (table : List Bool) (trail : List Literal) : Type 0 where
  pub size : length table ≡ 2 * vars + 2
  pub within : All (λ (l : Literal). l.var ≤ vars) (reverse trail)
  pub only : (k : ℕ) → get_or table k false ≡ true → list_any (nat_eq k) (map code_of (reverse trail)) ≡ true

pub left_of_popped : (vars : ℕ) (table : List Bool) (trail : List Literal) (l : Literal) → IsLeft vars table (trail ++ l ∷ []) → IsLeft vars (set table (code_of l) false) trail
left_of_popped vars table trail l h = record {
  size = length-set table (code_of l) false ∙ h.size;
  within = All-tail (λ (m : Literal). m.var ≤ vars) l (reverse trail) within;
  only = λ k e. by k (nat_eq k (code_of l)) refl e;
}
  where
    turned : reverse (trail ++ l ∷ []) ≡ l ∷ reverse trail
    turned = reverse-append trail (l ∷ [])

    within : All (λ (m : Literal). m.var ≤ vars) (l ∷ reverse trail)
    within = subst (λ ls. All (λ (m : Literal). m.var ≤ vars) ls) turned h.within

    lt : code_of l < length table
    lt = place_within l vars (length table) (All-head (λ (m : Literal). m.var ≤ vars) l (reverse trail) within) h.size

    or_rest : (b c : Bool) → b ≡ false → (b || c) ≡ true → c ≡ true
    or_rest true c e h = absurd (true≢false e)
    or_rest false c e h = h

    by : (k : ℕ) (b : Bool) → nat_eq k (code_of l) ≡ b → get_or (set table (code_of l) false) k false ≡ true
        → list_any (nat_eq k) (map code_of (reverse trail)) ≡ true
    by k true same e =
        let at : k ≡ code_of l = (Decides-eqb k (code_of l)).0 same in
        absurd (true≢false (sym e ∙ ap (λ j. get_or (set table (code_of l) false) j false) at ∙ get_or-set_same table (code_of l) false false lt))
    by k false differs e =
        let ne : k ≢ code_of l = λ same. true≢false (sym ((Decides-eqb k (code_of l)).1 same) ∙ differs) in
        let old = h.only k (sym (get_or-set_other table (code_of l) k false false ne) ∙ e) in
        or_rest (nat_eq k (code_of l)) (list_any (nat_eq k) (map code_of (reverse trail))) differs
        (sym (ap (λ ls. list_any (nat_eq k) (map code_of ls)) turned) ∙ old)

-- ---- clauses under a partial assignment

none_left : (trues lits : List Literal) → is_falsified trues lits ≡ true → unfalsified trues lits ≡ []
none_left trues [] h = refl
none_left trues (l ∷ lits) h = by (none_left trues lits (second_so (is_false_in trues l) (is_falsified trues lits) h)) (is_false_in trues l) refl
  where
    by : unfalsified trues lits ≡ [] → (b : Bool) → is_false_in trues l ≡ b → cond (not b) (l ∷ unfalsified trues lits) (unfalsified trues lits) ≡ []
    by rest true e = rest
    by rest false e = absurd (true≢false (sym (first_so (is_false_in trues l) (is_falsified trues lits) h) ∙ e))

some_left : (trues lits : List Literal) → is_falsified trues lits ≡ false → (l : Literal) × (rest : List Literal) × (unfalsified trues lits ≡ l ∷ rest)
some_left trues [] h = absurd (true≢false h)
some_left trues (l ∷ lits) h = by (λ e. some_left trues lits (ap (λ b. b && is_falsified trues lits) (sym e) ∙ h)) (is_false_in trues l) refl
  where
    by : (is_false_in trues l ≡ true → (m : Literal) × (rest : List Literal) × (unfalsified trues lits ≡ m ∷ rest)) → (b : Bool) → is_false_in trues l ≡ b
        → (m : Literal) × (rest : List Literal) × (cond (not b) (l ∷ unfalsified trues lits) (unfalsified trues lits) ≡ m ∷ rest)
    by rest true e = rest e
    by rest false e = (l, unfalsified trues lits, refl)

pub no_unit_more : (trues lits rest : List Literal) (l : Literal) → unfalsified trues lits ≡ l ∷ unfalsified trues rest → is_falsified trues rest ≡ false → None ≡ unit_of trues lits
no_unit_more trues lits rest l e h =
    let k = some_left trues rest h in
    sym (ap (lone_of trues) (e ∙ ap (λ ls. l ∷ ls) k.2))

pub unit_found : (trues lits rest : List Literal) (l : Literal) → unfalsified trues lits ≡ l ∷ unfalsified trues rest → is_falsified trues rest ≡ true → is_true_in trues l ≡ false → Some l ≡ unit_of trues lits
unit_found trues lits rest l e h t =
    sym (ap (lone_of trues) (e ∙ ap (λ ls. l ∷ ls) (none_left trues rest h)) ∙ ap (λ b. cond b None (Some l)) t)
