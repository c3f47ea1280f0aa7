-- A number for each clause: over v variables there are 3 ^ v clauses, so a legal log is no longer.
use Rattle.std.proofs.Common.{◌≡◌, ◌≢◌, ℕ, zero, suc, ◌+◌, ◌-◌, ◌*◌, ◌^◌, ◌<◌, ◌≤◌, eqb, Bool, true, false, cond, nat_eq, List, [], ◌∷◌, length, map, get_or, refl, sym, ◌∙◌, subst, arith, true≢false, ne_eqb, Option, Some}
use Rattle.std.specs.Prelude.{Any}
use Rattle.std.proofs.Math.Nat.{pow-suc}
use Rattle.std.proofs.lemmas.List.{length-map, get_or-map}
use Rattle.std.proofs.lemmas.List.Elements.{All-head, All-tail, All-nil}
use Rattle.std.proofs.lemmas.List.Folds.{Any-from_list_any}
use Rattle.std.proofs.lemmas.Map.Steps.{length-le_from_distinct_below}
use Rattle.std.proofs.lemmas.Map.Keys.{IsDistinct-from_apart}
use Rattle.std.proofs.lemmas.Bool.Decides.{Decides-eqb}
use Rattle.propositional_logic.specs.Literal.{Literal}
use Rattle.propositional_logic.specs.Clause.{IsClause, IsRisingFrom, IsWithinVariables}
use Rattle.refutation_log.specs.declared.entries.Entry.{Entry}
use Rattle.refutation_log.specs.Entry.{AreSorted}
use Rattle.refutation_log.specs.Log.{is_ended, IsLegal, IsFull, IsClosed}
use Rattle.refutation_log.proofs.LegalLemmas.{unended_before}

-- how a variable stands first in a clause: not at all, negated, or as it is
abbrev mark : ℕ → List Literal → ℕ
mark v [] = 0
mark v (l ∷ ls) = cond (nat_eq l.var v) (cond l.positive 2 1) 0

-- the clause without its first literal, where this is of the variable
abbrev others : ℕ → List Literal → List Literal
others v [] = []
others v (l ∷ ls) = cond (nat_eq l.var v) ls (l ∷ ls)

-- the number of a clause over the k variables after n: a digit for each variable
abbrev code : ℕ → ℕ → List Literal → ℕ
code n zero ls = 0
code n (suc k) ls = mark (suc n) ls + 3 * code (suc n) k (others (suc n) ls)

sign-small : (b : Bool) → cond b 2 1 < 3
sign-small true = omega arith
sign-small false = omega arith

sign-some : (b : Bool) → 0 < cond b 2 1
sign-some true = omega arith
sign-some false = omega arith

sign-same : (a b : Bool) → ◌≡◌ {A = ℕ} (cond a 2 1) (cond b 2 1) → a ≡ b
sign-same true true e = refl
sign-same false false e = refl
sign-same true false e = absurd (omega arith)
sign-same false true e = absurd (omega arith)

mark-small : (v : ℕ) (ls : List Literal) → mark v ls < 3
mark-small v [] = omega arith
mark-small v (l ∷ ls) = by (nat_eq l.var v)
  where
    by : (b : Bool) → cond b (cond l.positive 2 1) 0 < 3
    by true = sign-small l.positive
    by false = omega arith

code-below : (n k : ℕ) (ls : List Literal) → code n k ls < 3 ^ k
code-below n zero ls = omega arith
code-below n (suc k) ls =
    let first = mark-small (suc n) ls in
    let later = code-below (suc n) k (others (suc n) ls) in
    let power : 3 ^ suc k ≡ 3 ^ k * 3 = pow-suc 3 k in
    omega (arith, first, later, power)

code-none : (n k : ℕ) → code n k [] ≡ 0
code-none n zero = refl
code-none n (suc k) = let later = code-none (suc n) k in omega (arith, later)

is : (a b : ℕ) → nat_eq a b ≡ true → a ≡ b
is a b e = (Decides-eqb a b).0 e

is_not : (a b : ℕ) → nat_eq a b ≡ false → a ≢ b
is_not a b e p = true≢false (sym ((Decides-eqb a b).1 p) ∙ e)

others-rise : (n : ℕ) (ls : List Literal) → IsRisingFrom n ls → IsRisingFrom (suc n) (others (suc n) ls)
others-rise n [] h = tt
others-rise n (l ∷ ls) h = by (nat_eq l.var (suc n)) refl
  where
    by : (b : Bool) → nat_eq l.var (suc n) ≡ b → IsRisingFrom (suc n) (cond b ls (l ∷ ls))
    by true e = subst (λ m. IsRisingFrom m ls) (is l.var (suc n) e) h.1
    by false e = let low = h.0 in let apart = is_not l.var (suc n) e in (omega arith, h.1)

others-within : (v w : ℕ) (ls : List Literal) → IsWithinVariables w ls → IsWithinVariables w (others v ls)
others-within v w [] h = h
others-within v w (l ∷ ls) h = by (nat_eq l.var v)
  where
    by : (b : Bool) → IsWithinVariables w (cond b ls (l ∷ ls))
    by true = All-tail (λ (m : Literal). m.var ≤ w) l ls h
    by false = h

none-left : (n : ℕ) (ls : List Literal) → IsRisingFrom n ls → IsWithinVariables n ls → ls ≡ []
none-left n [] h w = refl
none-left n (l ∷ ls) h w = let low = h.0 in let high = All-head (λ (m : Literal). m.var ≤ n) l ls w in absurd (omega arith)

same-mark : (v : ℕ) (a b : List Literal) → mark v a ≡ mark v b → others v a ≡ others v b → a ≡ b
same-mark v [] [] m o = refl
same-mark v [] (l ∷ ls) m o = by (nat_eq l.var v) m o
  where
    by : (c : Bool) → ◌≡◌ {A = ℕ} 0 (cond c (cond l.positive 2 1) 0) → [] ≡ cond c ls (l ∷ ls) → [] ≡ l ∷ ls
    by true p q = let some = sign-some l.positive in absurd (omega arith)
    by false p q = q
same-mark v (l ∷ ls) [] m o = by (nat_eq l.var v) m o
  where
    by : (c : Bool) → ◌≡◌ {A = ℕ} (cond c (cond l.positive 2 1) 0) 0 → cond c ls (l ∷ ls) ≡ [] → l ∷ ls ≡ []
    by true p q = let some = sign-some l.positive in absurd (omega arith)
    by false p q = q
same-mark v (l ∷ ls) (k ∷ ks) m o = by (nat_eq l.var v) (nat_eq k.var v) refl refl m o
  where
    by : (c d : Bool) → nat_eq l.var v ≡ c → nat_eq k.var v ≡ d → ◌≡◌ {A = ℕ} (cond c (cond l.positive 2 1) 0) (cond d (cond k.positive 2 1) 0)
        → cond c ls (l ∷ ls) ≡ cond d ks (k ∷ ks) → l ∷ ls ≡ k ∷ ks
    by true true e f p q =
        let var : l.var ≡ k.var = is l.var v e ∙ sym (is k.var v f) in
        let positive : l.positive ≡ k.positive = sign-same l.positive k.positive p in
        λ i. record { var = var i; positive = positive i } ∷ q i
    by true false e f p q = let some = sign-some l.positive in absurd (omega arith)
    by false true e f p q = let some = sign-some k.positive in absurd (omega arith)
    by false false e f p q = q

code-same : (n k vars : ℕ) (a b : List Literal) → vars ≡ n + k → IsRisingFrom n a → IsRisingFrom n b → IsWithinVariables vars a → IsWithinVariables vars b → code n k a ≡ code n k b → a ≡ b
code-same n zero vars a b is-sum ra rb wa wb e =
    let last : vars ≡ n = omega arith in
    none-left n a ra (subst (λ v. IsWithinVariables v a) last wa) ∙ sym (none-left n b rb (subst (λ v. IsWithinVariables v b) last wb))
code-same n (suc k) vars a b is-sum ra rb wa wb e =
    let small = mark-small (suc n) a in
    let small' = mark-small (suc n) b in
    let marks : mark (suc n) a ≡ mark (suc n) b = omega (arith, small, small', e) in
    let codes : code (suc n) k (others (suc n) a) ≡ code (suc n) k (others (suc n) b) = omega (arith, small, small', e) in
    same-mark (suc n) a b marks
    (code-same (suc n) k vars (others (suc n) a) (others (suc n) b) (omega arith) (others-rise n a ra) (others-rise n b rb)
    (others-within (suc n) vars a wa) (others-within (suc n) vars b wb) codes)

code-some : (vars : ℕ) (ls : List Literal) → IsClause ls → IsWithinVariables vars ls → ls ≢ [] → 0 < code 0 vars ls
code-some vars ls sorted within some =
    let differs : code 0 vars ls ≢ 0 = λ e.
    some (code-same 0 vars vars ls [] (omega arith) sorted tt within (All-nil (λ (m : Literal). m.var ≤ vars)) (e ∙ sym (code-none 0 vars))) in
    omega arith

-- entries with different numbers below n are at most n
few : (f : Entry → ℕ) (n : ℕ) (log : List Entry) → ((i j : ℕ) (d : Entry) → i < j → j < length log → f (get_or log i d) ≢ f (get_or log j d))
    → ((i : ℕ) (d : Entry) → i < length log → f (get_or log i d) < n) → length log ≤ n
few f n [] apart below = omega arith
few f n (e ∷ es) apart below =
    let len : length (map f (e ∷ es)) ≡ length (e ∷ es) = length-map (e ∷ es) f in
    let most = length-le_from_distinct_below (map f (e ∷ es)) n
    (IsDistinct-from_apart eqb (map f (e ∷ es)) (λ i j d lt high. ne_eqb _ _ (λ same. apart i j e lt (omega arith) (sym (at i d (omega arith)) ∙ same ∙ at j d (omega arith)))))
    (λ q member. inside q (Any-from_list_any (eqb q) (map f (e ∷ es)) member)) in
    omega (arith, len, most)
  where
    at : (i d : ℕ) → i < length (e ∷ es) → get_or (map f (e ∷ es)) i d ≡ f (get_or (e ∷ es) i e)
    at i d lt = get_or-map f (e ∷ es) i e d lt

    inside : (q : ℕ) → Any (λ x. eqb q x ≡ true) (map f (e ∷ es)) → q < n
    inside q (place, element, lt, there, same) =
        let len : length (map f (e ∷ es)) ≡ length (e ∷ es) = length-map (e ∷ es) f in
        let high : place < length (e ∷ es) = omega arith in
        let q-is : q ≡ element = is q element same in
        let small = below place e high in
        let number : element ≡ f (get_or (e ∷ es) place e) = sym there ∙ at place element high in
        omega arith

module _ (vars : ℕ) (base : List (List Literal)) (limit : Option ℕ) (log : List Entry) (legal : IsLegal vars base limit log) (sorted : AreSorted log) where
  abbrev number : Entry → ℕ
  number e = code 0 vars e.clause

  apart : (i j : ℕ) (d : Entry) → i < j → j < length log → number (get_or log i d) ≢ number (get_or log j d)
  apart i j d lt high same =
      let low : i < length log = omega arith in
      legal.different i j d lt high
      (code-same 0 vars vars (get_or log i d).clause (get_or log j d).clause (omega arith) (sorted i d low) (sorted j d high)
      (legal.within i d low) (legal.within j d high) same)

  pub few-clauses : length log ≤ 3 ^ vars
  few-clauses = few number (3 ^ vars) log apart (λ i d lt. code-below 0 vars (get_or log i d).clause)

  pub fewer-clauses : is_ended log ≡ false → length log < 3 ^ vars
  fewer-clauses open' =
      let some : (i : ℕ) (d : Entry) → i < length log → 0 < number (get_or log i d)
      = λ i d lt. code-some vars (get_or log i d).clause (sorted i d lt) (legal.within i d lt) (unended_before log legal.ended open' i d lt) in
      let most : length log ≤ 3 ^ vars - 1
      = few (λ e. number e - 1) (3 ^ vars - 1) log
      (λ i j d lt high same.
      let left = some i d (omega arith) in
      let right = some j d high in
      apart i j d lt high (omega (arith, left, right, same)))
      (λ i d lt. let below = code-below 0 vars (get_or log i d).clause in let least = some i d lt in omega (arith, below, least)) in
      let none = code-below 0 vars [] in
      omega (arith, most, none)

pub never_full : (vars : ℕ) (base : List (List Literal)) (most : ℕ) (log : List Entry) → IsFull vars base (Some most) log → AreSorted log → most < 3 ^ vars
never_full vars base most log full sorted =
    let lt = fewer-clauses vars base (Some most) log full.legal sorted full.not_closed in
    let same : most ≡ length log = some_same most (length log) full.at_limit in
    omega (arith, lt, same)
  where
    some_same : (a b : ℕ) → Some a ≡ Some b → a ≡ b
    some_same a b e = cc

pub not_both : (vars : ℕ) (base : List (List Literal)) (limit : Option ℕ) (log : List Entry) → IsClosed vars base limit log → IsFull vars base limit log → ⊥
not_both vars base limit log closed full = true≢false (sym closed.refutes ∙ full.not_closed)
