-- Trails: their highest level, their variables, their literals.
use Rattle.std.proofs.Common.{◌≡◌, ◌≢◌, ℕ, ◌<◌, ◌≤◌, max, Bool, true, false, List, [], ◌∷◌, ◌++◌, ◌⊎◌, inl, inr, Option, Some, None, get_or, slice_get, filter, nat_le, cond, Contains, All, refl, sym, subst, ap, ◌∙◌, arith}
use Rattle.std.specs.Prelude.{AllPairs, IfSome, IfNone}
use Rattle.std.proofs.lemmas.List.{append-nil, append_assoc}
use Rattle.std.proofs.lemmas.List.Elements.{All-nil, All-head, All-tail, All-cons, All-push, All-contains, All-weaker, filter-append}
use Rattle.std.proofs.lemmas.List.Quantifiers.{all_pairs_push}
use borrow.Author.Tests.{leb-true, leb-false}
use Rattle.std_lemmas.proofs.Naturals.{lt_trichotomy}
use Rattle.std_lemmas.proofs.Booleans.{not_same}
use Rattle.std_lemmas.proofs.Lists.{Contains-head, Contains-later, Contains-none, Contains-cases, Contains-slice_get, All-front}
use Rattle.propositional_logic.specs.Literal.{Literal, negated}
use Rattle.unit_propagate.specs.declared.marks.Mark.{Mark}
use Rattle.unit_propagate.specs.Trail.{IsFree, IsTrail, highest_level, literals_of}
use Rattle.unit_propagate.proofs.Places.{AllPairs-last, AllPairs-front, slice_get-Contains, AllPairs-slice_get}

pub highest_above : (marks : List Mark) → All (λ m. m.level ≤ highest_level marks) marks
highest_above [] = All-nil (λ m. m.level ≤ 0)
highest_above (m ∷ ms) =
    All-cons (λ n. n.level ≤ highest_level (m ∷ ms)) m ms (omega arith)
    (All-weaker (λ n. n.level ≤ highest_level ms) (λ n. n.level ≤ highest_level (m ∷ ms)) (λ n h. omega arith) ms (highest_above ms))

pub highest_bound : (marks : List Mark) (n : ℕ) → All (λ m. m.level ≤ n) marks → highest_level marks ≤ n
highest_bound [] n h = omega arith
highest_bound (m ∷ ms) n h =
    let a : m.level ≤ n = All-head (λ m. m.level ≤ n) m ms h in
    let b : highest_level ms ≤ n = highest_bound ms n (All-tail (λ m. m.level ≤ n) m ms h) in
    omega arith

pub highest-append : (xs ys : List Mark) → highest_level (xs ++ ys) ≡ max (highest_level xs) (highest_level ys)
highest-append [] ys = omega arith
highest-append (x ∷ xs) ys = let e : highest_level (xs ++ ys) ≡ max (highest_level xs) (highest_level ys) = highest-append xs ys in omega arith

-- the last literal has the highest level
pub highest-push : (xs : List Mark) (m : Mark) → AllPairs (λ m n. m.level ≤ n.level) (xs ++ m ∷ []) → highest_level (xs ++ m ∷ []) ≡ m.level
highest-push xs m h =
    let e : highest_level (xs ++ m ∷ []) ≡ max (highest_level xs) (highest_level (m ∷ [])) = highest-append xs (m ∷ []) in
    let b : highest_level xs ≤ m.level = highest_bound xs m.level (AllPairs-last (λ m n. m.level ≤ n.level) xs m h) in
    omega arith

-- a literal of the trail
pub literal-of : (marks : List Mark) (m : Mark) → Contains marks m → Contains (literals_of marks) m.lit
literal-of [] m h = absurd (Contains-none m h)
literal-of (n ∷ ms) m h =
    elim (Contains-cases n ms m h) [
      | inl e ↦ subst (λ (k : Mark). Contains (literals_of (n ∷ ms)) k.lit) e (Contains-head n.lit (literals_of ms))
      | inr r ↦ Contains-later n.lit (literals_of ms) m.lit (literal-of ms m r)
    ]

pub mark-of : (marks : List Mark) (l : Literal) → Contains (literals_of marks) l → (m : Mark) × Contains marks m × (m.lit ≡ l)
mark-of [] l h = absurd (Contains-none l h)
mark-of (n ∷ ms) l h =
    elim (Contains-cases n.lit (literals_of ms) l h) [
      | inl e ↦ (n, Contains-head n ms, e)
      | inr r ↦ let k = mark-of ms l r in (k.0, Contains-later n ms k.0 k.1, k.2)
    ]

-- a variable that has no value is of no literal
pub free-no_literal : (marks : List Mark) (l : Literal) → IsFree marks l.var → Contains (literals_of marks) l → ⊥
free-no_literal marks l f h =
    let k = mark-of marks l h in
    All-contains (λ m. m.lit.var ≢ l.var) marks k.0 f k.1 (ap (λ (m : Literal). m.var) k.2)

-- a trail has one literal of each variable at most
pub one_each : (vars : ℕ) (marks : List Mark) (m n : Mark) → IsTrail vars marks → Contains marks m → Contains marks n → m.lit.var ≡ n.lit.var → m ≡ n
one_each vars marks m n t p q e =
    let i = slice_get-Contains marks m p in
    let j = slice_get-Contains marks n q in
    by i.0 j.0 i.1 j.1 (lt_trichotomy i.0 j.0)
  where
    by : (i j : ℕ) → slice_get marks i ≡ Some m → slice_get marks j ≡ Some n → (i < j) ⊎ ((i ≡ j) ⊎ (j < i)) → m ≡ n
    by i j a b (inl l) = absurd (AllPairs-slice_get (λ m n. m.lit.var ≢ n.lit.var) marks i j m n t.once l a b e)
    by i j a b (inr (inl s)) = let c : slice_get marks j ≡ Some m = subst (λ k. slice_get marks k ≡ Some m) s a in cc
    by i j a b (inr (inr l)) = absurd (AllPairs-slice_get (λ m n. m.lit.var ≢ n.lit.var) marks j i n m t.once l b a (sym e))

-- so it never holds both signs
pub one_sign : (vars : ℕ) (marks : List Mark) (l : Literal) → IsTrail vars marks → Contains (literals_of marks) l → Contains (literals_of marks) (negated l) → ⊥
one_sign vars marks l t p q =
    let a = mark-of marks l p in
    let b = mark-of marks (negated l) q in
    let v : a.0.lit.var ≡ b.0.lit.var = ap (λ (k : Literal). k.var) a.2 ∙ sym (ap (λ (k : Literal). k.var) b.2) in
    let same : a.0 ≡ b.0 = one_each vars marks a.0 b.0 t a.1 b.1 v in
    not_same l.positive (ap (λ (k : Literal). k.positive) (sym b.2 ∙ ap (λ (k : Mark). k.lit) (sym same) ∙ a.2))

-- a trail with one more literal
pub IsTrail-push : (vars : ℕ) (marks : List Mark) (m : Mark) → IsTrail vars marks → 0 < m.lit.var → m.lit.var ≤ vars → IsFree marks m.lit.var
    → highest_level marks ≤ m.level → IsTrail vars (marks ++ m ∷ [])
IsTrail-push vars marks m t low high f above = record {
  within = All-push (λ m. (0 < m.lit.var) × (m.lit.var ≤ vars)) marks m t.within (low, high);
  once = all_pairs_push (λ m n. m.lit.var ≢ n.lit.var) marks m t.once (λ k d l. f k d l);
  rising = all_pairs_push (λ m n. m.level ≤ n.level) marks m t.rising
      (λ k d l. let b : (get_or marks k d).level ≤ highest_level marks = highest_above marks k d l in omega arith);
}

pub IsTrail-front : (vars : ℕ) (xs ys : List Mark) → IsTrail vars (xs ++ ys) → IsTrail vars xs
IsTrail-front vars xs ys t = record {
  within = All-front (λ m. (0 < m.lit.var) × (m.lit.var ≤ vars)) xs ys t.within;
  once = AllPairs-front (λ m n. m.lit.var ≢ n.lit.var) xs ys t.once;
  rising = AllPairs-front (λ m n. m.level ≤ n.level) xs ys t.rising;
}

-- taking literals above a level off
pub filter-popped : (level : ℕ) (xs : List Mark) (m : Mark) → level < m.level → filter (λ m. nat_le m.level level) (xs ++ m ∷ []) ≡ filter (λ m. nat_le m.level level) xs
filter-popped level xs m h =
    filter-append (λ (m : Mark). nat_le m.level level) xs (m ∷ []) ∙ ap (λ b. filter (λ m. nat_le m.level level) xs ++ cond b (m ∷ []) []) (gone (nat_le m.level level) refl)
    ∙ append-nil (filter (λ m. nat_le m.level level) xs)
  where
    gone : (b : Bool) → nat_le m.level level ≡ b → b ≡ false
    gone true e = absurd (let l : m.level ≤ level = leb-true m.level level e in omega arith)
    gone false e = refl

pub filter-all_pass : (level : ℕ) (xs : List Mark) → All (λ m. m.level ≤ level) xs → filter (λ m. nat_le m.level level) xs ≡ xs
filter-all_pass level [] h = refl
filter-all_pass level (x ∷ xs) h = by (nat_le x.level level) refl (filter-all_pass level xs (All-tail (λ m. m.level ≤ level) x xs h))
  where
    by : (b : Bool) → nat_le x.level level ≡ b → filter (λ m. nat_le m.level level) xs ≡ xs → cond b (x ∷ filter (λ m. nat_le m.level level) xs) (filter (λ m. nat_le m.level level) xs) ≡ x ∷ xs
    by true e r = ap (λ l. x ∷ l) r
    by false e r = absurd (let l : level < x.level = leb-false x.level level e in let k : x.level ≤ level = All-head (λ m. m.level ≤ level) x xs h in omega arith)

pub filter-highest : (level : ℕ) (xs : List Mark) → highest_level xs ≤ level → filter (λ m. nat_le m.level level) xs ≡ xs
filter-highest level xs h = filter-all_pass level xs (All-weaker (λ m. m.level ≤ highest_level xs) (λ m. m.level ≤ level) (λ m l. omega arith) xs (highest_above xs))

-- a literal above the level is taken off
pub popped : (level : ℕ) (first old new : List Mark) (r : Option Mark) → IfSome r (λ m. old ≡ new ++ m ∷ []) → IfNone r (old ≡ []) → AllPairs (λ m n. m.level ≤ n.level) old
    → level < highest_level old → (rest : List Mark) × (first ≡ old ++ rest)
    → (filter (λ m. nat_le m.level level) new ≡ filter (λ m. nat_le m.level level) old) × ((rest : List Mark) × (first ≡ new ++ rest))
popped level first old new None some none up l p = absurd (let e : highest_level old ≡ 0 = ap highest_level none in omega arith)
popped level first old new (Some m) some none up l p =
    let h : highest_level (new ++ m ∷ []) ≡ m.level = highest-push new m (subst (AllPairs (λ m n. m.level ≤ n.level)) some up) in
    let e : highest_level old ≡ highest_level (new ++ m ∷ []) = ap highest_level some in (
      sym (filter-popped level new m (omega arith)) ∙ ap (filter (λ m. nat_le m.level level)) (sym some),
      (m ∷ p.0, p.1 ∙ ap (λ xs. xs ++ p.0) some ∙ append_assoc new (m ∷ []) p.0),
    )

-- a literal at a place is on the trail
pub at_place : (marks : List Mark) (i : ℕ) (m : Mark) (l : Literal) → slice_get marks i ≡ Some m → m.lit ≡ l → Contains (literals_of marks) l
at_place marks i m l h e = subst (Contains (literals_of marks)) e (literal-of marks m (Contains-slice_get marks i m h))
