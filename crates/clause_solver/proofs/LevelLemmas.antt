-- The literals of a trail up to a level, and what is quiet below one.
use Rattle.std.proofs.Common.{◌≡◌, ℕ, ◌+◌, ◌<◌, ◌≤◌, max, nat_le, Bool, true, false, cond, List, [], ◌∷◌, ◌++◌, ◌⊎◌, inl, inr, Contains, All, refl, sym, subst, ap, ◌∙◌, arith}
use Rattle.std.proofs.lemmas.Bool.{cases_lt, leb-true, leb-false, le-leb, lt-leb}
use Rattle.std.proofs.lemmas.List.{append-nil}
use Rattle.std.proofs.lemmas.List.Elements.{All-contains, All-weaker, All-nil, All-cons, filter-append}
use Rattle.std_lemmas.proofs.Lists.{All-from_contains}
use Rattle.propositional_logic.specs.Literal.{Literal}
use Rattle.propositional_logic.proofs.Members.{Contains-filter, filter-Contains, filter-none}
use Rattle.unit_propagate.specs.declared.marks.Mark.{Mark}
use Rattle.unit_propagate.specs.Trail.{highest_level, literals_of}
use Rattle.unit_propagate.specs.Sound.{Extends}
use Rattle.unit_propagate.specs.Quiet.{IsQuiet}
use Rattle.unit_propagate.proofs.TrailLemmas.{highest_above, highest_bound, highest-append, filter-highest}
use Rattle.clause_solver.specs.Levels.{up_to, IsQuietBelow, IsIdleBelow}

-- the literals up to the lower one of two levels
pub up_to-up_to : (level top : ℕ) (marks : List Mark) → level ≤ top → up_to level (up_to top marks) ≡ up_to level marks
up_to-up_to level top [] h = refl
up_to-up_to level top (m ∷ ms) h = by (nat_le m.level top) refl (nat_le m.level level) refl (up_to-up_to level top ms h)
  where
    by : (a : Bool) → nat_le m.level top ≡ a → (b : Bool) → nat_le m.level level ≡ b → up_to level (up_to top ms) ≡ up_to level ms
        → up_to level (cond a (m ∷ up_to top ms) (up_to top ms)) ≡ cond b (m ∷ up_to level ms) (up_to level ms)
    by true e true f r = ap (λ c. cond c (m ∷ up_to level (up_to top ms)) (up_to level (up_to top ms))) f ∙ ap (λ xs. m ∷ xs) r
    by true e false f r = ap (λ c. cond c (m ∷ up_to level (up_to top ms)) (up_to level (up_to top ms))) f ∙ r
    by false e true f r = absurd (let a : top < m.level = leb-false m.level top e in let b : m.level ≤ level = leb-true m.level level f in omega arith)
    by false e false f r = r

-- a literal up to a level
pub in_up_to : (level : ℕ) (marks : List Mark) (m : Mark) → Contains (up_to level marks) m → Contains marks m × (m.level ≤ level)
in_up_to level marks m h = let k = Contains-filter (λ (x : Mark). nat_le x.level level) marks m h in (k.0, leb-true m.level level k.1)

pub up_to_has : (level : ℕ) (marks : List Mark) (m : Mark) → Contains marks m → m.level ≤ level → Contains (up_to level marks) m
up_to_has level marks m h l = filter-Contains (λ (x : Mark). nat_le x.level level) marks m h (le-leb m.level level l)

pub highest-up_to : (level : ℕ) (marks : List Mark) → highest_level (up_to level marks) ≤ level
highest-up_to level marks = highest_bound (up_to level marks) level (All-from_contains (λ m. m.level ≤ level) (up_to level marks) (λ m c. let k = in_up_to level marks m c in k.1))

pub highest-up_to_all : (level : ℕ) (marks : List Mark) → highest_level (up_to level marks) ≤ highest_level marks
highest-up_to_all level marks =
    highest_bound (up_to level marks) (highest_level marks)
    (All-from_contains (λ m. m.level ≤ highest_level marks) (up_to level marks) (λ m c. let k = in_up_to level marks m c in All-contains (λ m. m.level ≤ highest_level marks) marks m (highest_above marks) k.0))

-- literals above the level that come after
pub up_to-above : (level : ℕ) (xs ys : List Mark) → All (λ m. level < m.level) ys → up_to level (xs ++ ys) ≡ up_to level xs
up_to-above level xs ys h =
    filter-append (λ (m : Mark). nat_le m.level level) xs ys
    ∙ ap (λ zs. up_to level xs ++ zs) (filter-none (λ (m : Mark). nat_le m.level level) ys (λ y c. lt-leb y.level level (All-contains (λ m. level < m.level) ys y h c)))
    ∙ append-nil (up_to level xs)

-- ---- quiet below the highest level

same_quiet : (clauses : List (List Literal)) (a b : List Mark) → a ≡ b → IsQuiet clauses (literals_of a) → IsQuiet clauses (literals_of b)
same_quiet clauses a b e q = subst (λ ms. IsQuiet clauses (literals_of ms)) e q

-- propagation leaves the levels below as they are
pub quiet_extends : (clauses more : List (List Literal)) (old new : List Mark) → Extends more old new → IsQuietBelow (highest_level old) clauses old → IsQuietBelow (highest_level new) clauses new
quiet_extends clauses more old new x q level low =
    let high : highest_level x.added ≤ highest_level old = highest_bound x.added (highest_level old) (All-weaker (λ m. m.level ≡ highest_level old) (λ m. m.level ≤ highest_level old) (λ m e. omega arith) x.added x.level) in
    let top : highest_level new ≡ max (highest_level old) (highest_level x.added) = ap highest_level x.grown ∙ highest-append old x.added in
    let below : level < highest_level old = omega arith in
    let above : All (λ m. level < m.level) x.added = All-weaker (λ m. m.level ≡ highest_level old) (λ m. level < m.level) (λ m e. omega arith) x.added x.level in
    same_quiet clauses (up_to level old) (up_to level new) (sym (up_to-above level old x.added above) ∙ ap (up_to level) (sym x.grown)) (q level below)

-- a literal that is assumed on a quiet trail
pub quiet_assume : (clauses : List (List Literal)) (marks : List Mark) (m : Mark) → m.level ≡ highest_level marks + 1 → IsQuiet clauses (literals_of marks)
    → IsQuietBelow (highest_level marks) clauses marks → IsQuietBelow (highest_level (marks ++ m ∷ [])) clauses (marks ++ m ∷ [])
quiet_assume clauses marks m next all q level low =
    let top : highest_level (marks ++ m ∷ []) ≡ max (highest_level marks) (max m.level 0) = highest-append marks (m ∷ []) in
    let within : level < m.level = omega arith in
    let same : up_to level (marks ++ m ∷ []) ≡ up_to level marks = up_to-above level marks (m ∷ []) (All-cons (λ (n : Mark). level < n.level) m [] within (All-nil (λ (n : Mark). level < n.level))) in
    elim (cases_lt level (highest_level marks)) [
      | inl lt ↦ same_quiet clauses (up_to level marks) (up_to level (marks ++ m ∷ [])) (sym same) (q level lt)
      | inr ge ↦ same_quiet clauses marks (up_to level (marks ++ m ∷ [])) (sym (same ∙ filter-highest level marks ge)) all
    ]

-- going back to a level below which each clause that is new is idle
pub quiet_back : (known all : List (List Literal)) (marks : List Mark) (level : ℕ) → IsQuietBelow (highest_level marks) known marks
    → ((c : List Literal) → Contains all c → Contains known c ⊎ IsIdleBelow level marks c) → IsQuietBelow (highest_level (up_to level marks)) all (up_to level marks)
quiet_back known all marks level q new low below =
    let a : highest_level (up_to level marks) ≤ level = highest-up_to level marks in
    let b : highest_level (up_to level marks) ≤ highest_level marks = highest-up_to_all level marks in
    let old = q low (omega arith) in
    same_quiet all (up_to low marks) (up_to low (up_to level marks)) (sym (up_to-up_to low level marks (omega arith))) (record {
      not_falsified = λ c h. elim (new c h) [ inl k ↦ old.not_falsified c k | inr i ↦ (let r = i low (omega arith) in r.0) ];
      not_unit = λ c h. elim (new c h) [ inl k ↦ old.not_unit c k | inr i ↦ (let r = i low (omega arith) in r.1) ];
    })
