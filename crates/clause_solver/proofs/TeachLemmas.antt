-- A learnt clause teaches where the trail is quiet below its level.
use Rattle.std.proofs.Common.{◌≡◌, ◌≢◌, ℕ, suc, zero, ◌+◌, ◌<◌, ◌≤◌, max, nat_eq, Bool, true, false, cond, List, [], ◌∷◌, inl, inr, filter, length, Contains, refl, sym, subst, ap, ◌∙◌, arith}
use Rattle.std.proofs.lemmas.Bool.{cases_lt}
use Rattle.std.proofs.lemmas.Bool.Decides.{Decides-eqb}
use Rattle.std.proofs.lemmas.List.Elements.{All-contains}
use Rattle.std_lemmas.proofs.Lists.{Contains-head, Contains-none, Contains-cases, All-from_contains}
use Rattle.propositional_logic.specs.Literal.{Literal, negated}
use Rattle.propositional_logic.specs.Clause.{IsWithinVariables}
use Rattle.propositional_logic.specs.Partial.{is_falsified}
use Rattle.propositional_logic.proofs.Members.{Contains-filter, filter-Contains}
use Rattle.propositional_logic.proofs.Tests.{Decides-is_falsified}
use Rattle.refutation_log.specs.Teaches.{IsQuietBut, Teaches}
use Rattle.unit_propagate.specs.declared.marks.Mark.{Mark}
use Rattle.unit_propagate.specs.Trail.{IsTrail, highest_level, literals_of}
use Rattle.unit_propagate.specs.Quiet.{IsQuiet}
use Rattle.unit_propagate.proofs.Places.{slice_get-Contains}
use Rattle.unit_propagate.proofs.TrailLemmas.{mark-of, literal-of, one_sign}
use Rattle.conflict_learn.specs.Learnt.{level_in, clause_level, IsLearnt}
use Rattle.conflict_learn.proofs.LevelLemmas.{level_at}
use Rattle.clause_solver.specs.Levels.{up_to, IsQuietBelow}
use Rattle.clause_solver.specs.Laws.{LearntClausesTeach}
use Rattle.clause_solver.proofs.LevelLemmas.{up_to_has}
use Rattle.clause_solver.proofs.IdleLemmas.{up_to_true}

-- a list of one element
pub single : {X : Type 0} (xs : List X) → length xs ≡ 1 → (x : X) × (xs ≡ x ∷ [])
single [] h = absurd (omega arith)
single (x ∷ []) h = (x, refl)
single (x ∷ y ∷ ys) h = absurd (omega arith)

-- the level of a literal on the trail
pub level_of_mark : (vars : ℕ) (marks : List Mark) (m : Mark) (v : ℕ) → IsTrail vars marks → Contains marks m → m.lit.var ≡ v → level_in marks v ≡ m.level
level_of_mark vars marks m v t c e = let i = slice_get-Contains marks m c in level_at vars marks i.0 m v t i.1 e

-- no literal is above the highest level
pub level_in-bound : (marks : List Mark) (v : ℕ) → level_in marks v ≤ highest_level marks
level_in-bound [] v = omega arith
level_in-bound (m ∷ ms) v = by (nat_eq m.lit.var v) (level_in-bound ms v)
  where
    by : (b : Bool) → level_in ms v ≤ highest_level ms → cond b m.level (level_in ms v) ≤ max m.level (highest_level ms)
    by true h = omega arith
    by false h = omega arith

pub clause_level-bound : (marks : List Mark) (c : List Literal) → clause_level marks c ≤ highest_level marks
clause_level-bound marks [] = omega arith
clause_level-bound marks (l ∷ ls) = let a : level_in marks l.var ≤ highest_level marks = level_in-bound marks l.var in let b : clause_level marks ls ≤ highest_level marks = clause_level-bound marks ls in omega arith

-- what makes a literal of a falsified clause false
pub falsifier_of : (vars : ℕ) (marks : List Mark) (clause : List Literal) (l : Literal) → IsTrail vars marks → is_falsified (literals_of marks) clause ≡ true → Contains clause l
    → (m : Mark) × Contains marks m × (m.lit ≡ negated l) × (level_in marks l.var ≡ m.level)
falsifier_of vars marks clause l t f c =
    let k = mark-of marks (negated l) (All-contains (λ x. Contains (literals_of marks) (negated x)) clause l ((Decides-is_falsified (literals_of marks) clause).0 f) c) in
    (k.0, k.1, k.2, level_of_mark vars marks k.0 l.var t k.1 (ap (λ (x : Literal). x.var) k.2))

-- no variable of a falsified clause passes those of the trail
pub falsified_within : (vars : ℕ) (marks : List Mark) (clause : List Literal) → IsTrail vars marks → is_falsified (literals_of marks) clause ≡ true → IsWithinVariables vars clause
falsified_within vars marks clause t f = All-from_contains (λ (l : Literal). l.var ≤ vars) clause (λ l c.
    let m = falsifier_of vars marks clause l t f c in
    let w : m.0.lit.var ≤ vars = (All-contains (λ (x : Mark). (0 < x.lit.var) × (x.lit.var ≤ vars)) marks m.0 t.within m.1).1 in
    let e : m.0.lit.var ≡ l.var = ap (λ (x : Literal). x.var) m.2 in
    omega arith)

module _ (vars : ℕ) (clauses : List (List Literal)) (marks : List Mark) (conflict clause : List Literal) (t : IsTrail vars marks) (learnt : IsLearnt marks conflict clause) where
  -- the literals below the level of the learnt clause
  quiet_but : (level : ℕ) (l : Literal) → clause_level marks conflict ≡ level + 1 → filter (λ x. nat_eq (level_in marks x.var) (clause_level marks conflict)) clause ≡ l ∷ []
      → IsQuiet clauses (literals_of (up_to level marks)) → IsQuietBut clauses clause l (literals_of (up_to level marks))
  quiet_but level l top one quiet = record {
    member = on_top.0;
    one_sign = λ m p n. let a = up_to_true level marks m p in let b = up_to_true level marks (negated m) n in
        one_sign vars marks m t (subst (Contains (literals_of marks)) a.2 (literal-of marks a.0 a.1)) (subst (Contains (literals_of marks)) b.2 (literal-of marks b.0 b.1));
    others_false = λ m c n.
        let f = falsifier_of vars marks clause m t learnt.falsified c in
        let low : f.0.level ≤ level = lower m c n f.0.level f.3 in
        subst (Contains (literals_of (up_to level marks))) f.2 (literal-of (up_to level marks) f.0 (up_to_has level marks f.0 f.1 low));
    untouched = λ m c e.
        let a = up_to_true level marks m c in
        let there : level_in marks l.var ≡ a.0.level = level_of_mark vars marks a.0 l.var t a.1 (ap (λ (x : Literal). x.var) a.2 ∙ e) in
        let low : a.0.level ≤ level = a.3 in
        let high : level_in marks l.var ≡ clause_level marks conflict = (Decides-eqb (level_in marks l.var) (clause_level marks conflict)).0 on_top.1 in
        omega arith;
    not_falsified = quiet.not_falsified;
    not_unit = quiet.not_unit;
  }
    where
      on_top : Contains clause l × (nat_eq (level_in marks l.var) (clause_level marks conflict) ≡ true)
      on_top = Contains-filter (λ (x : Literal). nat_eq (level_in marks x.var) (clause_level marks conflict)) clause l (subst (λ xs. Contains xs l) (sym one) (Contains-head l []))

      lower : (m : Literal) → Contains clause m → m ≢ l → (n : ℕ) → level_in marks m.var ≡ n → n ≤ level
      lower m c other n e = elim (cases_lt (level_in marks m.var) (clause_level marks conflict)) [
        | inl lt ↦ omega arith
        | inr ge ↦
            let le : level_in marks m.var ≤ clause_level marks conflict = All-contains (λ (x : Literal). level_in marks x.var ≤ clause_level marks conflict) clause m learnt.below c in
            let same : level_in marks m.var ≡ clause_level marks conflict = omega arith in
            let there = filter-Contains (λ (x : Literal). nat_eq (level_in marks x.var) (clause_level marks conflict)) clause m c ((Decides-eqb (level_in marks m.var) (clause_level marks conflict)).1 same) in
            absurd (elim (Contains-cases l [] m (subst (λ xs. Contains xs m) one there)) [ inl s ↦ other (sym s) | inr z ↦ Contains-none m z ])
      ]

  teaches : IsQuietBelow (clause_level marks conflict) clauses marks → Teaches clauses clause
  teaches quiet = by (clause_level marks conflict) refl
    where
      by : (n : ℕ) → clause_level marks conflict ≡ n → Teaches clauses clause
      by zero e = inl (learnt.empty e)
      by (suc n) e =
          let one = single (filter (λ x. nat_eq (level_in marks x.var) (clause_level marks conflict)) clause) (learnt.one (omega arith)) in
          inr (one.0, literals_of (up_to n marks), quiet_but n one.0 (omega arith) one.1 (quiet n (omega arith)))

pub learnt_clauses_teach : LearntClausesTeach
learnt_clauses_teach vars clauses marks conflict clause t learnt quiet = teaches vars clauses marks conflict clause t learnt quiet

-- the levels below the highest one are quiet, so those below a clause's are
pub quiet_below_clause : (clauses : List (List Literal)) (marks : List Mark) (conflict : List Literal) → IsQuietBelow (highest_level marks) clauses marks → IsQuietBelow (clause_level marks conflict) clauses marks
quiet_below_clause clauses marks conflict q level low = q level (let b : clause_level marks conflict ≤ highest_level marks = clause_level-bound marks conflict in omega arith)
