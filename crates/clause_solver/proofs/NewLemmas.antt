-- A clause that teaches contains no clause of the list.
use Rattle.std.proofs.Common.{◌≡◌, ◌≢◌, Bool, true, false, List, [], ◌∷◌, inl, inr, Contains, refl, sym, subst, ◌∙◌, true≢false}
use Rattle.std_lemmas.proofs.Lists.{Contains-head, Contains-none, All-from_contains}
use Rattle.propositional_logic.specs.Literal.{Literal, negated}
use Rattle.propositional_logic.specs.Clause.{IsClause}
use Rattle.propositional_logic.specs.Partial.{is_true_in, IsUnitIn}
use Rattle.propositional_logic.proofs.Tests.{Decides-is_true_in, Decides-is_falsified, unit_found}
use Rattle.refutation_log.specs.Teaches.{IsQuietBut, Teaches}
use Rattle.clause_solver.specs.Laws.{TeachingClausesAreNew}

module _ (clauses : List (List Literal)) (clause known : List Literal) (member : Contains clauses known) (sorted : IsClause known) (part : (l : Literal) → Contains known l → Contains clause l) where
  -- the literal that isn't false is the one literal of the clause in which it would be unit
  is_unit : (l : Literal) (trues : List Literal) → IsQuietBut clauses clause l trues → Contains known l → ⊥
  is_unit l trues q c =
      let unit : IsUnitIn trues known l = record {
        member = c;
        not_true = λ t. q.untouched l t refl;
        not_false = λ f. q.untouched (negated l) f refl;
        others_false = λ m d n. q.others_false m (part m d) n;
      } in
      let found = unit_found trues known l sorted unit in
      let none = q.not_unit known member in
      absurd (cc)

  is_false : (l : Literal) (trues : List Literal) → IsQuietBut clauses clause l trues → (Contains known l → ⊥) → ⊥
  is_false l trues q n =
      let all = (Decides-is_falsified trues known).1 (All-from_contains (λ m. Contains trues (negated m)) known (λ m d. q.others_false m (part m d) (λ e. n (subst (Contains known) e d)))) in
      true≢false (sym all ∙ q.not_falsified known member)

  is_new : known ≢ [] → Teaches clauses clause → ⊥
  is_new some (inl e) = by known refl
    where
      by : (xs : List Literal) → known ≡ xs → ⊥
      by [] s = some s
      by (x ∷ xs) s = Contains-none x (subst (λ ys. Contains ys x) e (part x (subst (λ ys. Contains ys x) (sym s) (Contains-head x xs))))
  is_new some (inr (l, trues, q)) = by (is_true_in known l) refl
    where
      by : (b : Bool) → is_true_in known l ≡ b → ⊥
      by true e = is_unit l trues q ((Decides-is_true_in known l).0 e)
      by false e = is_false l trues q (λ c. true≢false (sym ((Decides-is_true_in known l).1 c) ∙ e))

pub teaching_clauses_are_new : TeachingClausesAreNew
teaching_clauses_are_new clauses clause known teaches member sorted some part = is_new clauses clause known member sorted part some teaches
