-- The numbers of a written set's parts.
use Rattle.std.proofs.Common.{◌≡◌, ◌+◌, ℕ, List, [], ◌∷◌, ◌++◌, drop, ℤ, refl, sym, ap, ◌∙◌}
use Rattle.std.proofs.lemmas.List.{append_assoc, append-nil}
use Rattle.tlsf_syntax.specs.Tree.{Trees, no_trees, tree}
use Rattle.tlsf_syntax.specs.declared.expr.Expr.{Expr}
use Rattle.tlsf_syntax.specs.Seen.{expr_seen, trees_seen}
use Rattle.tlsf_values.specs.declared.value.Value.{Value}
use Rattle.tlsf_values.specs.declared.work.Work.{Work}
use Rattle.tlsf_values.specs.Names.{Binding}
use Rattle.tlsf_values.specs.Outcomes.{Outcome, gives, fails, go_on, Checked, fine, faulty, and_then, checked}
use Rattle.tlsf_values.specs.PartsSeen.{numbers_at, with_part}
use Rattle.tlsf_values.specs.Sorts.{number_in}
use Rattle.tlsf_values.specs.Values.{Evaluator, numbers_in, span_start, values_at}
use Rattle.tlsf_values.proofs.OutcomeLemmas.{go_on_assoc}
use Rattle.tlsf_values.proofs.SeenLemmas.{start_seen}

-- several values after those before
pub after_those : (r : Evaluator) (bound : List Binding) (so_far : List Value) (ts : Trees) (w : Work) → values_at r bound so_far ts w ≡ go_on (values_at r bound [] ts w) (λ vs w. gives (so_far ++ vs) w)
after_those r bound so_far no_trees w = ap (λ vs. gives vs w) (sym (append-nil so_far))
after_those r bound so_far (tree t ts) w = by (r.value bound t w) (λ v w. after_those r bound (so_far ++ v ∷ []) ts w) (λ v w. after_those r bound (v ∷ []) ts w)
  where
    join : (v : Value) (o : Outcome (List Value)) → go_on o (λ vs w. gives ((so_far ++ v ∷ []) ++ vs) w) ≡ go_on (go_on o (λ vs w. gives (v ∷ vs) w)) (λ vs w. gives (so_far ++ vs) w)
    join v (gives vs w) = ap (λ xs. gives xs w) (append_assoc so_far (v ∷ []) vs)
    join v (fails code place) = refl

    by : (o : Outcome Value) → ((v : Value) (w : Work) → values_at r bound (so_far ++ v ∷ []) ts w ≡ go_on (values_at r bound [] ts w) (λ vs w. gives ((so_far ++ v ∷ []) ++ vs) w))
        → ((v : Value) (w : Work) → values_at r bound (v ∷ []) ts w ≡ go_on (values_at r bound [] ts w) (λ vs w. gives (v ∷ vs) w))
        → go_on o (λ v w. values_at r bound (so_far ++ v ∷ []) ts w) ≡ go_on (go_on o (λ v w. values_at r bound (v ∷ []) ts w)) (λ vs w. gives (so_far ++ vs) w)
    by (fails code place) long short = refl
    by (gives v w) long short =
        long v w ∙ join v (values_at r bound [] ts w) ∙ ap (λ o. go_on o (λ vs w. gives (so_far ++ vs) w)) (sym (short v w))

-- the numbers of the expressions after those so far, once all are evaluated
abbrev pub numbers_after : Evaluator → List Binding → Checked (List ℤ) → Trees → Work → Outcome (List ℤ)
numbers_after r bound so_far ts w = go_on (values_at r bound [] ts w) (λ vs w. checked (and_then so_far (λ zs. numbers_in zs ts vs)) (λ zs w. gives zs w) w)

numbers_more : (r : Evaluator) (bound : List Binding) (so_far : Checked (List ℤ)) (t : _) (ts : Trees) (v : Value) (w : Work) →
    go_on (values_at r bound (v ∷ []) ts w) (λ vs w. checked (and_then so_far (λ zs. numbers_in zs (tree t ts) vs)) (λ zs w. gives zs w) w) ≡ numbers_after r bound (with_part so_far (span_start t) v) ts w
numbers_more r bound so_far t ts v w =
    ap (λ o. go_on o (λ vs w. checked (and_then so_far (λ zs. numbers_in zs (tree t ts) vs)) (λ zs w. gives zs w) w)) (after_those r bound (v ∷ []) ts w)
    ∙ go_on_assoc (values_at r bound [] ts w) (λ vs w. gives (v ∷ vs) w) (λ vs w. checked (and_then so_far (λ zs. numbers_in zs (tree t ts) vs)) (λ zs w. gives zs w) w)
    ∙ (λ i. go_on (values_at r bound [] ts w) (λ vs w. checked (joined so_far (number_in (span_start t) v) vs i) (λ zs w. gives zs w) w))
  where
    joined : (so_far : Checked (List ℤ)) (z : Checked ℤ) (vs : List Value) →
        and_then so_far (λ zs. and_then z (λ z. numbers_in (zs ++ z ∷ []) ts vs)) ≡ and_then (and_then so_far (λ zs. and_then z (λ z. fine (zs ++ z ∷ [])))) (λ zs. numbers_in zs ts vs)
    joined (faulty code place) z vs = refl
    joined (fine zs) (faulty code place) vs = refl
    joined (fine zs) (fine z) vs = refl

-- what is left after one more part
pub parts_step : (r : Evaluator) (bound : List Binding) (so_far more : Checked (List ℤ)) (es : List Expr) (i : ℕ) (e : Expr) (w w1 : Work) (v : Value) →
    drop i es ≡ e ∷ drop (i + 1) es → r.value bound (expr_seen e) w ≡ gives v w1 → more ≡ with_part so_far e.span.start v →
    numbers_after r bound so_far (trees_seen (drop i es)) w ≡ numbers_after r bound more (trees_seen (drop (i + 1) es)) w1
parts_step r bound so_far more es i e w w1 v p value is =
    let rest : Trees = trees_seen (drop (i + 1) es) in
    ap (λ xs. numbers_after r bound so_far (trees_seen xs) w) p
    ∙ ap (λ o. go_on (go_on o (λ v w. values_at r bound (v ∷ []) rest w)) (λ vs w. checked (and_then so_far (λ zs. numbers_in zs (tree (expr_seen e) rest) vs)) (λ zs w. gives zs w) w)) value
    ∙ numbers_more r bound so_far (expr_seen e) rest v w1
    ∙ ap (λ place. numbers_after r bound (with_part so_far place v) rest w1) (start_seen e)
    ∙ ap (λ c. numbers_after r bound c rest w1) (sym is)

-- what follows once all parts are numbers
pub numbers_then : {B : Type 0} (r : Evaluator) (bound : List Binding) (ts : Trees) (w : Work) (f : List ℤ → Work → Outcome B) →
    go_on (values_at r bound [] ts w) (λ vs w. checked (numbers_in [] ts vs) f w) ≡ go_on (numbers_at r bound ts w) f
numbers_then r bound ts w f =
    sym (go_on_assoc (values_at r bound [] ts w) (λ vs w. checked (numbers_in [] ts vs) (λ zs w. gives zs w) w) f ∙ (λ i. go_on (values_at r bound [] ts w) (λ vs w. by (numbers_in [] ts vs) w i)))
  where
    by : (c : Checked (List ℤ)) (w : Work) → go_on (checked c (λ zs w. gives zs w) w) f ≡ checked c f w
    by (fine zs) w = refl
    by (faulty code place) w = refl
