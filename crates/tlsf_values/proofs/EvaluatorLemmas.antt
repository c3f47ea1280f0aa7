-- The evaluator at one depth by that at the next one.
use Rattle.std.proofs.Common.{◌≡◌, ℕ, zero, suc, ◌-◌, ◌≤◌, List, refl, ap, arith}
use Rattle.tlsf_syntax.specs.declared.expr.Expr.{Expr}
use Rattle.spec_faults.specs.declared.code.SpecCode.TheVariants.{TooDeep}
use Rattle.tlsf_syntax.specs.Tree.{Body}
use Rattle.tlsf_values.specs.declared.work.Work.{Work}
use Rattle.tlsf_values.specs.Names.{Names, Binding}
use Rattle.tlsf_values.specs.Outcomes.{fails, go_on, counted}
use Rattle.tlsf_syntax.specs.Seen.{expr_seen}
use Rattle.tlsf_values.specs.Values.{evaluator, form_value, body_value}
use Rattle.tlsf_values.proofs.SeenLemmas.{start_seen}

pub value_too_deep : (names : Names) (left : ℕ) (bound : List Binding) (e : Expr) (w : Work) → left ≡ 0 →
    (evaluator names left).value bound (expr_seen e) w ≡ fails TooDeep e.span.start
unfolding evaluator
value_too_deep names left bound e w none = rw none (ap (fails TooDeep) (start_seen e))

pub value_deeper : (names : Names) (left : ℕ) (bound : List Binding) (e : Expr) (w : Work) → 1 ≤ left →
    (evaluator names left).value bound (expr_seen e) w ≡ go_on (counted e.span.start 1 w) (λ _ w. form_value names (evaluator names (left - 1)) bound (expr_seen e) w)
unfolding evaluator
value_deeper names zero bound e w some = absurd (omega arith)
value_deeper names (suc left) bound e w some =
    let before : suc left - 1 ≡ left = omega arith in
    rw before (ap (λ place. go_on (counted place 1 w) (λ _ w. form_value names (evaluator names left) bound (expr_seen e) w)) (start_seen e))

pub body_too_deep : (names : Names) (left : ℕ) (bound : List Binding) (place : ℕ) (b : Body) (w : Work) → left ≡ 0 →
    (evaluator names left).body bound place b w ≡ fails TooDeep place
unfolding evaluator
body_too_deep names left bound place b w none = rw none refl

pub body_deeper : (names : Names) (left : ℕ) (bound : List Binding) (place : ℕ) (b : Body) (w : Work) → 1 ≤ left →
    (evaluator names left).body bound place b w ≡ body_value (evaluator names (left - 1)) bound place b w
unfolding evaluator
body_deeper names zero bound place b w some = absurd (omega arith)
body_deeper names (suc left) bound place b w some =
    let before : suc left - 1 ≡ left = omega arith in rw before refl
