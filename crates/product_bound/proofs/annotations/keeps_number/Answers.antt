use Rattle.std.proofs.Common.{sym, ◌∙◌}
use Rattle.std.proofs.lemmas.Bool.{true≢false}
use Rattle.product_bound.proofs.KeptLemmas.{none_kept}
use Rattle.product_bound.proofs.annotations.keeps_number.Goals as goal

pub returns-in-Some-None : goal.returns-in-Some-None
returns-in-Some-None c = (
  λ never. absurd (true≢false (sym never)),
  λ kept. absurd (none_kept c.args.problem.now c.args.numbers.now c.args.from.0 c.args.from.1 c.args.to.0 c.args.to.1 c.in-Some-None.field-0-0 (sym c.number_at.ensures ∙ c.in-Some-None.is-0) (sym c.number_at-2.ensures ∙ c.in-Some-None.is-1) kept),
)
