use Rattle.std.proofs.Common.{rules, sym, ◌∙◌}
use Rattle.gate_build.proofs.Steps.{and-none, and-left_all, and-right_all, and-equal, and-gate}
use Rattle.gate_build.proofs.gates.and.Goals as goal

pub returns-then-exclude-clause-value : goal.returns-then-exclude-clause-value
returns-then-exclude-clause-value c = and-none c.args.first c.args.gates.now.keys c.args.x c.args.y (sym c.exclude.ensures ∙ c.if-exclude.true)

pub returns-then-x-eq1-clause-value : goal.returns-then-x-eq1-clause-value
returns-then-x-eq1-clause-value c = and-left_all c.args.first c.args.gates.now.keys c.args.x c.args.y (sym c.exclude.ensures ∙ c.if-exclude.false) c.if-x-eq1.true

pub returns-then-y-eq1-clause-value : goal.returns-then-y-eq1-clause-value
returns-then-y-eq1-clause-value c = and-right_all c.args.first c.args.gates.now.keys c.args.x c.args.y (sym c.exclude.ensures ∙ c.if-exclude.false) c.if-x-eq1.false c.if-y-eq1.true

pub returns-then-x-y-clause-value : goal.returns-then-x-y-clause-value
returns-then-x-y-clause-value c = and-equal c.args.first c.args.gates.now.keys c.args.x c.args.y (sym c.exclude.ensures ∙ c.if-exclude.false) c.if-x-eq1.false c.if-y-eq1.false c.if-x-y.true

pub returns-clause-value : goal.returns-clause-value
returns-clause-value c =
    and-gate c.args.first c.args.gates.now.keys c.args.x c.args.y _ _ _ (sym c.exclude.ensures ∙ c.if-exclude.false) c.if-x-eq1.false c.if-y-eq1.false c.if-x-y.false
    c.in_ok-both.ensures.value (search rules) (search rules)
