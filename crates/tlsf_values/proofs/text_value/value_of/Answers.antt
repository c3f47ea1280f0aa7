use Rattle.std.proofs.Common.{◌≡◌, ap, rules}
use Rattle.std.proofs.lemmas.Result.{err_from_is_err_and}
use Rattle.tlsf_syntax.specs.Seen.{expr_seen}
use Rattle.tlsf_values.specs.EnvSeen.{env_bound, env_names, metered, work_of}
use Rattle.tlsf_values.specs.Outcomes.{gives}
use Rattle.tlsf_values.specs.Results.{IsFault}
use Rattle.tlsf_values.specs.Values.{value_at}
use Rattle.tlsf_values.proofs.OutcomeLemmas.{fault_metered}
use Rattle.tlsf_values.proofs.text_value.value_of.Goals as goal

pub returns-in_err-value-clause-value : goal.returns-in_err-value-clause-value
returns-in_err-value-clause-value c =
    let p = err_from_is_err_and c.from_residual-in_err-value.result c.from_residual-in_err-value.ensures.1 in
    let fault : IsFault (value_at (env_names c.args.tree.now c.args.env.now) (env_bound c.args.env.now) (expr_seen c.args.expr.now) c.args.meter.now.depth (work_of c.args.limits c.args.meter.now.done c.args.formulas.now)) c.in_err-value.field-0.0 = search rules in
    rw (p.1, p.2) (fault_metered c.args.limits _ c.in_err-value.field-0.0 fault)

pub returns-clause-value : goal.returns-clause-value
returns-clause-value c =
    let given : value_at (env_names c.args.tree.now c.args.env.now) (env_bound c.args.env.now) (expr_seen c.args.expr.now) c.args.meter.now.depth (work_of c.args.limits c.args.meter.now.done c.args.formulas.now) ≡ gives c.in_ok-value.value c.value.new.work = search rules in
    ap (metered c.args.limits) given
