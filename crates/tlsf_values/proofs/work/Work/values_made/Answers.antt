use Rattle.std.proofs.Common.{false, None, map, sym, ap, subst, ◌∙◌}
use Rattle.std.proofs.lemmas.Result.{err_from_is_err_and}
use Rattle.tlsf_syntax.specs.Seen.{pattern_seen}
use Rattle.tlsf_values.specs.Outcomes.{go_on}
use Rattle.tlsf_values.specs.Patterns.{or_truth}
use Rattle.tlsf_values.specs.Results.{IsOutcome}
use Rattle.tlsf_values.proofs.PatternLemmas.{values_end, end_fault}
use Rattle.tlsf_values.proofs.work.Work.values_made.Goals as goal

pub returns-in_err-so_far-clause-value : goal.returns-in_err-so_far-clause-value
returns-in_err-so_far-clause-value c = let p = err_from_is_err_and c.from_residual.result c.from_residual.ensures.1 in rw (p.1, p.2) (end_fault c.args.place c.args.first (map pattern_seen c.args.values.now) None c.args.self.now _ c.in_err-so_far.ensures.value)

pub returns-clause-value : goal.returns-clause-value
returns-clause-value c =
    subst (IsOutcome c.or_truth.result c.or_truth.new.self)
    (sym (values_end c.args.place c.args.first (map pattern_seen c.args.values.now) None c.args.self.now ∙ ap (λ o. go_on o (λ joined w. or_truth c.args.place false joined w)) c.in_ok-so_far.ensures.value)) c.or_truth.ensures.value
