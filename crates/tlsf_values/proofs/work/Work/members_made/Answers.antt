use Rattle.std.proofs.Common.{rules, sym, subst, ◌∙◌}
use Rattle.std.proofs.lemmas.Result.{err_from_is_err_and}
use Rattle.tlsf_values.specs.Results.{IsFault}
use Rattle.tlsf_values.proofs.GrowLemmas.{nodes_grow}
use Rattle.tlsf_values.proofs.PatternLemmas.{member_given, member_fault}
use Rattle.tlsf_values.proofs.work.Work.members_made.Goals as goal

pub returns-in_err-so_far-clause-value : goal.returns-in_err-so_far-clause-value
returns-in_err-so_far-clause-value c =
    let p = err_from_is_err_and c.from_residual.result c.from_residual.ensures.1 in
    let h = rw c.deref.ensures.value at c.in_err-so_far.ensures.value in
    rw (p.1, p.2) (subst (λ o. IsFault o c.in_err-so_far.field-0.0) (sym c.loop-member.invariant.0)
    (member_fault c.args.place c.args.first c.args.members.now c.loop-member.member-index c.member-item.result c.loop-member.so_far c.loop-member.self _ c.loop-member-test.true c.member-item.is h))

pub loop-member-preserved : goal.loop-member-preserved
loop-member-preserved c =
    let h = rw c.deref.ensures.value at c.in_ok-so_far.ensures.value in (
      c.loop-member.invariant.0
          ∙ member_given c.args.place c.args.first c.args.members.now c.loop-member.member-index c.member-item.result c.loop-member.so_far _ c.loop-member.self _ c.loop-member-test.true c.member-item.is h,
      search (rules, nodes_grow),
    )
