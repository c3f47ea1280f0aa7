use Rattle.std.proofs.Common.{◌≡◌, refl, sym, ap, subst, ◌∙◌, rules}
use Rattle.std.proofs.lemmas.Result.{IfOk-weaker}
use Rattle.solved_text.specs.Parts.{SizeLog}
use Rattle.size_refutations.specs.FirstBad.{FailsOver, other_numbers}
use Rattle.size_refutations.specs.Parts.{entry_named}
use Rattle.size_refutations.proofs.Overs.{ended_by, fault_fails, fault_within}
use Rattle.size_refutations.proofs.logs.line_over.Goals as goal

pub returns-then-not-has_numbers : goal.returns-then-not-has_numbers
returns-then-not-has_numbers c =
    let line : c.log.inside.line ≡ c.args.log.now.line = ap (λ (l : SizeLog). l.line) c.log.view_is in
    rw line (other_numbers (sym c.has_numbers.ensures ∙ c.if-not-has_numbers.true))

pub returns-in-Ok : goal.returns-in-Ok
returns-in-Ok c =
    ended_by c.args.size.problem.now c.args.size.letters.now c.args.log.now c.in_ok-base.base.vars c.in_ok-base.base.clauses.items c.deref.result.now
    c.in_ok-base.ensures.vars c.in_ok-base.ensures.clauses (search rules) (sym c.has_numbers.ensures ∙ c.if-not-has_numbers.false)
    c.end_line.result (c.in-Ok.ensures.ok refl) c.end_line.ensures

pub fault_line-requires-clause-within : goal.fault_line-requires-clause-within
fault_line-requires-clause-within c some =
    fault_within c.args.size.problem.now c.args.size.letters.now c.args.log.now c.in_ok-base.base.vars c.in_ok-base.base.clauses.items c.deref.result.now
    c.in_ok-base.ensures.vars c.in_ok-base.ensures.clauses (search rules) (sym c.has_numbers.ensures ∙ c.if-not-has_numbers.false)
    c.in-Err.fault (entry_named c.in-Err.fault) some (c.in-Err.ensures.fault c.in-Err.fault refl) refl

pub returns : goal.returns
returns c =
    IfOk-weaker c.fault_line.result _ _
    (λ line named. subst (FailsOver c.args.size.problem.now c.args.size.letters.now c.args.log.now) (sym named.line_is)
    (fault_fails c.args.size.problem.now c.args.size.letters.now c.args.log.now c.in_ok-base.base.vars c.in_ok-base.base.clauses.items c.deref.result.now
    c.in_ok-base.ensures.vars c.in_ok-base.ensures.clauses (search rules) (sym c.has_numbers.ensures ∙ c.if-not-has_numbers.false)
    c.in-Err.fault (entry_named c.in-Err.fault) named.some (c.in-Err.ensures.fault c.in-Err.fault refl) refl)) c.fault_line.ensures
