use Rattle.std.proofs.Common.{◌≡◌, refl, sym, ap, ◌∙◌, arith, rules}
use Rattle.document_text.specs.Parts.{LogPart}
use Rattle.std_lemmas.proofs.Options.{some_none}
use Rattle.document_check.specs.FirstBad.{other_numbers}
use Rattle.document_check.proofs.LogFailLemmas.{fault_fails, fault_within, enough, too_open}
use Rattle.document_check.proofs.logs.log_line.Goals as goal

pub returns-then-not-has_numbers : goal.returns-then-not-has_numbers
returns-then-not-has_numbers g c =
    let line : c.log.inside.line ≡ c.args.log.now.line = ap (λ (l : LogPart). l.line) c.log.view_is in
    rw line (other_numbers (sym c.has_numbers.ensures ∙ c.if-not-has_numbers.true))

pub overflow_add-result-in-Err : goal.overflow_add-result-in-Err
overflow_add-result-in-Err g c =
    let line : c.log.inside.line ≡ c.args.log.now.line = ap (λ (l : LogPart). l.line) c.log.view_is in
    let within = fault_within c.args.full c.args.limit c.args.log.now c.args.problem.now c.in_ok-base.base.vars c.in_ok-base.base.clauses.items c.deref.result.now
    c.in_ok-base.ensures.vars c.in_ok-base.ensures.clauses (search rules) (sym c.has_numbers.ensures ∙ c.if-not-has_numbers.false)
    c.in-Err.fault c.in-Some.entry (λ e. some_none c.entry_of.result c.in-Some.entry c.in-Some.is (c.entry_of.ensures.no_memory e)) (c.in-Err.ensures.fault c.in-Err.fault refl) c.in-Some.ensures.entry in
    let lines = c.requires.log.lines in
    omega (arith, line, within, lines)

pub returns-in-Err : goal.returns-in-Err
returns-in-Err g c =
    let line : c.log.inside.line ≡ c.args.log.now.line = ap (λ (l : LogPart). l.line) c.log.view_is in
    rw line
    (fault_fails c.args.full c.args.limit c.args.log.now c.args.problem.now c.in_ok-base.base.vars c.in_ok-base.base.clauses.items c.deref.result.now
    c.in_ok-base.ensures.vars c.in_ok-base.ensures.clauses (search rules) (sym c.has_numbers.ensures ∙ c.if-not-has_numbers.false)
    c.in-Err.fault c.in-Some.entry (λ e. some_none c.entry_of.result c.in-Some.entry c.in-Some.is (c.entry_of.ensures.no_memory e)) (c.in-Err.ensures.fault c.in-Err.fault refl) c.in-Some.ensures.entry)

pub returns-then-suffices : goal.returns-then-suffices
returns-then-suffices g c =
    enough c.args.full c.args.limit c.args.log.now c.args.problem.now c.in_ok-base.base.vars c.in_ok-base.base.clauses.items c.deref.result.now
    c.in_ok-base.ensures.vars c.in_ok-base.ensures.clauses (search rules) (sym c.has_numbers.ensures ∙ c.if-not-has_numbers.false)
    (search rules) (search rules)

pub returns : goal.returns
returns g c =
    let line : c.log.inside.line ≡ c.args.log.now.line = ap (λ (l : LogPart). l.line) c.log.view_is in
    rw line
    (too_open c.args.full c.args.limit c.args.log.now c.args.problem.now c.in_ok-base.base.vars c.in_ok-base.base.clauses.items c.deref.result.now
    c.in_ok-base.ensures.vars c.in_ok-base.ensures.clauses (search rules) (sym c.has_numbers.ensures ∙ c.if-not-has_numbers.false)
    c.len.result (search rules) (search rules) (search rules))
