use Rattle.std.proofs.Common.{◌≡◌, Some, None, Option, sym, ap, subst, ◌∙◌}
use Rattle.machine_model.specs.declared.problems.Problem.{Problem}
use Rattle.document_text.specs.Parts.{LogPart}
use Rattle.document_check.specs.Facts.{problem_at}
use Rattle.document_check.specs.Shown.{facts_of, IsProblemAt, IsReadable, IsSize}
use Rattle.document_check.proofs.ProblemLemmas.{is_problem}
use Rattle.document_check.proofs.LogsLineLemmas.{no_size, no_log, other_size, without_problem, fails_at, goes_on, first_of, size_fits}
use Rattle.document_check.proofs.logs.+logs_line.Goals as goal

pub returns-in_default : goal.returns-in_default
returns-in_default g t c =
    rw c.first_line.ensures
    (no_size (facts_of c.args.facts) c.args.wanted.kind c.args.wanted.version c.args.wanted.full c.args.wanted.limit c.args.wanted.end c.args.sizes.now c.args.logs.now (sym c.in_default.ensures))

pub returns-in_default-first_log : goal.returns-in_default-first_log
returns-in_default-first_log g t c =
    no_log (facts_of c.args.facts) c.args.wanted.kind c.args.wanted.version c.args.wanted.full c.args.wanted.limit c.args.wanted.end c.args.sizes.now c.args.logs.now
    c.in-Some.size c.in-Some.later.now (sym c.in-Some.ensures) (sym c.in_default-first_log.ensures)

pub returns-then-not-is_size_of : goal.returns-then-not-is_size_of
returns-then-not-is_size_of g t c =
    let line : c.log.inside.line ≡ c.in-Some-first_log.log.now.line = ap (λ (l : LogPart). l.line) c.log.view_is in
    rw line
    (other_size (facts_of c.args.facts) c.args.wanted.kind c.args.wanted.version c.args.wanted.full c.args.wanted.limit c.args.wanted.end c.args.sizes.now c.args.logs.now
    c.in-Some.size c.in-Some.later.now (sym c.in-Some.ensures) c.in-Some-first_log.log.now c.in-Some-first_log.others.now (sym c.in-Some-first_log.ensures)
    (sym c.is_size_of.ensures ∙ c.if-not-is_size_of.true))

pub returns-in_default-2 : goal.returns-in_default-2
returns-in_default-2 g t c =
    let line : c.log.inside.line ≡ c.in-Some-first_log.log.now.line = ap (λ (l : LogPart). l.line) c.log.view_is in
    let none : IsProblemAt (problem_at (facts_of c.args.facts) c.args.wanted.kind c.args.wanted.version c.in-Some-first_log.log.now.side c.in-Some-first_log.log.now.size) None =
    subst (λ (o : Option Problem). IsProblemAt (problem_at (facts_of c.args.facts) c.args.wanted.kind c.args.wanted.version c.in-Some-first_log.log.now.side c.in-Some-first_log.log.now.size) o) c.in_default-2.is
    (subst (λ (l : LogPart). IsProblemAt (problem_at (facts_of c.args.facts) c.args.wanted.kind c.args.wanted.version l.side l.size) c.in_ok-problem.field-0) c.log.view_is c.in_ok-problem.ensures.same) in
    rw line
    (without_problem (facts_of c.args.facts) c.args.wanted.kind c.args.wanted.version c.args.wanted.full c.args.wanted.limit c.args.wanted.end c.args.sizes.now c.args.logs.now
    c.in-Some.size c.in-Some.later.now (sym c.in-Some.ensures) c.in-Some-first_log.log.now c.in-Some-first_log.others.now (sym c.in-Some-first_log.ensures)
    (sym c.is_size_of.ensures ∙ c.if-not-is_size_of.false) none)

pub log_line-requires-clause-problem : goal.log_line-requires-clause-problem
log_line-requires-clause-problem g t c lives outlives =
    let size : IsSize c.in-Some.size = (first_of IsSize c.args.sizes.now c.in-Some.size c.in-Some.later.now (sym c.in-Some.ensures) c.requires.sizes).0 in
    let fits = size_fits c.in-Some.size c.in-Some-first_log.log.now (sym c.is_size_of.ensures ∙ c.if-not-is_size_of.false) size in
    let some : IsProblemAt (problem_at (facts_of c.args.facts) c.args.wanted.kind c.args.wanted.version c.in-Some-first_log.log.now.side c.in-Some-first_log.log.now.size) (Some c.in-Some-2.problem) =
    subst (λ (o : Option Problem). IsProblemAt (problem_at (facts_of c.args.facts) c.args.wanted.kind c.args.wanted.version c.in-Some-first_log.log.now.side c.in-Some-first_log.log.now.size) o) c.in-Some-2.is
    (subst (λ (l : LogPart). IsProblemAt (problem_at (facts_of c.args.facts) c.args.wanted.kind c.args.wanted.version l.side l.size) c.in_ok-problem.field-0) c.log.view_is c.in_ok-problem.ensures.same) in
    is_problem (facts_of c.args.facts) c.args.wanted.kind c.args.wanted.version c.in-Some-first_log.log.now.side c.in-Some-first_log.log.now.size c.in-Some-2.problem c.requires.facts fits.0 fits.1 some

pub log_line-requires-clause-log : goal.log_line-requires-clause-log
log_line-requires-clause-log g t c lives outlives = (first_of IsReadable c.args.logs.now c.in-Some-first_log.log.now c.in-Some-first_log.others.now (sym c.in-Some-first_log.ensures) c.requires.logs).0

pub returns-in-Some-3 : goal.returns-in-Some-3
returns-in-Some-3 g t c =
    let some : IsProblemAt (problem_at (facts_of c.args.facts) c.args.wanted.kind c.args.wanted.version c.in-Some-first_log.log.now.side c.in-Some-first_log.log.now.size) (Some c.in-Some-2.problem) =
    subst (λ (o : Option Problem). IsProblemAt (problem_at (facts_of c.args.facts) c.args.wanted.kind c.args.wanted.version c.in-Some-first_log.log.now.side c.in-Some-first_log.log.now.size) o) c.in-Some-2.is
    (subst (λ (l : LogPart). IsProblemAt (problem_at (facts_of c.args.facts) c.args.wanted.kind c.args.wanted.version l.side l.size) c.in_ok-problem.field-0) c.log.view_is c.in_ok-problem.ensures.same) in
    fails_at (facts_of c.args.facts) c.args.wanted.kind c.args.wanted.version c.args.wanted.full c.args.wanted.limit c.args.wanted.end c.args.sizes.now c.args.logs.now
    c.in-Some.size c.in-Some.later.now (sym c.in-Some.ensures) c.in-Some-first_log.log.now c.in-Some-first_log.others.now (sym c.in-Some-first_log.ensures)
    c.in-Some-2.problem c.in-Some-3.line (sym c.is_size_of.ensures ∙ c.if-not-is_size_of.false) some (rw c.in-Some-3.is at c.in_ok-line.ensures)

pub logs_line-requires-clause-sizes : goal.logs_line-requires-clause-sizes
logs_line-requires-clause-sizes g t c lives outlives = (first_of IsSize c.args.sizes.now c.in-Some.size c.in-Some.later.now (sym c.in-Some.ensures) c.requires.sizes).1

pub logs_line-requires-clause-logs : goal.logs_line-requires-clause-logs
logs_line-requires-clause-logs g t c lives outlives = (first_of IsReadable c.args.logs.now c.in-Some-first_log.log.now c.in-Some-first_log.others.now (sym c.in-Some-first_log.ensures) c.requires.logs).1

pub returns : goal.returns
returns g t c =
    let some : IsProblemAt (problem_at (facts_of c.args.facts) c.args.wanted.kind c.args.wanted.version c.in-Some-first_log.log.now.side c.in-Some-first_log.log.now.size) (Some c.in-Some-2.problem) =
    subst (λ (o : Option Problem). IsProblemAt (problem_at (facts_of c.args.facts) c.args.wanted.kind c.args.wanted.version c.in-Some-first_log.log.now.side c.in-Some-first_log.log.now.size) o) c.in-Some-2.is
    (subst (λ (l : LogPart). IsProblemAt (problem_at (facts_of c.args.facts) c.args.wanted.kind c.args.wanted.version l.side l.size) c.in_ok-problem.field-0) c.log.view_is c.in_ok-problem.ensures.same) in
    goes_on (facts_of c.args.facts) c.args.wanted.kind c.args.wanted.version c.args.wanted.full c.args.wanted.limit c.args.wanted.end c.args.sizes.now c.args.logs.now
    c.in-Some.size c.in-Some.later.now (sym c.in-Some.ensures) c.in-Some-first_log.log.now c.in-Some-first_log.others.now (sym c.in-Some-first_log.ensures)
    c.in-Some-2.problem c.in_ok-line-2.line (sym c.is_size_of.ensures ∙ c.if-not-is_size_of.false) some (rw c.in_default-3.is at c.in_ok-line.ensures) c.in_ok-line-2.ensures
