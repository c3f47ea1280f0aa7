use Rattle.std.proofs.Common.{length, subst, sym}
use Rattle.tlsf_syntax.specs.Text.{section_lists}
use Rattle.tlsf_expand.specs.FewSignals.{HasFewSignals}
use Rattle.tlsf_expand.specs.Signals.{Signals}
use Rattle.tlsf_expand.specs.SignalsSeen.{signals_seen}
use Rattle.tlsf_syntax.specs.Seen.{text_seen}
use Rattle.std.proofs.lemmas.Result.{err_from_is_err_and}
use Rattle.tlsf_expand.proofs.Finished.{few_signals, meaning_kept, sections_fault, whole_fault}
use Rattle.tlsf_expand.proofs.expansion.expand.Goals as goal

pub returns-clause-meaning : goal.returns-clause-meaning
returns-clause-meaning c =
    meaning_kept c.args.limits (text_seen c.args.tree.now) c.args.kind c.in-Some.kind (signals_seen c.in_ok-signals.signals) c.declared_signals.new.work (sym c.in-Some.ensures) (rw c.new.ensures at c.in_ok-signals.ensures)
    (section_lists c.in_ok-sections.sections) c.flat_sections.new.work c.in_ok-sections.ensures.value c.in_ok-whole.whole c.whole_formula.new.work c.in_ok-whole.ensures

pub returns-in_err-sections-clause-expansion : goal.returns-in_err-sections-clause-expansion
returns-in_err-sections-clause-expansion c =
    let p = err_from_is_err_and c.from_residual-in_err-sections.result c.from_residual-in_err-sections.ensures.1 in
    rw (p.1, p.2) (sections_fault c.args.limits (text_seen c.args.tree.now) c.args.kind c.in-Some.kind (signals_seen c.in_ok-signals.signals) c.declared_signals.new.work (sym c.in-Some.ensures) (rw c.new.ensures at c.in_ok-signals.ensures)
    c.in_err-sections.field-0.0 c.in_err-sections.ensures.value)

pub returns-in_err-whole-clause-expansion : goal.returns-in_err-whole-clause-expansion
returns-in_err-whole-clause-expansion c =
    let p = err_from_is_err_and c.from_residual-in_err-whole.result c.from_residual-in_err-whole.ensures.1 in
    rw (p.1, p.2) (whole_fault c.args.limits (text_seen c.args.tree.now) c.args.kind c.in-Some.kind (signals_seen c.in_ok-signals.signals) c.declared_signals.new.work (sym c.in-Some.ensures) (rw c.new.ensures at c.in_ok-signals.ensures)
    (section_lists c.in_ok-sections.sections) c.flat_sections.new.work c.in_ok-sections.ensures.value c.in_err-whole.field-0.0 c.in_err-whole.ensures)

pub returns-clause-few : goal.returns-clause-few
returns-clause-few c =
    subst (λ (s : Signals). HasFewSignals c.args.limits (length s.inputs) (length s.outputs) c.whole_formula.new.work.formulas) (sym c.in_ok-sections.ensures.signals)
    (few_signals c.args.limits (text_seen c.args.tree.now) c.args.kind c.in-Some.kind (signals_seen c.in_ok-signals.signals) c.declared_signals.new.work (sym c.in-Some.ensures) (rw c.new.ensures at c.in_ok-signals.ensures)
    (section_lists c.in_ok-sections.sections) c.flat_sections.new.work c.in_ok-sections.ensures.value c.in_ok-whole.whole c.whole_formula.new.work c.in_ok-whole.ensures)
