use Rattle.std.proofs.Common.{sym, ◌∙◌}
use Rattle.tlsf_syntax.specs.Text.{section_lists}
use Rattle.unrealizable_core.proofs.Reducing.{keeps_signals, same_err, says_whole, too_many}
use Rattle.unrealizable_core.proofs.whole.whole_of.Goals as goal

pub returns-in-Ok-clause-truth : goal.returns-in-Ok-clause-truth
returns-in-Ok-clause-truth c =
    says_whole c.args.formulas.now c.is_list.ensures c.args.keep.now (section_lists c.args.sections.now) c.requires.stand c.args.strict c.in-Ok.reduced c.in-Ok.ensures.ok

pub returns-in-Ok-clause-signals : goal.returns-in-Ok-clause-signals
returns-in-Ok-clause-signals c =
    keeps_signals c.args.formulas.now c.is_list.ensures c.args.keep.now (section_lists c.args.sections.now) c.requires.stand c.args.strict c.in-Ok.reduced c.in-Ok.ensures.ok

pub returns-in-Err-clause-too_many : goal.returns-in-Err-clause-too_many
returns-in-Err-clause-too_many c = λ refused.
    too_many c.args.formulas.now c.is_list.ensures c.args.keep.now (section_lists c.args.sections.now) c.requires.stand c.args.strict c.in-Err.fault c.in-Err.ensures.fault
    (sym c.add_fault.ensures ∙ same_err _ _ refused)
