use Rattle.std.proofs.Common.{rules, ap, ◌∙◌}
use Rattle.machine_model.specs.Marked.{is_marked}
use Rattle.machine_model.proofs.Leading.{none_marked}
use Rattle.machine_model.proofs.marks.led_to.Goals as goal

pub mark_all-requires-clause-none : goal.mark_all-requires-clause-none
mark_all-requires-clause-none c = λ r. ap (λ ms. is_marked ms r) (search rules) ∙ none_marked c.states.result r
