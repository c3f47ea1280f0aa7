use Rattle.std.proofs.Common.{ap, length, ◌∙◌}
use Rattle.std.proofs.lemmas.Result.{IfOk-weaker}
use Rattle.tlsf_expand.specs.FlatText.{spec_seen}
use Rattle.solved_flat.proofs.Shown.{shown_many}
use Rattle.solved_flat.proofs.put.names_shown.Goals as goal

pub returns-clause-many : goal.returns-clause-many
returns-clause-many c =
    IfOk-weaker c.shown_names.result _ _ (λ shown is. ap length is ∙ shown_many c.shift.result (spec_seen c.args.taken.now.spec).expanded) c.shown_names.ensures
