use Rattle.std.proofs.Common.{◌∙◌}
use Rattle.truth_witness.specs.Variables.{frame_size}
use Rattle.truth_witness.specs.Frames.{frame, start}
use Rattle.truth_witness.proofs.Within.{frame_within}
use Rattle.witness_clauses.proofs.Bounds.{fit}
use Rattle.witness_clauses.proofs.Fitting.{start_within}
use Rattle.witness_clauses.proofs.claims.Claim.start_clauses.Goals as goal

pub add_base-requires-clause-within : goal.add_base-requires-clause-within
add_base-requires-clause-within c =
    fit c.deref.result.now (frame c.args.self.now) (frame_size c.args.self.now) c.frame_size-vars.result (c.deref.ensures.value ∙ c.in_ok-frame.ensures) c.frame_size-vars.ensures.value
    (frame_within c.args.self.now c.frame_size-vars.ensures.countable.circuit c.frame_size-vars.ensures.countable.list c.requires)

pub add_base-requires-2-clause-within : goal.add_base-requires-2-clause-within
add_base-requires-2-clause-within c =
    fit c.deref-2.result.now (start c.args.self.now) (frame_size c.args.self.now) c.frame_size-vars.result (c.deref-2.ensures.value ∙ c.in_ok-start.ensures) c.frame_size-vars.ensures.value
    (start_within c.args.self.now c.frame_size-vars.ensures.countable.circuit c.frame_size-vars.ensures.countable.list c.requires)
