use Rattle.std.proofs.Common.{◌*◌, ◌≤◌, ap, ◌∙◌, arith}
use Rattle.std.specs.Prelude.{map}
use Rattle.truth_witness.specs.Variables.{frame_size, shifted}
use Rattle.truth_witness.specs.Frames.{frame, next_frame, step}
use Rattle.truth_witness.proofs.Within.{frame_within}
use Rattle.witness_clauses.proofs.Bounds.{fit, fit_small}
use Rattle.witness_clauses.proofs.Fitting.{more_clauses, next_within, step_within}
use Rattle.witness_clauses.proofs.claims.Claim.step_clauses.Goals as goal

pub next_position-requires : goal.next_position-requires
next_position-requires c =
    fit_small c.deref.result.now (frame c.args.self.now) (frame_size c.args.self.now) (c.deref.ensures.value ∙ c.in_ok-frame.ensures) c.frame_size-vars.ensures.countable.small
    (frame_within c.args.self.now c.frame_size-vars.ensures.countable.circuit c.frame_size-vars.ensures.countable.list c.requires)

pub add_base-requires-clause-within : goal.add_base-requires-clause-within
add_base-requires-clause-within c =
    let few : frame_size c.args.self.now ≤ 2 * frame_size c.args.self.now = omega arith in
    fit c.deref-2.result.now (frame c.args.self.now) (2 * frame_size c.args.self.now) (2 * c.frame_size-vars.result) (c.deref-2.ensures.value ∙ c.in_ok-frame.ensures)
    (ap (λ n. 2 * n) c.frame_size-vars.ensures.value)
    (more_clauses (frame_size c.args.self.now) (2 * frame_size c.args.self.now) few (frame c.args.self.now)
    (frame_within c.args.self.now c.frame_size-vars.ensures.countable.circuit c.frame_size-vars.ensures.countable.list c.requires))

pub add_base-requires-2-clause-within : goal.add_base-requires-2-clause-within
add_base-requires-2-clause-within c =
    fit c.deref-3.result.now (next_frame c.args.self.now) (2 * frame_size c.args.self.now) (2 * c.frame_size-vars.result)
    (c.deref-3.ensures.value ∙ c.in_ok-next.ensures ∙ ap (map (map (shifted c.args.self.now))) (c.deref.ensures.value ∙ c.in_ok-frame.ensures)) (ap (λ n. 2 * n) c.frame_size-vars.ensures.value)
    (next_within c.args.self.now c.frame_size-vars.ensures.countable.circuit c.frame_size-vars.ensures.countable.list c.requires)

pub add_base-requires-3-clause-within : goal.add_base-requires-3-clause-within
add_base-requires-3-clause-within c =
    fit c.deref-4.result.now (step c.args.self.now) (2 * frame_size c.args.self.now) (2 * c.frame_size-vars.result) (c.deref-4.ensures.value ∙ c.in_ok-step.ensures)
    (ap (λ n. 2 * n) c.frame_size-vars.ensures.value)
    (step_within c.args.self.now c.frame_size-vars.ensures.countable.circuit c.frame_size-vars.ensures.countable.list c.requires)
