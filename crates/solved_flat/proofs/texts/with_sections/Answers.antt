use Rattle.std.proofs.Common.{Err, ap}
use Rattle.text_limits.specs.declared.TheConstants.{LARGE_LIMITS}
use Rattle.flat_text.specs.FlatOf.{IsFlatFault}
use Rattle.program_replies.specs.Statuses.{status_number}
use Rattle.program_replies.proofs.RefusalLemmas.{refused_by}
use Rattle.solved_flat.proofs.Replies.{can_be_answered, is_taken, not_refused}
use Rattle.solved_flat.proofs.texts.with_sections.Goals as goal

pub returns-in-Ok : goal.returns-in-Ok
returns-in-Ok c = λ given is. (
  is_taken c.args.text.now given c.args.known is c.flat_texts_are_determined.ensures c.expanded_can_be_written.ensures c.in-Ok.spec c.in-Ok.ensures.flat,
  can_be_answered c.args.text.now given c.args.known is c.flat_texts_are_determined.ensures c.expanded_can_be_written.ensures c.in-Ok.spec c.in-Ok.ensures.flat c.in-Ok.ensures.few,
)

pub returns-in_ok-refusal-in-Err : goal.returns-in_ok-refusal-in-Err
returns-in_ok-refusal-in-Err c = λ given is.
    let reply = c.in_ok-refusal-in-Err.field-0 in
    not_refused c.args.text.now given c.args.known is c.flat_texts_have_no_fault.ensures reply.bytes.items (status_number reply.status)
    (refused_by (IsFlatFault LARGE_LIMITS c.args.text.now _) c.in-Err.fault reply.bytes.items reply.status (λ code place at. c.in-Err.ensures.fault code place (ap Err at)) c.in_ok-refusal-in-Err.ensures)
