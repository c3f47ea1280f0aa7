use Rattle.std.proofs.Common.{None, Err, ap}
use Rattle.text_limits.specs.declared.TheConstants.{SMALL_LIMITS}
use Rattle.tlsf_expand.specs.FlatText.{spec_seen}
use Rattle.flat_text.specs.FlatOf.{IsFlatFault}
use Rattle.program_replies.specs.Statuses.{status_number}
use Rattle.program_replies.proofs.RefusalLemmas.{refused_by}
use Rattle.flat_answer.proofs.Replies.{refused_expand, refused_lasso}
use Rattle.flat_answer.proofs.texts.expanded.Goals as goal

pub returns-in-Ok-clause-writable : goal.returns-in-Ok-clause-writable
returns-in-Ok-clause-writable c =
    let flat = c.in-Ok.ensures.flat in
    c.expanded_can_be_written.ensures SMALL_LIMITS flat.tree None (spec_seen c.in-Ok.spec) flat.expanded

pub returns-in_ok-refusal-in-Err-clause-refused : goal.returns-in_ok-refusal-in-Err-clause-refused
returns-in_ok-refusal-in-Err-clause-refused c =
    let reply = c.in_ok-refusal-in-Err.field-0 in
    let text = c.args.text.now in
    refused_expand text reply.bytes.items (status_number reply.status)
    (refused_by (IsFlatFault SMALL_LIMITS text None) c.in-Err.fault reply.bytes.items reply.status (λ code place is. c.in-Err.ensures.fault code place (ap Err is)) c.in_ok-refusal-in-Err.ensures)

pub returns-in_ok-refusal-in-Err-clause-refused_to_words : goal.returns-in_ok-refusal-in-Err-clause-refused_to_words
returns-in_ok-refusal-in-Err-clause-refused_to_words c =
    let reply = c.in_ok-refusal-in-Err.field-0 in
    let text = c.args.text.now in
    refused_lasso text reply.bytes.items (status_number reply.status)
    (refused_by (IsFlatFault SMALL_LIMITS text None) c.in-Err.fault reply.bytes.items reply.status (λ code place is. c.in-Err.ensures.fault code place (ap Err is)) c.in_ok-refusal-in-Err.ensures)
