use Rattle.std.proofs.Common.{Err, ap}
use Rattle.spec_problems.specs.OfText.{IsFirstFault}
use Rattle.program_replies.proofs.RefusalLemmas.{refused_by}
use Rattle.text_ground.proofs.texts.problems_or_refusal.Goals as goal

pub returns-in-Ok-clause-text : goal.returns-in-Ok-clause-text
returns-in-Ok-clause-text c =
    let e = c.in-Ok.ensures in
    record { are = e.problems; accept = e.accept; says = e.means }

pub returns-in_ok-refusal-in-Err-clause-text : goal.returns-in_ok-refusal-in-Err-clause-text
returns-in_ok-refusal-in-Err-clause-text c =
    let reply = c.in_ok-refusal-in-Err.field-0 in
    refused_by (IsFirstFault c.args.text.now c.args.kind) c.in-Err.fault reply.bytes.items reply.status
    (λ code place is. c.in-Err.ensures.fault code place (ap Err is)) c.in_ok-refusal-in-Err.ensures
