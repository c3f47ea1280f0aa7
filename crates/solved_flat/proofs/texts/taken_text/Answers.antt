use Rattle.std.proofs.Common.{Err, ap}
use Rattle.std.proofs.lemmas.Result.{IfOk-weaker}
use Rattle.program_replies.specs.Statuses.{status_number}
use Rattle.program_replies.proofs.RefusalLemmas.{refused_by}
use Rattle.solve_ground.specs.SolveText.{IsSolveFault}
use Rattle.solved_flat.proofs.Replies.{answerable_so, answers_so, never_refused, refused_expand, refused_lasso, taken_so}
use Rattle.solved_flat.proofs.texts.taken_text.Goals as goal

pub returns-in-Ok-clause-taken : goal.returns-in-Ok-clause-taken
returns-in-Ok-clause-taken c =
    IfOk-weaker c.with_sections.result _ _ (taken_so c.args.text.now c.args.given) (c.with_sections.ensures c.args.given c.in-Ok.ensures.text)

pub returns-in-Ok-clause-answerable : goal.returns-in-Ok-clause-answerable
returns-in-Ok-clause-answerable c =
    IfOk-weaker c.with_sections.result _ _ (answerable_so c.args.text.now c.args.given) (c.with_sections.ensures c.args.given c.in-Ok.ensures.text)

pub returns-in-Ok-clause-answers : goal.returns-in-Ok-clause-answers
returns-in-Ok-clause-answers c =
    IfOk-weaker c.with_sections.result _ _ (answers_so c.args.text.now c.args.given) (c.with_sections.ensures c.args.given c.in-Ok.ensures.text)

pub returns-in-Ok-clause-refused : goal.returns-in-Ok-clause-refused
returns-in-Ok-clause-refused c =
    IfOk-weaker c.with_sections.result _ _ (never_refused c.args.text.now c.args.given _) (c.with_sections.ensures c.args.given c.in-Ok.ensures.text)

pub returns-in-Ok-clause-refused_to_words : goal.returns-in-Ok-clause-refused_to_words
returns-in-Ok-clause-refused_to_words c =
    IfOk-weaker c.with_sections.result _ _ (never_refused c.args.text.now c.args.given _) (c.with_sections.ensures c.args.given c.in-Ok.ensures.text)

pub returns-in_ok-refusal-in-Err-clause-refused : goal.returns-in_ok-refusal-in-Err-clause-refused
returns-in_ok-refusal-in-Err-clause-refused c =
    let reply = c.in_ok-refusal-in-Err.field-0 in
    refused_expand c.args.text.now c.args.given reply.bytes.items (status_number reply.status)
    (refused_by (IsSolveFault c.args.text.now c.args.given) c.in-Err.fault reply.bytes.items reply.status (λ code place is. c.in-Err.ensures.fault code place (ap Err is)) c.in_ok-refusal-in-Err.ensures)

pub returns-in_ok-refusal-in-Err-clause-refused_to_words : goal.returns-in_ok-refusal-in-Err-clause-refused_to_words
returns-in_ok-refusal-in-Err-clause-refused_to_words c =
    let reply = c.in_ok-refusal-in-Err.field-0 in
    refused_lasso c.args.text.now c.args.given reply.bytes.items (status_number reply.status)
    (refused_by (IsSolveFault c.args.text.now c.args.given) c.in-Err.fault reply.bytes.items reply.status (λ code place is. c.in-Err.ensures.fault code place (ap Err is)) c.in_ok-refusal-in-Err.ensures)
