use Rattle.std.proofs.Common.{Err, Some, ap}
use Rattle.letters_and_lassos.specs.declared.kinds.Kind.TheVariants.{Mealy}
use Rattle.solve_ground.specs.SolveText.{IsSolveFault}
use Rattle.program_replies.proofs.RefusalLemmas.{refused_by}
use Rattle.check_answer.proofs.answering.fault_for_solve.Goals as goal

pub returns-in-Ok : goal.returns-in-Ok
returns-in-Ok c = record {
  none = λ code place fault. c.solve_texts_are_determined.ensures.no_fault c.args.text.now (Some Mealy) c.in-Ok._known code place c.in-Ok.ensures.text fault;
}

pub returns-in_ok-refusal-in-Err : goal.returns-in_ok-refusal-in-Err
returns-in_ok-refusal-in-Err c =
    let reply = c.in_ok-refusal-in-Err.field-0 in
    refused_by (IsSolveFault c.args.text.now (Some Mealy)) c.in-Err.fault reply.bytes.items reply.status
    (λ code place is. c.in-Err.ensures.fault code place (ap Err is)) c.in_ok-refusal-in-Err.ensures
