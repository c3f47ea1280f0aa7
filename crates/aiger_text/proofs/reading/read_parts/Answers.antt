use Rattle.std.proofs.Common.{◌≡◌, sym, ap, ◌∙◌, inr}
use Rattle.std.specs.Prelude.{Ok}
use Rattle.aiger_text.specs.CircuitFile.{body_from, ending_from, lines_of, no_lines, no_names, and_then, circuit_parts}
use Rattle.aiger_text.specs.Statements.{stated}
use Rattle.aiger_text.specs.Labels.{shown_ending}
use Rattle.aiger_text.proofs.Scanning.{passes_fault}
use Rattle.aiger_text.proofs.Assembly.{parts_unended, header_fault, header_fault_ended, parts_ended, behind_body, with_ending, names_fit}
use Rattle.aiger_text.proofs.reading.read_parts.Goals as goal

pub returns-in-Ok-clause-err : goal.returns-in-Ok-clause-err
returns-in-Ok-clause-err c = inr (parts_unended c.args.bytes.now c.in-Ok.field-0 (sym c.in_default.ensures) c.in-Ok.ensures.ok)

pub returns-in-Err-clause-err : goal.returns-in-Err-clause-err
returns-in-Err-clause-err c = header_fault c.args.bytes.now c.in-Err.fault (sym c.in_default.ensures) c.in-Err.ensures.err

pub returns-in-Err-read_header-clause-err : goal.returns-in-Err-read_header-clause-err
returns-in-Err-read_header-clause-err c =
    header_fault_ended c.args.bytes.now c.in-Some.line.now c.in-Some.text.now c.in-Err-read_header.fault (sym c.in-Some.ensures) c.in-Err-read_header.ensures.err

pub returns-in-Err-read_body-clause-err : goal.returns-in-Err-read_body-clause-err
returns-in-Err-read_body-clause-err c =
    passes_fault behind_body (body_from (no_lines c.in-Ok-read_header.counts) 2 (lines_of c.in-Some.text.now)) (circuit_parts c.args.bytes.now) c.in-Err-read_body.fault
    (parts_ended c.args.bytes.now c.in-Some.line.now c.in-Some.text.now (sym c.in-Some.ensures) c.in-Ok-read_header.counts c.in-Ok-read_header.ensures.ok)
    c.in-Err-read_body.ensures.err

pub returns-in-Ok-read_ending-clause-ok : goal.returns-in-Ok-read_ending-clause-ok
returns-in-Ok-read_ending-clause-ok c =
    let ended : ending_from (no_names (stated c.in-Ok-read_body.body.statements)) c.in-Ok-read_body.body.number (lines_of c.in-Ok-read_body.body.rest.now) ≡ Ok (shown_ending c.in-Ok-read_ending.ending) =
    rw c.in-Ok-blank_labels.ensures.none at c.in-Ok-read_ending.ensures.ok in
    let fit = names_fit (stated c.in-Ok-read_body.body.statements) c.in-Ok-read_body.body.number (lines_of c.in-Ok-read_body.body.rest.now) (shown_ending c.in-Ok-read_ending.ending) ended in
    record {
      parts = parts_ended c.args.bytes.now c.in-Some.line.now c.in-Some.text.now (sym c.in-Some.ensures) c.in-Ok-read_header.counts c.in-Ok-read_header.ensures.ok
          ∙ ap (and_then behind_body) c.in-Ok-read_body.ensures.ok
          ∙ ap (and_then (with_ending (stated c.in-Ok-read_body.body.statements))) ended;
      marked = c.in-Ok-read_body.ensures.marked;
      sound = c.in-Ok-read_body.ensures.sound;
      room = rw c.in-Ok-read_body.ensures.counts c.in-Ok-read_header.ensures.room;
      input_names = fit.0;
      output_names = fit.1;
    }

pub returns-clause-err : goal.returns-clause-err
returns-clause-err c =
    passes_fault (with_ending (stated c.in-Ok-read_body.body.statements))
    (ending_from (no_names (stated c.in-Ok-read_body.body.statements)) c.in-Ok-read_body.body.number (lines_of c.in-Ok-read_body.body.rest.now)) (circuit_parts c.args.bytes.now) c.in-Err-read_ending.fault
    (parts_ended c.args.bytes.now c.in-Some.line.now c.in-Some.text.now (sym c.in-Some.ensures) c.in-Ok-read_header.counts c.in-Ok-read_header.ensures.ok
    ∙ ap (and_then behind_body) c.in-Ok-read_body.ensures.ok)
    (rw c.in-Ok-blank_labels.ensures.none at c.in-Err-read_ending.ensures.err)
