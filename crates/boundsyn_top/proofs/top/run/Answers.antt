use Rattle.std.specs.Prelude.{string_bytes}
use Rattle.std.proofs.Common.{map, refl}
use Rattle.boundsyn_top.specs.Output.{bytes_of, status_of}
use Rattle.boundsyn_top.specs.Steps.{step_of}
use Rattle.boundsyn_top.proofs.RunLemmas.{refused_alone, run_ended, run_silent}
use Rattle.boundsyn_top.proofs.top.run.Goals as goal

pub returns-in_default : goal.returns-in_default
returns-in_default g c =
    let p = run_silent (map string_bytes c.args.words.now) (step_of g.H.Shelf.files g.H.Shelf.faults c.args.shelf.now c.reply_to.new.shelf)
    (g.K.Sink.written c.args.out.now) (g.K.Sink.written c.args.out.now)
    (g.K.Sink.faults c.args.out.now) (g.K.Sink.faults c.args.out.now) c.number.result c.number.ensures refl in
    record {
      statuses = p.statuses;
      answered = p.answered;
      words_refused = p.words_refused;
      cannot_read = p.cannot_read;
      cannot_write = p.cannot_write;
      cut_short = p.cut_short;
      bad_words_are_refused = p.bad_words_are_refused;
      fault_is_refused = p.fault_is_refused;
      bad_line_is_refused = p.bad_line_is_refused;
      unread_fault_is_refused = p.unread_fault_is_refused;
      complete = p.complete;
      files = c.reply_to.ensures.files;
      other_files = c.reply_to.ensures.other_files;
      refused_alone = λ stopped name other. c.reply_to.ensures.other_files name (refused_alone (map string_bytes c.args.words.now) _ stopped name other);
    }

pub returns : goal.returns
returns g c =
    let p = run_ended (map string_bytes c.args.words.now) (step_of g.H.Shelf.files g.H.Shelf.faults c.args.shelf.now c.reply_to.new.shelf)
    (g.K.Sink.written c.args.out.now) (g.K.Sink.written c.put_output.new.out)
    (g.K.Sink.faults c.args.out.now) (g.K.Sink.faults c.put_output.new.out) c.refusals_are_determined.ensures
    (bytes_of c.in-Ok.output) (status_of c.in-Ok.output) c.in-Ok.ensures.output.reply c.put_output.result c.put_output.ensures.ok
    c.put_output.ensures.front c.put_output.ensures.failed c.status_after.result (rw c.status-status.ensures at c.status_after.ensures) in
    record {
      statuses = p.statuses;
      answered = p.answered;
      words_refused = p.words_refused;
      cannot_read = p.cannot_read;
      cannot_write = p.cannot_write;
      cut_short = p.cut_short;
      bad_words_are_refused = p.bad_words_are_refused;
      fault_is_refused = p.fault_is_refused;
      bad_line_is_refused = p.bad_line_is_refused;
      unread_fault_is_refused = p.unread_fault_is_refused;
      complete = p.complete;
      files = c.reply_to.ensures.files;
      other_files = c.reply_to.ensures.other_files;
      refused_alone = λ stopped name other. c.reply_to.ensures.other_files name (refused_alone (map string_bytes c.args.words.now) _ stopped name other);
    }
