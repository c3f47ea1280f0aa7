use Rattle.std.proofs.Common.{◌/◌, ◌%◌, sym, ap, ◌∙◌}
use Rattle.annotation_encode.specs.Variables.{letter_count, var_write}
use Rattle.machine_decode.specs.Written.{letter_from}
use Rattle.machine_decode.proofs.decoding.written_letter.Goals as goal

pub returns-then-signals-eq0 : goal.returns-then-signals-eq0
returns-then-signals-eq0 c =
    sym (ap (letter_from c.args.values.now (var_write c.args.problem.now (c.args.place / letter_count c.args.problem.now) (c.args.place % letter_count c.args.problem.now) 0))
    (sym c.writes-signals.ensures ∙ c.if-signals-eq0.true))

pub returns : goal.returns
returns c = c.letter_from.ensures ∙ (λ j. letter_from c.args.values.now (c.first_write-first.ensures.value j) (c.writes-signals.ensures j))
