use Rattle.std.proofs.Common.{◌<◌, length, sym, ◌∙◌, arith}
use Rattle.aiger_text.specs.Words.{is_numeral}
use Rattle.aiger_text.proofs.HeaderLemmas.{fails_at}
use Rattle.aiger_text.proofs.header.are_numerals.Goals as goal

pub returns-then-not-is_numeral : goal.returns-then-not-is_numeral
returns-then-not-is_numeral c =
    let within : c.loop-word.word-index < length c.args.words.now = omega arith in
    sym (fails_at is_numeral (λ word. word.now) c.args.words.now c.loop-word.word-index _ within (sym c.is_numeral.ensures ∙ c.if-not-is_numeral.true))
