use Rattle.std.proofs.Common.{map, sym, ◌∙◌}
use Rattle.tlsf_reader.specs.Seen.{seen}
use Rattle.tlsf_reader.proofs.Repeats.{parts_there, last_lacking}
use Rattle.tlsf_tokens.specs.declared.symbol.Symbol.TheVariants as symbol
use Rattle.tlsf_reader.specs.Faults.{inputs_are, outputs_are}
use Rattle.tlsf_reader.proofs.repeat.part_missing.Goals.{else-has-via-then-has+else-has-2, else-has-via-else-has}
use Rattle.tlsf_reader.proofs.repeat.part_missing.Goals as goal

pub returns-then-has-2 : goal.returns-then-has-2
returns-then-has-2 c = parts_there (map seen c.args.lexemes.now) (sym c.has.ensures ∙ c.if-has.true) (sym c.has-then-has.ensures ∙ c.if-has-2.true)

pub returns-in-len1-up : goal.returns-in-len1-up
returns-in-len1-up c = elim c.else-has.branch [
  | else-has-via-then-has+else-has-2 w ↦ last_lacking c.args.lexemes.now _ symbol.Outputs outputs_are c.in-len1-up.len_at_least (sym w.has-then-has.ensures ∙ w.if-has-2.false)
  | else-has-via-else-has w ↦ last_lacking c.args.lexemes.now _ symbol.Inputs inputs_are c.in-len1-up.len_at_least (sym c.has.ensures ∙ w.if-has.false)
]
