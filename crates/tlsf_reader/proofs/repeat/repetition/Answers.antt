use Rattle.std.proofs.Common.{map, sym, ◌∙◌}
use Rattle.tlsf_reader.specs.Seen.{seen}
use Rattle.tlsf_reader.proofs.Repeats.{repeated_then, repeated_else, repeated_done}
use Rattle.tlsf_reader.proofs.repeat.repetition.Goals as goal

pub returns-then-eq : goal.returns-then-eq
returns-then-eq c = repeated_then c.args.symbol (map seen c.args.lexemes.now) c.loop-left.left.now _ c.occurrence.result c.in-len1-up.len_at_least (sym c.eq.ensures ∙ c.if-eq.true) c.loop-left.invariant c.occurrence.ensures

pub loop-left-preserved : goal.loop-left-preserved
loop-left-preserved c = repeated_else c.args.symbol (map seen c.args.lexemes.now) c.loop-left.left.now _ c.in-len1-up.len_at_least (sym c.eq.ensures ∙ c.if-eq.false) c.loop-left.invariant

pub returns : goal.returns
returns c = repeated_done c.args.symbol (map seen c.args.lexemes.now) c.loop-left.left.now c.in_default.len_below c.loop-left.invariant
