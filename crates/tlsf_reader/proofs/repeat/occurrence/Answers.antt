use Rattle.std.proofs.Common.{map, sym, ◌∙◌}
use Rattle.tlsf_reader.specs.Seen.{seen}
use Rattle.tlsf_reader.proofs.Repeats.{occurs_then, occurs_else, occurs_done}
use Rattle.tlsf_reader.proofs.repeat.occurrence.Goals as goal

pub loop-left-preserved-then-eq : goal.loop-left-preserved-then-eq
loop-left-preserved-then-eq c =
    occurs_then c.args.symbol (map seen c.args.lexemes.now) c.loop-left.left.now _ c.loop-left.found c.least-found.result c.in-len1-up.len_at_least (sym c.eq.ensures ∙ c.if-eq.true) c.least-found.ensures c.loop-left.invariant

pub loop-left-preserved : goal.loop-left-preserved
loop-left-preserved c = occurs_else c.args.symbol (map seen c.args.lexemes.now) c.loop-left.left.now _ c.loop-left.found c.in-len1-up.len_at_least (sym c.eq.ensures ∙ c.if-eq.false) c.loop-left.invariant

pub returns : goal.returns
returns c = occurs_done c.args.symbol (map seen c.args.lexemes.now) c.loop-left.left.now c.loop-left.found c.in_default.len_below c.loop-left.invariant
