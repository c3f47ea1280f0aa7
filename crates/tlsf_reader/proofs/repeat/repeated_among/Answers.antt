use Rattle.std.proofs.Common.{map}
use Rattle.tlsf_reader.specs.Seen.{seen}
use Rattle.tlsf_reader.proofs.Repeats.{among_then, among_done}
use Rattle.tlsf_reader.specs.Places.{RepeatedAmong}
use Rattle.tlsf_reader.proofs.repeat.repeated_among.Goals as goal

pub loop-left-preserved : goal.loop-left-preserved
loop-left-preserved c =
    among_then (RepeatedAmong c.args.symbols.now (map seen c.args.lexemes.now)) (map seen c.args.lexemes.now) c.loop-left.left.now _ c.loop-left.found c.repetition.result c.least-found.result c.in-len1-up.len_at_least c.repetition.ensures
    c.least-found.ensures c.loop-left.invariant

pub returns : goal.returns
returns c = among_done (RepeatedAmong c.args.symbols.now (map seen c.args.lexemes.now)) (map seen c.args.lexemes.now) c.loop-left.left.now c.loop-left.found c.in_default.len_below c.loop-left.invariant
