use Rattle.std.proofs.Common.{map}
use Rattle.tlsf_reader.specs.Seen.{seen}
use Rattle.tlsf_reader.proofs.FirstFinite.{begins_keeping, keeps_passing, keeps_to_end}
use Rattle.tlsf_reader.proofs.finite.first_finite.Goals as goal

pub loop-left-init : goal.loop-left-init
loop-left-init c = begins_keeping (map seen c.args.lexemes.now)

pub loop-left-preserved : goal.loop-left-preserved
loop-left-preserved c =
    keeps_passing (map seen c.args.lexemes.now) c.loop-left.left.now c.loop-left.found c.in_front.result c.least-found.result c.in-len1-up.len_at_least c.in_front.ensures c.least-found.ensures c.loop-left.invariant

pub returns : goal.returns
returns c = keeps_to_end (map seen c.args.lexemes.now) c.loop-left.left.now c.loop-left.found c.in_default.len_below c.loop-left.invariant
