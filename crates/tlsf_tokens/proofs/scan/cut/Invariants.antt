use Rattle.std.proofs.Common.{length, ◌-◌}
use Rattle.tlsf_tokens.proofs.Cutting.{HasCut}
use Rattle.tlsf_tokens.proofs.scan.cut.Given as goal

abbrev pub invariant-loop-at : goal.invariant-loop-at
invariant-loop-at l = HasCut l.text l.tokens.items l.at

abbrev pub decreases-loop-at : goal.decreases-loop-at
decreases-loop-at l = length l.text - l.at
