use Rattle.tlsf_tokens.proofs.Cutting.{in_order, formed, gaps}
use Rattle.tlsf_tokens.proofs.scan.tokens.Goals as goal

pub returns-clause-in_order : goal.returns-clause-in_order
returns-clause-in_order c = in_order _ _ _ _ _ c.in_ok-list.ensures.cut

pub returns-clause-formed : goal.returns-clause-formed
returns-clause-formed c = formed _ _ _ _ _ c.in_ok-list.ensures.cut

pub returns-clause-gaps : goal.returns-clause-gaps
returns-clause-gaps c = gaps _ _ _ _ _ c.in_ok-list.ensures.cut
