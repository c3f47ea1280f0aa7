use Rattle.std.proofs.Common.{sym, ◌∙◌}
use Rattle.obligation_sets.proofs.LessAsked.{kept_new}
use Rattle.obligation_sets.proofs.cover_search.keep_minimal.Goals as goal

pub returns : goal.returns
returns c = kept_new _ _ _ _ (sym c.is_covered.ensures ∙ c.if-is_covered.false) c.let_go.ensures c.in_ok-insert.ensures.keys
