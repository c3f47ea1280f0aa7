use Rattle.document_check.proofs.FirstBadLemmas.{one_line}
use Rattle.document_check.proofs.HoldLemmas.{holding_has_none}
use Rattle.document_check.proofs.laws.bad_lines_are_determined.Goals as goal

pub returns : goal.returns
returns c = record { one_line = one_line; holding_has_none = holding_has_none }
