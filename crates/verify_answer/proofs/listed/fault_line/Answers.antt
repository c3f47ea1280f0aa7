use Rattle.std.proofs.Common.{inl, inr, rules}
use Rattle.verify_answer.proofs.Found.{fault_found}
use Rattle.verify_answer.proofs.listed.fault_line.Goals as goal

pub returns : goal.returns
returns c = elim c.requires [
  | inl none ↦ absurd (c.in_ok-line.ensures.some none)
  | inr first ↦ fault_found _ c.args.bytes.now c.args.fault c.in_ok-line.line c.earliest.result first c.in_ok-line.ensures.line (search rules)
]
