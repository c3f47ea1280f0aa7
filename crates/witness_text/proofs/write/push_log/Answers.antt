use Rattle.std.proofs.Common.{[], ◌∷◌, length, rules}
use Rattle.std_lemmas.proofs.Lists.{two_parts}
use Rattle.refutation_log.specs.Text.{log_text}
use Rattle.aiger_text.specs.CircuitText.{text_of_lines}
use Rattle.witness_text.specs.Lines.{proof_line}
use Rattle.witness_text.proofs.write.push_log.Goals as goal

pub returns : goal.returns
returns c =
    two_parts c.args.text.now.items (text_of_lines (proof_line c.args.place c.args.log.now.vars c.args.log.now.base (length c.args.log.now.entries) ∷ [])) (log_text c.args.log.now.entries)
    c.push_line.new.text.items c.write_entries.new.out.items (search rules) (search rules)
