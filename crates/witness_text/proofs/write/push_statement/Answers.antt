use Rattle.std.proofs.Common.{[], ◌∷◌, rules}
use Rattle.std.specs.Prelude.{map}
use Rattle.aiger_text.specs.CircuitText.{text_of_lines}
use Rattle.witness_text.specs.Lines.{always_line, gate_line, head_line, latch_line, part_line}
use Rattle.witness_text.proofs.WriteLemmas.{five_parts}
use Rattle.witness_text.proofs.write.push_statement.Goals as goal

pub returns : goal.returns
returns c =
    five_parts c.args.text.now.items (text_of_lines (head_line c.args.witness.now ∷ [])) (text_of_lines (map latch_line c.args.witness.now.latches)) (text_of_lines (map gate_line c.args.witness.now.gates))
    (text_of_lines (always_line c.args.witness.now.always ∷ [])) (text_of_lines (map part_line c.args.witness.now.parts))
    c.push_head.new.text.items c.push_latches.new.text.items c.push_gates.new.text.items c.push_always.new.text.items c.push_parts.new.text.items
    (search rules) (search rules) (search rules) (search rules) (search rules)
