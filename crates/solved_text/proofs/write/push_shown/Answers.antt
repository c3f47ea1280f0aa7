use Rattle.std.proofs.Common.{[], ◌∷◌, length, rules}
use Rattle.std.specs.Prelude.{flat_map}
use Rattle.std_lemmas.proofs.Lists.{three_parts}
use Rattle.aiger_text.specs.CircuitText.{text_of_lines}
use Rattle.solved_text.specs.Lines.{log_part, refuted_line}
use Rattle.solved_text.proofs.write.push_shown.Goals as goal

pub returns : goal.returns
returns c =
    three_parts c.args.text.now.items (text_of_lines (refuted_line (length c.args.logs.now) ∷ [])) (flat_map log_part c.args.logs.now) c.args.annotation.now
    c.push_numbered.new.text.items c.push_logs.new.text.items c.extend_from_slice.new.self.items
    (search rules) (search rules) (search rules)
