use Rattle.std.proofs.Common.{rules}
use Rattle.aiger_text.specs.CircuitText.{numbers_line}
use Rattle.witness_text.proofs.WriteLemmas.{line_done}
use Rattle.witness_text.proofs.write.push_line.Goals as goal

pub returns : goal.returns
returns c =
    line_done c.args.text.now.items c.args.words.now (numbers_line c.args.numbers.now) c.extend_from_slice.new.self.items c.push_numbers.new.text.items c.push.new.self.items
    (search rules) (search rules) (search rules)
