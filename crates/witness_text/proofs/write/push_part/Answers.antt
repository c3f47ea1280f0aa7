use Rattle.std.proofs.Common.{length, rules}
use Rattle.witness_text.specs.Lines.{part_words}
use Rattle.witness_text.proofs.WriteLemmas.{part_done}
use Rattle.witness_text.proofs.write.push_part.Goals as goal

pub returns : goal.returns
returns c =
    part_done c.args.text.now.items part_words c.args.part.now.start c.args.part.now.inv (length c.args.part.now.rank) (length c.args.part.now.index) c.args.part.now.rank c.args.part.now.index
    c.extend_from_slice.new.self.items c.push_numbers.new.text.items c.push_more.new.text.items c.push_more-2.new.text.items c.push.new.self.items
    (search rules) (search rules) (search rules) (search rules) (search rules)
