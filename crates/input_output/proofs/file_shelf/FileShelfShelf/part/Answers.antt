use Rattle.std.proofs.Common.{rules}
use Rattle.input_output.proofs.EdgeLemmas.{Rose-push, count_of-push_other}
use Rattle.input_output.proofs.file_shelf.FileShelfShelf.part.Goals as goal

pub returns-in-Failed-clause-failed : goal.returns-in-Failed-clause-failed
returns-in-Failed-clause-failed g c = λ _. Rose-push c.args.self.now c.push_reserved.new.self.items c.args.name.now (search rules)

pub returns-in-Failed-clause-others : goal.returns-in-Failed-clause-others
returns-in-Failed-clause-others g c other differ = count_of-push_other c.args.self.now c.push_reserved.new.self.items c.args.name.now other (search rules) differ
