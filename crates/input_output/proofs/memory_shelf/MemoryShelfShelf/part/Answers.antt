use Rattle.std.proofs.Common.{rules}
use Rattle.input_output.proofs.EdgeLemmas.{Rose-push, count_of-push_other}
use Rattle.input_output.proofs.memory_shelf.MemoryShelfShelf.part.Goals as goal

pub returns-in_default-clause-failed : goal.returns-in_default-clause-failed
returns-in_default-clause-failed c = λ _. Rose-push c.args.self.now.failed c.count_failure.new.self.failed c.args.name.now (search rules)

pub returns-in_default-clause-others : goal.returns-in_default-clause-others
returns-in_default-clause-others c other differ = count_of-push_other c.args.self.now.failed c.count_failure.new.self.failed c.args.name.now other (search rules) differ
