use Rattle.tlsf_reader.proofs.Descending.{read_stop, read_other}
use Rattle.tlsf_reader.proofs.Climbing.{read_exit}
use Rattle.tlsf_reader.proofs.DefinitionDescending.{guard_from, guard_tree, no_guard}
use Rattle.tlsf_reader.proofs.definition.guard.Goals as goal

pub returns-in_err-tree-clause-read : goal.returns-in_err-tree-clause-read
returns-in_err-tree-clause-read c = read_exit _ c.from_residual.ensures.1 (read_other (λ d. no_guard) guard_from c.in_default.ensures.next (read_stop (λ d. guard_tree) c.in_err-tree.ensures.read))
