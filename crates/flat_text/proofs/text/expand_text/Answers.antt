use Rattle.std.proofs.Common.{Err, ap, ◌∙◌, arith}
use Rattle.std.proofs.lemmas.Result.{err_from_is_err_and}
use Rattle.tlsf_syntax.specs.Seen.{text_seen}
use Rattle.flat_text.specs.FlatOf.{of_reading}
use Rattle.flat_text.proofs.NamesOfTrees.{plain_names}
use Rattle.flat_text.proofs.Whole.{flat_of, fault_of, same_error}
use Rattle.flat_text.proofs.text.expand_text.Goals as goal

pub returns-in_err-tree-clause-fault : goal.returns-in_err-tree-clause-fault
returns-in_err-tree-clause-fault c =
    let p = err_from_is_err_and c.from_residual.result c.from_residual.ensures.1 in
    λ code place refused. of_reading code place (c.in_err-tree.ensures.fault code place (same_error c.in_err-tree.field-0.0 _ c.from_residual.result (p.1 ∙ ap Err p.2) refused))

pub returns-clause-flat : goal.returns-clause-flat
returns-clause-flat c = flat_of c.args.limits c.args.text.now c.args.kind (text_seen c.in_ok-tree.tree) c.expand.result c.in_ok-tree.ensures.tree c.expand.ensures.expansion c.expand.ensures.meaning

pub returns-clause-fault : goal.returns-clause-fault
returns-clause-fault c = fault_of c.args.limits c.args.text.now c.args.kind (text_seen c.in_ok-tree.tree) c.expand.result c.in_ok-tree.ensures.tree c.expand.ensures.expansion

pub returns-clause-names : goal.returns-clause-names
returns-clause-names c =
    plain_names c.args.limits (omega arith) c.args.text.now c.args.kind c.expand.result (flat_of c.args.limits c.args.text.now c.args.kind (text_seen c.in_ok-tree.tree) c.expand.result c.in_ok-tree.ensures.tree c.expand.ensures.expansion c.expand.ensures.meaning)
