use Rattle.std.proofs.Common.{length, subst, sym}
use Rattle.ltl_formula.specs.Nodes.{tree_at}
use Rattle.ltl_formula.specs.Tree.{SignalsBelow}
use Rattle.ltl_formula.proofs.ListSignals.{signals_of_lists_are_kept}
use Rattle.tlsf_expand.specs.FlatText.{spec_seen}
use Rattle.flat_lines.specs.FlatLines.{LineStands, all_names}
use Rattle.flat_lines.proofs.put.write_line.Goals as goal

pub write_formula-requires-clause-named : goal.write_formula-requires-clause-named
write_formula-requires-clause-named c =
    let nodes = c.args.spec.now.formulas in
    let id = c.in-Formula.id in
    let below = signals_of_lists_are_kept.of_formulas (length (all_names (spec_seen c.args.spec.now).expanded)) nodes id
    c.requires.writable.list c.requires.writable.named (subst (LineStands nodes) c.in-Formula.is c.requires.stands) in
    subst (λ n. SignalsBelow n (tree_at nodes id)) (sym c.requires.names) below
