use Rattle.std.proofs.Common.{rules}
use Rattle.solved_flat.proofs.Nodes.{line_is}
use Rattle.solved_flat.proofs.lists.node_line.Goals as goal

pub returns : goal.returns
returns c =
    line_is c.args.names.now c.args.formulas.now c.args.id.0 c.node.result c.in_ok-line.line.items c.push_number.new.out.items c.push.new.self.items c.push_node.new.line.items c.push-2.new.self.items
    c.node.ensures.value (search rules) (search rules) (search rules) (search rules) (search rules)
