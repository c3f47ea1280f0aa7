use Rattle.std.proofs.Common.{◌≡◌, length, arith}
use Rattle.std.proofs.lemmas.Result.{err_from_is_err_and}
use Rattle.ltl_formula.specs.Nodes.{tree_at}
use Rattle.unrealizable_core.proofs.Copied.{copies_after, known_is, put_fault}
use Rattle.unrealizable_core.proofs.copies.+puts.Goals as goal

pub put-returns-in-Some-clause-value : goal.put-returns-in-Some-clause-value
put-returns-in-Some-clause-value t c = known_is c.args.from.now c.args.known.now c.args.work.now c.args.id c.in-Some.copy c.requires.copies c.in-Some.is

pub put-returns-in_err-copy-clause-value : goal.put-returns-in_err-copy-clause-value
put-returns-in_err-copy-clause-value t c =
    let p = err_from_is_err_and c.from_residual-in_err-copy.result c.from_residual-in_err-copy.ensures.1 in
    rw (p.1, p.2) (put_fault (tree_at c.args.from.now c.args.id) c.args.work.now c.put_parts.new.work c.in_ok-node.node c.in_err-copy.field-0.0 c.in_ok-node.ensures.value c.in_err-copy.ensures.value)

pub put-returns-clause-copies : goal.put-returns-clause-copies
put-returns-clause-copies t c =
    let room : length c.put_parts.new.known ≡ length c.args.from.now = omega arith in
    copies_after c.args.from.now c.put_parts.new.known c.args.id c.args.work.now c.put_parts.new.work c.made.new.self c.in_ok-node.node c.in_ok-copy.copy c.requires.copies.list c.requires.stands room
    c.in_ok-node.ensures.copies c.in_ok-copy.ensures.grows c.in_ok-node.ensures.value c.in_ok-copy.ensures.value
