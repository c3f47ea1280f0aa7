use Rattle.std.proofs.Common.{◌≡◌, [], drop, length, map}
use Rattle.ltl_formula.specs.Nodes.{tree_at}
use Rattle.unrealizable_core.specs.Copies.{AreCopies}
use Rattle.unrealizable_core.specs.Put.{put_all}
use Rattle.unrealizable_core.proofs.Copied.{behind}
use Rattle.unrealizable_core.proofs.copies.put_all.Given as goal

abbrev pub invariant-loop-id : goal.invariant-loop-id
invariant-loop-id l = record {
  so_far : behind [] (put_all (map (tree_at l.from) l.ids) l.fn.work) ≡ behind l.copies.items (put_all (map (tree_at l.from) (drop l.id-index l.ids)) l.work);
  known : AreCopies l.from l.known l.work.formulas;
  room : length l.known ≡ length l.from;
}
