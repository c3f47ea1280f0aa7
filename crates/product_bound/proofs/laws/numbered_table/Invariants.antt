use Rattle.std.proofs.Common.{◌≡◌, map}
use Rattle.std.specs.List.{range_with_len}
use Rattle.product_bound.specs.Numbered.{named_before, numbered_row}
use Rattle.product_bound.proofs.laws.numbered_table.Given as goal

abbrev pub invariant-loop-place : goal.invariant-loop-place
invariant-loop-place l = record {
  named : l.named.items ≡ named_before l.machine l.place;
  table : l.table.items ≡ map (numbered_row l.machine) (range_with_len 0 l.place);
}
