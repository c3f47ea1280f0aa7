use Rattle.std.proofs.Common.{◌≡◌, [], drop, length}
use Rattle.kind_conversion.specs.ShiftedList.{put_forms}
use Rattle.kind_conversion.proofs.ListsMade.{AreForms}
use Rattle.kind_conversion.proofs.conversion.converted.Given as goal

abbrev pub invariant-loop-place : goal.invariant-loop-place
invariant-loop-place l = record {
  so_far : put_forms l.most l.shift l.inputs l.formulas (record { nodes = []; forms = [] }) ≡ put_forms l.most l.shift l.inputs (drop l.place l.formulas) (record { nodes = l.made; forms = l.forms.items });
  known : AreForms l.shift l.inputs l.formulas l.made l.forms.items;
  many : length l.forms.items ≡ l.place;
}
