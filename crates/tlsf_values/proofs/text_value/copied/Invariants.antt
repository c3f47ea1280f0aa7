use Rattle.std.proofs.Common.{◌≡◌, take}
use Rattle.tlsf_values.proofs.text_value.copied.Given as goal

abbrev pub invariant-loop-place : goal.invariant-loop-place
invariant-loop-place l = l.copy ≡ take l.place l.formulas
