use Rattle.named_annotation.specs.Parts.{HasCovers}
use Rattle.named_annotation.proofs.Lines.{KeepsStates}
use Rattle.std.proofs.Common.{length}
use Rattle.named_annotation.proofs.reading.read_states.Given as goal

abbrev pub invariant-loop-alloc : goal.invariant-loop-alloc
invariant-loop-alloc l = record {
  keeps : KeepsStates l.of.formulas.now l.of.f l.states l.head l.named.states.keys l.rest l.line;
  covers : HasCovers l.of.formulas.now l.of.f l.named;
}

abbrev pub decreases-loop-alloc : goal.decreases-loop-alloc
decreases-loop-alloc l = length l.rest
