use Rattle.std.proofs.Common.{refl}
use Rattle.tlsf_expand.specs.FlatText.{spec_seen}
use Rattle.flat_answer.specs.Expand.{written}
use Rattle.boundsyn_top.proofs.flat.flat_output.Goals as goal

pub returns-in-Flat : goal.returns-in-Flat
returns-in-Flat c = record {
  answers = written (spec_seen c.in-Flat.spec) refl (rw c.in-Flat.is at c.in_ok-spec.ensures.flat) refl;
  writable = rw c.in-Flat.is at c.in_ok-spec.ensures.writable;
}

pub returns-in-Refused : goal.returns-in-Refused
returns-in-Refused c = record { answers = rw c.in-Refused.is at c.in_ok-spec.ensures.refused; writable = tt }
