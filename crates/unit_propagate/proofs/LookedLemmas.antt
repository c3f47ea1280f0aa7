-- What was looked at, as callers see it.
use Rattle.std.proofs.Common.{◌≡◌, ℕ, ◌<◌, min, List, take, length, Contains, arith}
use Rattle.std.proofs.lemmas.List.{length-take}
use Rattle.std.proofs.lemmas.Option.{slice_get_within}
use Rattle.std_lemmas.proofs.Lists.{slice_get-take}
use Rattle.propositional_logic.specs.Literal.{Literal, negated}
use Rattle.unit_propagate.specs.declared.marks.Mark.{Mark}
use Rattle.unit_propagate.specs.declared.propagator.Propagator.{Propagator}
use Rattle.unit_propagate.specs.Trail.{literals_of}
use Rattle.unit_propagate.specs.Watched.{AreLookedAt, HasTrue}
use Rattle.unit_propagate.specs.Watches.{Guard}
use Rattle.unit_propagate.specs.Propagator.{IsKeptPropagator}
use Rattle.unit_propagate.proofs.Places.{slice_get-Contains}
use Rattle.unit_propagate.proofs.TrailLemmas.{literal-of, mark-of}

guarded : (marks : List Mark) (place kept : ℕ) (a : Literal) (c : List Literal) → Guard marks place kept a c → Contains (literals_of (take place marks)) (negated a) → HasTrue marks c
guarded marks place kept a c g h =
    let m = mark-of (take place marks) (negated a) h in
    let i = slice_get-Contains (take place marks) m.0 m.1 in
    let lt : i.0 < length (take place marks) = slice_get_within (take place marks) i.0 m.0 i.1 in
    let len : length (take place marks) ≡ min place (length marks) = length-take place marks in
    let n = g i.0 m.0 (omega arith) (slice_get-take place marks i.0 m.0 i.1) m.2 in
    (n.0.lit, n.2, literal-of marks n.0 n.1)

pub looked_at : (s : Propagator) → IsKeptPropagator s → AreLookedAt s.marks.marks s.watches.watched s.place
looked_at s k = record {
  within = k.place;
  holds = λ i c l at is. guarded s.marks.marks s.place s.kept l c (k.guarded i c l at is);
}
