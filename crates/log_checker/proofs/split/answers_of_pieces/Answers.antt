use Rattle.std.proofs.Common.{◌<◌, ◌≤◌, ◌∙◌, length, subst}
use Rattle.std.specs.List.{AllZip}
use Rattle.rayon.specs.Numbers.{nat_range}
use Rattle.rayon.proofs.ListFacts.{IfOk-then}
use Rattle.rayon.proofs.ToStd.{nat_range-All}
use Rattle.log_checker.specs.Hinted.{IsCheckable}
use Rattle.log_checker.specs.Pieces.{IsOfPiece}
use Rattle.log_checker.proofs.split.answers_of_pieces.Goals as goal

pub collect-requires-clause-ready : goal.collect-requires-clause-ready
collect-requires-clause-ready g c κs =
    let ends = c.into_par_iter.ensures in
    let inside = nat_range-All (λ i. (i < 64) × IsCheckable c.args.base.now.vars c.args.base.now.clauses.items c.args.entries.now × (c.args.to ≤ length c.args.entries.now)) 0 64
    (λ i low high. (high, c.requires.checkable, c.requires.to)) in
    rw (c.map.ensures.base, c.map.ensures.f, c.with_min_len.ensures.base, ends.0, ends.1) (λ lives k d lt. (inside k d lt, λ y p. tt))

pub returns : goal.returns
returns g c =
    let ends = c.into_par_iter.ensures in
    IfOk-then c.collect.result _ _ c.collect.ensures (λ v h.
    let chain = rw (c.map.ensures.base, c.map.ensures.f, c.with_min_len.ensures.base) at h.1 in
    let places = chain.1 ∙ (λ i. nat_range (ends.0 i) (ends.1 i)) in
    rw h.2 (subst (λ ps. AllZip (IsOfPiece c.args.base.now.clauses.items c.args.entries.now c.args.size c.args.to) ps h.0) places chain.2))
