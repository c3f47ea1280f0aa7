use Rattle.std.proofs.Common.{◌≡◌, ◌≤◌, length, arith}
use Rattle.std.specs.Prelude.{vec_len}
use Rattle.unit_propagate.proofs.ArenaLemmas.{place_low, place_high, ends_within, clause_is}
use Rattle.unit_propagate.proofs.arena.Arena.at.Goals as goal

pub overflow_sub-start : goal.overflow_sub-start
overflow_sub-start c =
    let low : 2 ≤ c.args.place = place_low c.self.inside.lits.items c.self.inside.spans.items c.self.invariant.0 c.self.invariant.1 c.args.place (rw (← c.self.view_is) at c.requires) in
    omega arith

pub index-requires : goal.index-requires
index-requires c =
    let low : 2 ≤ c.args.place = place_low c.self.inside.lits.items c.self.inside.spans.items c.self.invariant.0 c.self.invariant.1 c.args.place (rw (← c.self.view_is) at c.requires) in
    let high : c.args.place ≤ length c.self.inside.lits.items = place_high c.self.inside.lits.items c.self.inside.spans.items c.self.invariant.0 c.self.invariant.1 c.args.place (rw (← c.self.view_is) at c.requires) in
    let whole : vec_len c.self.inside.lits ≡ length c.self.inside.lits.items = c.self.inside.lits.ok.0 in
    omega arith

pub slice_bounds-result-end : goal.slice_bounds-result-end
slice_bounds-result-end c =
    rw c.deref.ensures.value
    (ends_within c.self.inside.lits.items c.self.inside.spans.items c.self.invariant.0 c.self.invariant.1 c.args.place (rw (← c.self.view_is) at c.requires) c.index.result.now c.count_of-count.result c.index.ensures c.count_of-count.ensures)

pub returns : goal.returns
returns c =
    rw (← c.self.view_is, c.deref.ensures.value)
    (clause_is c.self.inside.lits.items c.self.inside.spans.items c.self.invariant.0 c.self.invariant.1 c.args.place (rw (← c.self.view_is) at c.requires) c.index.result.now c.count_of-count.result c.index.ensures c.count_of-count.ensures)
