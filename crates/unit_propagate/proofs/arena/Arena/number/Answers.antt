use Rattle.std.proofs.Common.{◌≡◌, ◌≤◌, length, arith}
use Rattle.std.specs.Prelude.{vec_len}
use Rattle.unit_propagate.proofs.ArenaLemmas.{place_low, place_high, number_is}
use Rattle.unit_propagate.proofs.arena.Arena.number.Goals as goal

pub overflow_sub-place : goal.overflow_sub-place
overflow_sub-place c = place_low c.self.inside.lits.items c.self.inside.spans.items c.self.invariant.0 c.self.invariant.1 c.args.place (rw (← c.self.view_is) at c.requires)

pub index-requires : goal.index-requires
index-requires c =
    let low : 2 ≤ c.args.place = place_low c.self.inside.lits.items c.self.inside.spans.items c.self.invariant.0 c.self.invariant.1 c.args.place (rw (← c.self.view_is) at c.requires) in
    let high : c.args.place ≤ length c.self.inside.lits.items = place_high c.self.inside.lits.items c.self.inside.spans.items c.self.invariant.0 c.self.invariant.1 c.args.place (rw (← c.self.view_is) at c.requires) in
    let size : vec_len c.self.inside.lits ≡ length c.self.inside.lits.items = c.self.inside.lits.ok.0 in
    omega arith

pub returns : goal.returns
returns c =
    rw (← c.self.view_is)
    (number_is c.self.inside.lits.items c.self.inside.spans.items c.self.invariant.0 c.self.invariant.1 c.args.place (rw (← c.self.view_is) at c.requires) c.index.result.now c.count_of.result c.index.ensures c.count_of.ensures)
