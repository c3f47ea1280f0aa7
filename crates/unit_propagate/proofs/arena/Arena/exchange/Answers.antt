use Rattle.std.proofs.Common.{◌≡◌, ◌+◌, ◌<◌, length, arith, rules}
use Rattle.std.specs.Prelude.{vec_len}
use Rattle.std.proofs.lemmas.Option.{slice_get_within}
use Rattle.unit_propagate.proofs.ArenaLemmas.{place_within, exchanged_heads, exchanged_view}
use Rattle.unit_propagate.proofs.arena.Arena.exchange.Goals as goal

pub overflow_add-start : goal.overflow_add-start
overflow_add-start c =
    let r = rw (← c.self.view_is) at c.requires in
    let lt : c.args.place + c.args.i < length c.self.inside.lits.items =
    place_within c.self.inside.lits.items c.self.inside.spans.items c.args.place c.args.i c.args.j r.0 c.self.invariant.0 c.self.invariant.1 r.1 r.2 r.3 c.args.i r.2 in
    let size : vec_len c.self.inside.lits ≡ length c.self.inside.lits.items = c.self.inside.lits.ok.0 in
    search (lt, size, rules)

pub index-lit-requires : goal.index-lit-requires
index-lit-requires c =
    let r = rw (← c.self.view_is) at c.requires in
    let lt : c.args.place + c.args.i < length c.self.inside.lits.items =
    place_within c.self.inside.lits.items c.self.inside.spans.items c.args.place c.args.i c.args.j r.0 c.self.invariant.0 c.self.invariant.1 r.1 r.2 r.3 c.args.i r.2 in
    let size : vec_len c.self.inside.lits ≡ length c.self.inside.lits.items = c.self.inside.lits.ok.0 in
    omega arith

pub overflow_add-start-2 : goal.overflow_add-start-2
overflow_add-start-2 c =
    let r = rw (← c.self.view_is) at c.requires in
    let lt : c.args.place + c.args.j < length c.self.inside.lits.items =
    place_within c.self.inside.lits.items c.self.inside.spans.items c.args.place c.args.i c.args.j r.0 c.self.invariant.0 c.self.invariant.1 r.1 r.2 r.3 c.args.j r.3 in
    let size : vec_len c.self.inside.lits ≡ length c.self.inside.lits.items = c.self.inside.lits.ok.0 in
    search (lt, size, rules)

pub index-requires : goal.index-requires
index-requires c =
    let r = rw (← c.self.view_is) at c.requires in
    let lt : c.args.place + c.args.j < length c.self.inside.lits.items =
    place_within c.self.inside.lits.items c.self.inside.spans.items c.args.place c.args.i c.args.j r.0 c.self.invariant.0 c.self.invariant.1 r.1 r.2 r.3 c.args.j r.3 in
    let size : vec_len c.self.inside.lits ≡ length c.self.inside.lits.items = c.self.inside.lits.ok.0 in
    omega arith

pub overflow_add-start-3 : goal.overflow_add-start-3
overflow_add-start-3 c =
    let r = rw (← c.self.view_is) at c.requires in
    let lt : c.args.place + c.args.i < length c.self.inside.lits.items =
    place_within c.self.inside.lits.items c.self.inside.spans.items c.args.place c.args.i c.args.j r.0 c.self.invariant.0 c.self.invariant.1 r.1 r.2 r.3 c.args.i r.2 in
    let size : vec_len c.self.inside.lits ≡ length c.self.inside.lits.items = c.self.inside.lits.ok.0 in
    search (lt, size, rules)

pub index_mut-requires : goal.index_mut-requires
index_mut-requires c =
    let r = rw (← c.self.view_is) at c.requires in
    let lt : c.args.place + c.args.i < length c.self.inside.lits.items =
    place_within c.self.inside.lits.items c.self.inside.spans.items c.args.place c.args.i c.args.j r.0 c.self.invariant.0 c.self.invariant.1 r.1 r.2 r.3 c.args.i r.2 in
    let size : vec_len c.self.inside.lits ≡ length c.self.inside.lits.items = c.self.inside.lits.ok.0 in
    omega arith

pub overflow_add-start-4 : goal.overflow_add-start-4
overflow_add-start-4 c =
    let r = rw (← c.self.view_is) at c.requires in
    let lt : c.args.place + c.args.j < length c.self.inside.lits.items =
    place_within c.self.inside.lits.items c.self.inside.spans.items c.args.place c.args.i c.args.j r.0 c.self.invariant.0 c.self.invariant.1 r.1 r.2 r.3 c.args.j r.3 in
    let size : vec_len c.self.inside.lits ≡ length c.self.inside.lits.items = c.self.inside.lits.ok.0 in
    search (lt, size, rules)

pub index_mut-requires-2 : goal.index_mut-requires-2
index_mut-requires-2 c =
    let r = rw (← c.self.view_is) at c.requires in
    let lt : c.args.place + c.args.j < length c.self.inside.lits.items =
    place_within c.self.inside.lits.items c.self.inside.spans.items c.args.place c.args.i c.args.j r.0 c.self.invariant.0 c.self.invariant.1 r.1 r.2 r.3 c.args.j r.3 in
    let size : vec_len c.self.inside.lits ≡ length c.self.inside.lits.items = c.self.inside.lits.ok.0 in
    omega arith

pub invariant_of-self : goal.invariant_of-self
invariant_of-self c =
    let r = rw (← c.self.view_is) at c.requires in
    let kept = exchanged_heads c.self.inside.lits.items c.self.inside.spans.items c.args.place c.args.i c.args.j r.0 c.self.invariant.0 c.self.invariant.1 r.1 r.2 r.3 c.index-lit.result.now c.index.result.now in
    (kept.0, kept.1, c.self.invariant.2)

pub returns : goal.returns
returns c =
    let r = rw (← c.self.view_is) at c.requires in
    rw (← c.self.view_is) (λ d a b there at_i at_j.
    exchanged_view c.self.inside.lits.items c.self.inside.spans.items c.args.place c.args.i c.args.j d c.self.invariant.0 c.self.invariant.1 there (slice_get_within d c.args.i a at_i) (slice_get_within d c.args.j b at_j) c.index-lit.result.now c.index.result.now a b
    c.index-lit.ensures c.index.ensures at_i at_j)
