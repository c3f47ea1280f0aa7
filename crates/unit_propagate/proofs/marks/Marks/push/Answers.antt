use Rattle.std.proofs.Common.{◌≡◌, ◌<◌, ◌≤◌, length, ap, ◌∙◌, arith}
use Rattle.std.specs.Prelude.{vec_capacity, vec_len}
use Rattle.unit_propagate.specs.Trail.{IsFree, highest_level}
use Rattle.unit_propagate.specs.Marks.{MarkList, room_of}
use Rattle.unit_propagate.proofs.MarksLemmas.{IsMarks-push, has_place}
use Rattle.unit_propagate.proofs.marks.Marks.push.Goals as goal

pub unwrap-requires : goal.unwrap-requires
unwrap-requires c =
    let vars : c.self.inside.vars ≡ c.args.self.now.vars = ap (λ (x : MarkList). x.vars) c.self.view_is in
    let fits : c.var-var.result < room_of c.self.inside.vars = omega arith in
    let free : IsFree c.self.inside.marks.items c.var-var.result = rw (ap (λ (x : MarkList). x.marks) c.self.view_is, c.var-var.ensures.value) c.requires.free in
    let place = has_place c.self.inside.vars c.self.inside.slots.items c.self.inside.trues.items c.self.inside.marks.items _ c.var-var.result (record { positive = c.is_positive-positive.result; place = c.len-place.result }) c.self.invariant fits free in
    let room : length c.self.inside.marks.items < room_of c.self.inside.vars = place.1 in
    let enough : room_of c.self.inside.vars ≤ vec_capacity c.self.inside.marks = c.self.invariant.room in
    let len : vec_len c.self.inside.marks ≡ length c.self.inside.marks.items = c.self.inside.marks.ok.0 in
    c.push.ensures.succeeds (omega arith)

pub invariant_of-self : goal.invariant_of-self
invariant_of-self c =
    let vars : c.self.inside.vars ≡ c.args.self.now.vars = ap (λ (x : MarkList). x.vars) c.self.view_is in
    let marks : c.self.inside.marks.items ≡ c.args.self.now.marks = ap (λ (x : MarkList). x.marks) c.self.view_is in
    let same : highest_level c.self.inside.marks.items ≡ highest_level c.args.self.now.marks = ap highest_level marks in
    let value : c.var-var.result ≡ c.args.lit.var = c.var-var.ensures.value in
    let len : vec_len c.self.inside.marks ≡ length c.self.inside.marks.items = c.self.inside.marks.ok.0 in
    rw (c.var-var.ensures.value, c.code.ensures.value)
    (IsMarks-push c.self.inside.vars c.self.inside.slots.items c.self.inside.trues.items c.self.inside.marks.items _ (record { lit = c.args.lit; level = c.args.level; reason = c.args.reason })
    (record { positive = c.is_positive-positive.result; place = c.len-place.result }) c.push.new.self.items _ c.self.invariant
    (omega arith) (omega arith) (omega arith) (rw (ap (λ (x : MarkList). x.marks) c.self.view_is) c.requires.free) (omega arith) (omega arith)
    (c.len-place.ensures ∙ len) c.is_positive-positive.ensures (rw c.unwrap.ensures at c.push.ensures.items) c.push.ensures.capacity)
