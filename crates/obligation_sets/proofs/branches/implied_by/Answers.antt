use Rattle.std.proofs.Common.{◌≡◌, ◌-◌, ◌++◌, ◌||◌, suc, true, false, List, Bool, ap, drop, get_or, length, sym, ◌∙◌, take, arith}
use Rattle.obligation_sets.specs.Marks.{next_of}
use Rattle.obligation_sets.specs.Reduced.{implied_down}
use Rattle.obligation_sets.proofs.Flags.{implied_step, written_back}
use Rattle.obligation_sets.proofs.branches.implied_by.Goals as goal

pub loop-place-preserved-then-is_held : goal.loop-place-preserved-then-is_held
loop-place-preserved-then-is_held c =
    let places : length c.mark_implied.new.implied ≡ length c.loop-place.implied.items = c.mark_implied.ensures.places ∙ ap length c.deref_mut.ensures.value in
    let back : take c.loop-place.implied.len (c.mark_implied.new.implied ++ drop (length c.mark_implied.new.implied) c.loop-place.implied.items) ≡ c.mark_implied.new.implied =
    written_back c.mark_implied.new.implied c.loop-place.implied.items c.loop-place.implied.len places c.loop-place.implied.ok.0 in
    let one : c.loop-place.place ≡ suc (c.loop-place.place - 1) = omega (arith, c.loop-place-test.true) in
    let held : (get_or (next_of c.args.marks.now) (c.loop-place.place - 1) false || get_or c.loop-place.implied.items (c.loop-place.place - 1) false) ≡ true =
    ap (λ (l : List Bool). get_or (next_of c.args.marks.now) (c.loop-place.place - 1) false || get_or l (c.loop-place.place - 1) false) (sym c.deref.ensures.value) ∙ sym c.is_held.ensures ∙ c.if-is_held.true in
    record {
      value =
          ap (implied_down c.args.formulas.now (next_of c.args.marks.now) (c.loop-place.place - 1)) back
          ∙ implied_step c.args.formulas.now (next_of c.args.marks.now) c.loop-place.place (c.loop-place.place - 1) c.loop-place.implied.items c.deref_mut.result.now c.mark_implied.new.implied c.node.result one held c.node.ensures.value c.deref_mut.ensures.value c.mark_implied.ensures.flags
          ∙ c.loop-place.invariant.value;
      places = ap length back ∙ places ∙ c.loop-place.invariant.places;
    }
