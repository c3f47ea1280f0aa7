use Rattle.std.proofs.Common.{◌≡◌, ◌-◌, ◌++◌, ◌<◌, suc, ap, drop, length, ◌∙◌, take, arith}
use Rattle.cobuchi_build.specs.Occurring.{marked_down}
use Rattle.obligation_sets.proofs.Flags.{written_back}
use Rattle.cobuchi_build.proofs.Meeting.{marked_more}
use Rattle.cobuchi_build.proofs.untils.occurring.Goals as goal

pub loop-place-preserved-then-index : goal.loop-place-preserved-then-index
loop-place-preserved-then-index c =
    let places : length c.mark_parts.new.occurs ≡ length c.loop-place.occurs.items = c.mark_parts.ensures.places ∙ ap length c.deref_mut.ensures.value in
    let back : take c.loop-place.occurs.len (c.mark_parts.new.occurs ++ drop (length c.mark_parts.new.occurs) c.loop-place.occurs.items) ≡ c.mark_parts.new.occurs =
    written_back c.mark_parts.new.occurs c.loop-place.occurs.items c.loop-place.occurs.len places c.loop-place.occurs.ok.0 in
    let one : c.loop-place.place ≡ suc (c.loop-place.place - 1) = omega (arith, c.loop-place-test.true) in
    let within : c.loop-place.place - 1 < length c.loop-place.occurs.items = omega (arith, c.loop-place-test.true, c.loop-place.auto.place, c.loop-place.invariant.places, c.len-place.ensures.value) in
    record {
      value =
          ap (marked_down c.args.formulas.now (c.loop-place.place - 1)) back
          ∙ marked_more c.args.formulas.now c.loop-place.place (c.loop-place.place - 1) c.loop-place.occurs.items c.deref_mut.result.now c.mark_parts.new.occurs c.node.result c.index.result.now one c.index.ensures c.if-index.true within c.node.ensures.value c.deref_mut.ensures.value c.mark_parts.ensures.flags
          ∙ c.loop-place.invariant.value;
      places = ap length back ∙ places ∙ c.loop-place.invariant.places;
    }
