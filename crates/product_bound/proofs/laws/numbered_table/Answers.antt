use Rattle.std.proofs.Common.{◌≡◌, suc, ◌+◌, ap, ◌∙◌, sym, arith, map, ◌++◌, ◌∷◌, []}
use Rattle.std.specs.List.{range_with_len}
use Rattle.std.proofs.lemmas.List.FromFn.{map-range_with_len_more}
use Rattle.product_bound.specs.Numbered.{named_before, numbered_row}
use Rattle.product_bound.proofs.laws.numbered_table.Goals as goal

pub loop-place-preserved : goal.loop-place-preserved
loop-place-preserved c =
    let e : suc c.loop-place.place ≡ c.loop-place.place + 1 = omega arith in
    let more : map (numbered_row c.args.machine.now) (range_with_len 0 (c.loop-place.place + 1)) ≡ map (numbered_row c.args.machine.now) (range_with_len 0 c.loop-place.place) ++ numbered_row c.args.machine.now c.loop-place.place ∷ [] = map-range_with_len_more (numbered_row c.args.machine.now) 0 c.loop-place.place c.loop-place.place (omega arith) in
    record {
      named = c.in_ok-row.ensures.named ∙ ap (named_before c.args.machine.now) e;
      table = c.in_ok-push-2.ensures.items ∙ (λ i. c.loop-place.invariant.table i ++ c.in_ok-row.ensures.row i ∷ []) ∙ sym more;
    }
