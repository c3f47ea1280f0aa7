use Rattle.std.proofs.Common.{◌≡◌, ◌+◌, ◌++◌, ◌∷◌, [], ℕ, Bool, map, sym, ap, ◌∙◌, arith}
use Rattle.std.specs.List.{range_with_len}
use Rattle.std.proofs.lemmas.List.{append_assoc}
use Rattle.std.proofs.lemmas.List.FromFn.{map-range_with_len_more}
use Rattle.annotation_encode.specs.Assigned.{machine_value}
use Rattle.annotation_encode.proofs.assigning.push_machine_values.Goals as goal

pub loop-place-preserved : goal.loop-place-preserved
loop-place-preserved c =
    let value : ℕ → Bool = machine_value c.args.problem.now c.args.machine.now in
    let more : map value (range_with_len 0 (c.loop-place.place + 1)) ≡ map value (range_with_len 0 c.loop-place.place) ++ value c.loop-place.place ∷ [] = map-range_with_len_more value 0 c.loop-place.place c.loop-place.place (omega arith) in
    c.in_ok-push.ensures.items ∙ (λ i. c.loop-place.invariant i ++ c.machine_value.ensures i ∷ [])
    ∙ append_assoc c.args.values.now.items (map value (range_with_len 0 c.loop-place.place)) (value c.loop-place.place ∷ [])
    ∙ ap (λ xs. c.args.values.now.items ++ xs) (sym more)
