use Rattle.std.proofs.Common.{◌≡◌, length, map, sym, ap, ◌∙◌, subst}
use Rattle.std.proofs.lemmas.Result.{IfOk-weaker}
use Rattle.annot_check.specs.declared.product.Keyed.{Keyed}
use Rattle.annot_check.specs.Steps.{ArePlaces}
use Rattle.annot_check.proofs.BrokenLemmas.{places_permuted}
use Rattle.annot_check.proofs.product.by_code.Goals as goal

pub returns : goal.returns
returns c =
    IfOk-weaker c.places_of.result (λ places. places.items ≡ map (λ (k : Keyed). k.place) c.deref.result.now) (λ places. ArePlaces (length c.args.pairs.now) places.items)
    (λ places is. subst (ArePlaces (length c.args.pairs.now)) (sym (is ∙ ap (map (λ (k : Keyed). k.place)) c.deref.ensures.value))
    (places_permuted (λ (k : Keyed). k.place) (record { code = 0; place = 0 }) c.in_ok-keyed.keyed.items _ (length c.args.pairs.now)
    c.sort_unstable_by_key.ensures.permutation c.in_ok-keyed.ensures)) c.places_of.ensures
