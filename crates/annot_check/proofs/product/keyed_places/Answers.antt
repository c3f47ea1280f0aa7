use Rattle.std.proofs.Common.{◌+◌, map, sym, ap, ◌∙◌, subst}
use Rattle.std.proofs.lemmas.List.{map_push}
use Rattle.annot_check.specs.declared.product.Keyed.{Keyed}
use Rattle.annot_check.specs.Steps.{ArePlaces}
use Rattle.annot_check.proofs.BrokenLemmas.{places_more}
use Rattle.annot_check.proofs.product.keyed_places.Goals as goal

pub loop-place-preserved : goal.loop-place-preserved
loop-place-preserved c =
    subst (ArePlaces (c.loop-place.place + 1)) (sym (ap (map (λ (k : Keyed). k.place)) c.in_ok-push.ensures.items
    ∙ map_push (λ (k : Keyed). k.place) c.loop-place.keyed.items (record { code = c.in_ok-code.code; place = c.loop-place.place })))
    (places_more c.loop-place.place (map (λ (k : Keyed). k.place) c.loop-place.keyed.items) c.loop-place.invariant)
