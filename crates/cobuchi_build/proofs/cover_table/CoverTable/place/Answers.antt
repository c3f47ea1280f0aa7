use Rattle.std.proofs.Common.{map, ◌∙◌, ap}
use Rattle.std.proofs.lemmas.List.{map-append}
use Rattle.cobuchi_build.proofs.TableLemmas.{new_covers, new_known, old_covers, old_few, is_old, is_fresh}
use Rattle.cobuchi_build.proofs.cover_table.CoverTable.place.Goals as goal

pub returns-in_ok-push-clause-covers : goal.returns-in_ok-push-clause-covers
returns-in_ok-push-clause-covers c =
    new_covers c.args.covering c.args.formulas.now c.args.set.now c.self.inside.sets.keys _ _ c.self.view_is (c.make_room.ensures c.args.covering c.args.formulas.now c.requires.known) c.insert_full.new.self.keys c.in_ok-place.place c.new-key.result (c.new-key.ensures ∙ c.in_ok-from_slice.ensures.items ∙ c.ids.ensures.value) c.in_ok-place.ensures.keys c.in_ok-place.ensures.index
    (is_fresh _ _ c.in_ok-place.ensures.added c.if-is_new.true) c.in_ok-covers.covers.items c.in_ok-covers.ensures.covers c.in_ok-covers.ensures.few_leaves _ (ap (map (λ covers. covers.items)) c.in_ok-push.ensures.items ∙ map-append (λ covers. covers.items) _ _)

pub returns-in_ok-push-clause-known : goal.returns-in_ok-push-clause-known
returns-in_ok-push-clause-known c =
    new_known c.args.covering c.args.formulas.now c.args.set.now c.self.inside.sets.keys _ _ c.self.view_is (c.make_room.ensures c.args.covering c.args.formulas.now c.requires.known) c.insert_full.new.self.keys c.in_ok-place.place c.new-key.result (c.new-key.ensures ∙ c.in_ok-from_slice.ensures.items ∙ c.ids.ensures.value) c.in_ok-place.ensures.keys c.in_ok-place.ensures.index
    (is_fresh _ _ c.in_ok-place.ensures.added c.if-is_new.true) c.in_ok-covers.covers.items c.in_ok-covers.ensures.covers c.in_ok-covers.ensures.few_leaves _ (ap (map (λ covers. covers.items)) c.in_ok-push.ensures.items ∙ map-append (λ covers. covers.items) _ _)

pub returns-else-is_new-clause-covers : goal.returns-else-is_new-clause-covers
returns-else-is_new-clause-covers c =
    old_covers c.args.covering c.args.formulas.now c.args.set.now c.self.inside.sets.keys _ _ c.self.view_is (c.make_room.ensures c.args.covering c.args.formulas.now c.requires.known) c.insert_full.new.self.keys c.in_ok-place.place c.new-key.result (c.new-key.ensures ∙ c.in_ok-from_slice.ensures.items ∙ c.ids.ensures.value) c.in_ok-place.ensures.keys c.in_ok-place.ensures.index
    (is_old _ _ c.in_ok-place.ensures.added c.if-is_new.false)

pub returns-else-is_new-clause-few_leaves : goal.returns-else-is_new-clause-few_leaves
returns-else-is_new-clause-few_leaves c =
    old_few c.args.covering c.args.formulas.now c.args.set.now c.self.inside.sets.keys _ _ c.self.view_is (c.make_room.ensures c.args.covering c.args.formulas.now c.requires.known) c.insert_full.new.self.keys c.in_ok-place.place c.new-key.result (c.new-key.ensures ∙ c.in_ok-from_slice.ensures.items ∙ c.ids.ensures.value) c.in_ok-place.ensures.keys c.in_ok-place.ensures.index
    (is_old _ _ c.in_ok-place.ensures.added c.if-is_new.false)
