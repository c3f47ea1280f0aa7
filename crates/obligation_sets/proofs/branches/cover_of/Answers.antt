use Rattle.std.proofs.Common.{◌≡◌, ◌≤◌, ◌&&◌, not, false, ap, get_or, length, sym, ◌∙◌, take, arith}
use Rattle.std.proofs.lemmas.List.{get_or-map, length-map, take_all}
use Rattle.obligation_sets.specs.declared.branches.Mark.{Mark}
use Rattle.obligation_sets.specs.Ids.{ids_of}
use Rattle.obligation_sets.specs.Marks.{next_of, postponed_of}
use Rattle.obligation_sets.specs.Reduced.{without}
use Rattle.obligation_sets.proofs.Flags.{left_step, without_taken}
use Rattle.obligation_sets.proofs.IdLists.{rise_of}
use Rattle.obligation_sets.proofs.Marks.{chosen_step}
use Rattle.obligation_sets.proofs.branches.cover_of.Goals as goal

pub loop-id-preserved : goal.loop-id-preserved
loop-id-preserved c =
    let places : length (next_of c.args.marks.now) ≡ length c.args.marks.now = length-map c.args.marks.now (λ (mark : Mark). mark.next) in
    record {
      next = left_step (next_of c.args.marks.now) c.args.dropped.now c.loop-id.id _ _ c.stays.result (omega (arith, c.loop-id-test.true))
          (c.stays.ensures ∙ ap (λ b. b && not (get_or c.args.dropped.now c.loop-id.id false)) (sym (get_or-map (λ (mark : Mark). mark.next) c.args.marks.now c.loop-id.id _ false c.loop-id-test.true)))
          c.loop-id.invariant.next c.in_ok-note_chosen.ensures;
      postponed = chosen_step (λ mark. mark.postponed) c.args.marks.now c.loop-id.id _ _ _ c.loop-id-test.true c.loop-id.invariant.postponed c.in_ok-note_chosen-2.ensures;
    }

pub new-requires : goal.new-requires
new-requires c = rise_of (take c.loop-id.id (without (next_of c.args.marks.now) c.args.dropped.now)) _ c.loop-id.invariant.next

pub new-requires-2 : goal.new-requires-2
new-requires-2 c = rise_of (take c.loop-id.id (postponed_of c.args.marks.now)) _ c.loop-id.invariant.postponed

pub returns : goal.returns
returns c =
    let next : length (next_of c.args.marks.now) ≤ c.loop-id.id = let e : length (next_of c.args.marks.now) ≡ length c.args.marks.now = length-map c.args.marks.now (λ (mark : Mark). mark.next) in omega (arith, c.loop-id-test.false) in
    let postponed : length (postponed_of c.args.marks.now) ≤ c.loop-id.id = let e : length (postponed_of c.args.marks.now) ≡ length c.args.marks.now = length-map c.args.marks.now (λ (mark : Mark). mark.postponed) in omega (arith, c.loop-id-test.false) in
    λ i. record {
      cube = c.args.cube;
      next = (c.new.ensures ∙ c.loop-id.invariant.next ∙ ap ids_of (without_taken (next_of c.args.marks.now) c.args.dropped.now c.loop-id.id next)) i;
      postponed = (c.new-2.ensures ∙ c.loop-id.invariant.postponed ∙ ap ids_of (take_all c.loop-id.id (postponed_of c.args.marks.now) postponed)) i;
    }
