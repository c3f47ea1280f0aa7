use Rattle.std.proofs.Common.{◌∙◌, refl, sym, ap, ◌==◌, length}
use Rattle.log_checker.proofs.PlaceLemmas.{repeated, seen_more, end_more, none_more}
use Rattle.log_checker.proofs.places.first_place_fault.Goals as goal

pub returns-then-not-branch : goal.returns-then-not-branch
returns-then-not-branch c =
    let inv = c.loop-i.invariant in
    repeated c.args.limit c.args.entries.now c.loop-i.i c.index-entries-i.result c.loop-i-test.true c.index-entries-i.is (sym c.if-is_past.ensures) (inv.ended ∙ c.if-ended.false)
    c.loop-i.seen.keys inv.seen (sym c.in_ok-insert.ensures.added ∙ c.if-not-branch.true) inv.none

pub loop-i-preserved : goal.loop-i-preserved
loop-i-preserved c =
    let inv = c.loop-i.invariant in
    let past = sym c.if-is_past.ensures in
    let open_end = inv.ended ∙ c.if-ended.false in
    let new = sym c.in_ok-insert.ensures.added ∙ c.if-not-branch.false in
    record {
      seen = seen_more c.args.limit c.args.entries.now c.loop-i.i c.index-entries-i.result c.loop-i-test.true c.index-entries-i.is past open_end
          c.loop-i.seen.keys c.insert.new.self.keys _ refl inv.seen new c.in_ok-insert.ensures.keys;
      ended = end_more c.args.limit c.args.entries.now c.loop-i.i c.index-entries-i.result c.loop-i-test.true c.index-entries-i.is past open_end c.is_empty-ended.result
          (c.is_empty-ended.ensures ∙ ap (λ xs. length xs == 0) c.lits.ensures.value);
      none = none_more c.args.limit c.args.entries.now c.loop-i.i c.index-entries-i.result c.loop-i-test.true c.index-entries-i.is past open_end
          c.loop-i.seen.keys inv.seen new inv.none;
    }
