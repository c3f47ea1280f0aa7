use Rattle.std.proofs.Common.{◌≡◌, true, false, Some, sym, ap, ◌∙◌, rules}
use Rattle.annot_check.specs.AnnotationText.{pair_in}
use Rattle.annot_check.specs.Readings.{is_held}
use Rattle.annot_check.proofs.ReadLemmas.{next_free, next_held}
use Rattle.annot_check.proofs.reading.Taken.take.Goals as goal

pub returns-then-not-branch-clause-next : goal.returns-then-not-branch-clause-next
returns-then-not-branch-clause-next c =
    let some : pair_in c.args.latches c.args.states c.args.line.now ≡ Some c.in-Some.pair = sym c.in_ok-pair.ensures.pair ∙ c.in-Some.is in
    let held : is_held c.in-Some.pair c.args.self.now.places.keys ≡ true = search rules in
    next_held c.args.latches c.args.states c.args.line.now c.args.self.now.pairs.items c.args.self.now.places.keys c.requires.keys c.in-Some.pair some held

pub returns-clause-next : goal.returns-clause-next
returns-clause-next c =
    let some : pair_in c.args.latches c.args.states c.args.line.now ≡ Some c.in-Some.pair = sym c.in_ok-pair.ensures.pair ∙ c.in-Some.is in
    let free : is_held c.in-Some.pair c.args.self.now.places.keys ≡ false = search rules in
    next_free c.args.latches c.args.states c.args.line.now c.args.self.now.pairs.items c.args.self.now.places.keys c.requires.keys c.in-Some.pair some free
    ∙ ap Some (sym (search rules))
