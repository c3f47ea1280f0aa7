use Rattle.std.proofs.Common.{◌≡◌, ◌+◌, ◌<◌, Bool, true, false, Err, None, Some, [], length, sym, ap, ◌∙◌, arith, rules}
use Rattle.std.specs.Prelude.{if◌then◌else◌}
use Rattle.annot_check.specs.AnnotationText.{pairs_in, pieces_of}
use Rattle.annot_check.specs.Readings.{next_of}
use Rattle.annot_check.proofs.ReadLemmas.{cut_is, next_longer, pair_bad, pair_good, pairs_ended, pairs_open, pairs_short, whole_is}
use Rattle.annot_check.proofs.reading.read_pairs.Goals as goal

pub returns-then-eq-clause-ok : goal.returns-then-eq-clause-ok
returns-then-eq-clause-ok c =
    let cut = cut_is c.loop-line.rest.now c.in-Some.line.now c.in-Some.behind.now (sym c.in-Some.ensures) in
    pairs_ended c.args.latches c.args.states c.args.lines.now.count c.loop-line.taken.pairs.items c.loop-line.rest.now c.in-Some.line.now c.in-Some.behind.now c.loop-line.number
    (pairs_in c.args.latches c.args.states c.args.lines.now.count [] (pieces_of c.args.lines.now.rest.now) (c.args.lines.now.line + 1)) cut.0 c.loop-line.invariant.reading
    (search rules) (search rules)

pub returns-then-len-lines-clause-bad : goal.returns-then-len-lines-clause-bad
returns-then-len-lines-clause-bad c = λ n same.
    let cut = cut_is c.loop-line.rest.now c.in-Some.line.now c.in-Some.behind.now (sym c.in-Some.ensures) in
    pairs_open c.args.latches c.args.states c.args.lines.now.count c.loop-line.taken.pairs.items c.loop-line.rest.now c.in-Some.line.now c.in-Some.behind.now c.loop-line.number
    (pairs_in c.args.latches c.args.states c.args.lines.now.count [] (pieces_of c.args.lines.now.rest.now) (c.args.lines.now.line + 1)) cut.0 c.loop-line.invariant.reading
    (search rules) (search rules) ∙ ap Err (let e : c.loop-line.number ≡ n = cc in e)

pub returns-clause-bad : goal.returns-clause-bad
returns-clause-bad c = λ n same.
    pairs_short c.args.latches c.args.states c.args.lines.now.count c.loop-line.taken.pairs.items c.loop-line.rest.now c.loop-line.number
    (pairs_in c.args.latches c.args.states c.args.lines.now.count [] (pieces_of c.args.lines.now.rest.now) (c.args.lines.now.line + 1)) (whole_is c.loop-line.rest.now (sym c.in_default.ensures))
    c.loop-line.invariant.reading ∙ ap Err (let e : c.loop-line.number ≡ n = cc in e)

pub returns-then-not-branch-clause-bad : goal.returns-then-not-branch-clause-bad
returns-then-not-branch-clause-bad c = λ n same.
    let cut = cut_is c.loop-line.rest.now c.in-Some.line.now c.in-Some.behind.now (sym c.in-Some.ensures) in
    let none : next_of c.args.latches c.args.states c.loop-line.taken.pairs.items c.in-Some.line.now ≡ None =
    c.in_ok-take.ensures.next ∙ ap (λ (b : Bool). if b then Some c.take.new.self.pairs.items else None) (let no : c.in_ok-take.field-0 ≡ false = search rules in no) in
    pair_bad c.args.latches c.args.states c.args.lines.now.count c.loop-line.taken.pairs.items c.loop-line.rest.now c.in-Some.line.now c.in-Some.behind.now c.loop-line.number
    (pairs_in c.args.latches c.args.states c.args.lines.now.count [] (pieces_of c.args.lines.now.rest.now) (c.args.lines.now.line + 1)) cut.0 c.loop-line.invariant.reading
    (search rules) none ∙ ap Err (let e : c.loop-line.number ≡ n = cc in e)

pub loop-line-preserved : goal.loop-line-preserved
loop-line-preserved c =
    let cut = cut_is c.loop-line.rest.now c.in-Some.line.now c.in-Some.behind.now (sym c.in-Some.ensures) in
    let shorter : length c.in-Some.behind.now < length c.loop-line.rest.now = cut.1 in
    let counted = c.loop-line.invariant.counted in
    let numbered = c.loop-line.invariant.numbered in
    let some : next_of c.args.latches c.args.states c.loop-line.taken.pairs.items c.in-Some.line.now ≡ Some c.take.new.self.pairs.items =
    c.in_ok-take.ensures.next ∙ ap (λ (b : Bool). if b then Some c.take.new.self.pairs.items else None) (let taken : c.in_ok-take.field-0 ≡ true = search rules in taken) in
    let one : length c.take.new.self.pairs.items ≡ length c.loop-line.taken.pairs.items + 1 =
    next_longer c.args.latches c.args.states c.in-Some.line.now c.loop-line.taken.pairs.items c.take.new.self.pairs.items some in
    record {
      reading = pair_good c.args.latches c.args.states c.args.lines.now.count c.loop-line.taken.pairs.items c.loop-line.rest.now c.in-Some.line.now c.in-Some.behind.now
          c.loop-line.number (pairs_in c.args.latches c.args.states c.args.lines.now.count [] (pieces_of c.args.lines.now.rest.now) (c.args.lines.now.line + 1)) cut.0
          c.loop-line.invariant.reading c.take.new.self.pairs.items (search rules) some;
      counted = omega (arith, shorter, counted);
      numbered = omega (arith, one, numbered);
      indexed = c.in_ok-take.ensures.indexed;
    }
