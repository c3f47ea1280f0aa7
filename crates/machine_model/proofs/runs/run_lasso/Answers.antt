use Rattle.std.proofs.Common.{◌≡◌, ◌+◌, ◌<◌, length, replicate, arith, ◌∙◌, sym, ap, rules, None}
use Rattle.std.proofs.lemmas.List.{get_or_read}
use Rattle.letters_and_lassos.specs.Word.{lasso_len}
use Rattle.letters_and_lassos.proofs.Positions.{after-own}
use Rattle.machine_model.proofs.Tables.{size_pos}
use Rattle.machine_model.proofs.Closing.{Closes, cut, run-cut, same-cut}
use Rattle.machine_model.proofs.Walks.{IsWalk, course_start, along_ring, walk_start, walk_more, walk_closes}
use Rattle.machine_model.proofs.runs.run_lasso.Goals as goal
use Rattle.machine_model.proofs.runs.run_lasso.Goals.{After-unwrap-begin, After-drop-met-2}

pub follow-requires-clause-course : goal.follow-requires-clause-course
follow-requires-clause-course c =
    rw (c.start-course.ensures.letters, c.start-course.ensures.states, c.start-course.ensures.state)
    (course_start c.args.machine.now c.args.side c.args.reads.now (size_pos c.args.machine.now c.size-size.ensures.kept.machine.shape))

pub follow-requires-clause-place : goal.follow-requires-clause-place
follow-requires-clause-place c k h =
    let ring : 0 < length c.args.reads.now.ring = c.requires.ring in
    let within : k < lasso_len c.args.reads.now = omega (arith, ring, ap length c.stem-ring_start.ensures.value) in
    let e : 0 + k ≡ k = omega arith in
    rw (c.start-course.ensures.letters, e) (after-own c.args.reads.now k within)

pub loop-course-init : goal.loop-course-init
loop-course-init c =
    let s : length c.stem-ring_start.result.now ≡ length c.args.reads.now.stem = ap length c.stem-ring_start.ensures.value in
    let n : length c.follow.new.self.letters.items ≡ length c.args.reads.now.stem =
    omega (arith, s, ap length c.start-course.ensures.letters, c.in_ok-follow.ensures.len) in
    let none : c.in_ok-met.met.items ≡ replicate c.size-size.result None = c.in_ok-met.ensures.items_if_clones_equal (λ y h. search rules) in (
      walk_start c.args.machine.now c.args.side c.args.reads.now c.follow.new.self.letters.items c.follow.new.self.states.items c.follow.new.self.state c.in_ok-met.met.items
          c.requires.ring c.in_ok-follow.ensures.course n (rw c.size-size.ensures.value at none),
      s,
    )

pub follow-requires-in-None-clause-place : goal.follow-requires-in-None-clause-place
follow-requires-in-None-clause-place c k h =
    let s : length c.stem-ring_start.result.now ≡ length c.args.reads.now.stem = ap length c.stem-ring_start.ensures.value in
    let within : length c.args.reads.now.stem + k < lasso_len c.args.reads.now = omega (arith, s, c.len-in-None.ensures.value) in
    rw s (along_ring c.args.reads.now (length c.loop-course.course.letters.items) k c.requires.ring c.loop-course.invariant.0.position within)

pub loop-course-preserved : goal.loop-course-preserved
loop-course-preserved c =
    let s : length c.stem-ring_start.result.now ≡ length c.args.reads.now.stem = ap length c.stem-ring_start.ensures.value in
    let k : c.len.result ≡ length c.loop-course.course.letters.items = omega (arith, c.len.ensures, c.loop-course.course.letters.ok.0) in
    let n : length c.follow-in-None.new.self.letters.items + length c.args.reads.now.stem ≡ length c.loop-course.course.letters.items + lasso_len c.args.reads.now =
    omega (arith, s, c.len-in-None.ensures.value, c.in_ok-follow-2.ensures.len) in (
      rw k (walk_more c.args.machine.now c.args.side c.args.reads.now c.loop-course.course.letters.items c.loop-course.course.states.items c.loop-course.course.state c.loop-course.met.items
          c.follow-in-None.new.self.letters.items c.follow-in-None.new.self.states.items c.follow-in-None.new.self.state
          c.requires.ring c.loop-course.invariant.0 c.in_ok-follow-2.ensures.course n),
      s,
    )

found : (c : After-unwrap-begin) → Closes c.args.machine.now c.args.side c.args.reads.now c.loop-course.course.letters.items c.loop-course.course.states.items c.loop-course.course.state c.unwrap-begin.result
found c =
    let walk : IsWalk c.args.machine.now c.args.side c.args.reads.now c.loop-course.course.letters.items c.loop-course.course.states.items c.loop-course.course.state c.loop-course.met.items = c.loop-course.invariant.0 in
    let within : c.loop-course.course.state < length c.loop-course.met.items = rw walk.places walk.course.within in
    walk_closes c.args.machine.now c.args.side c.args.reads.now c.loop-course.course.letters.items c.loop-course.course.states.items c.loop-course.course.state c.loop-course.met.items
    c.unwrap-begin.result walk (sym (get_or_read c.loop-course.met.items c.loop-course.course.state c.index-2.result.now within c.index-2.ensures None) ∙ c.unwrap-begin.ensures)

pub split_off-requires : goal.split_off-requires
split_off-requires c =
    let d = (goal.at.split_off-requires c).After-unwrap-begin in
    let before : c.unwrap-begin.result < length c.loop-course.course.letters.items = (found d).before in
    omega (arith, before, c.loop-course.course.letters.ok.0)

-- the word is the letters cut at the place that was found
word : (c : After-drop-met-2) → c.unwrap.result ≡ cut c.loop-course.course.letters.items c.unwrap-begin.result
word c = rw (← c.in_ok-ring.ensures.items, ← c.in_ok-ring.ensures.tail) (rw c.unwrap.ensures at c.new.ensures.parts)

pub returns-clause-run : goal.returns-clause-run
returns-clause-run c =
    let d = (goal.at.returns-clause-run c).After-unwrap-begin in
    rw (word c) (run-cut c.args.machine.now c.args.side c.args.reads.now c.loop-course.course.letters.items c.loop-course.course.states.items c.loop-course.course.state c.unwrap-begin.result
    c.size-size.ensures.kept.machine c.requires (found d))

pub returns-clause-reads : goal.returns-clause-reads
returns-clause-reads c =
    let d = (goal.at.returns-clause-reads c).After-unwrap-begin in
    rw (word c) (same-cut c.args.machine.now c.args.side c.args.reads.now c.loop-course.course.letters.items c.loop-course.course.states.items c.loop-course.course.state c.unwrap-begin.result
    c.size-size.ensures.kept.machine c.requires (found d))
