use Rattle.std.proofs.Common.{◌≡◌, ◌+◌, ◌<◌, true, false, sym, ap, ◌∙◌, arith, below_more}
use Rattle.propositional_logic.specs.Truth.{value_of}
use Rattle.annotation_encode.specs.BaseClauses.{row_move}
use Rattle.machine_decode.specs.Written.{HasMove}
use Rattle.machine_decode.proofs.decoding.least_move.Goals as goal

pub loop-to-preserved : goal.loop-to-preserved
loop-to-preserved c =
    let var : row_move c.args.problem.now c.args.place c.loop-to.to ≡ c.first_move-first.result + c.loop-to.to = omega (arith, c.first_move-first.ensures.value) in
    below_more (λ s. value_of c.args.values.now (row_move c.args.problem.now c.args.place s) ≡ false) c.loop-to.to c.loop-to.invariant (ap (value_of c.args.values.now) var ∙ sym c.value_of.ensures ∙ c.if-value_of.false)

pub returns-then-value_of : goal.returns-then-value_of
returns-then-value_of c =
    let var : row_move c.args.problem.now c.args.place c.loop-to.to ≡ c.first_move-first.result + c.loop-to.to = omega (arith, c.first_move-first.ensures.value) in
    record {
      within = omega arith;
      moves = ap (value_of c.args.values.now) var ∙ sym c.value_of.ensures ∙ c.if-value_of.true;
      least = c.loop-to.invariant;
    }

pub unreachable-requires : goal.unreachable-requires
unreachable-requires c =
    let some : HasMove c.args.problem.now c.args.values.now c.args.place = c.requires.moves.each c.args.place c.requires.within in
    let below : some.to < c.args.problem.now.size = some.within in
    let no : true ≡ false = sym some.moves ∙ c.loop-to.invariant some.to (omega arith) in
    cc
