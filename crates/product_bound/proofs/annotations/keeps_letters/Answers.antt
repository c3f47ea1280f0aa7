use Rattle.std.proofs.Common.{◌<◌, ◌^◌, below_more, ◌∙◌, arith, refl, sym}
use Rattle.std.proofs.lemmas.Bool.{true≢false}
use Rattle.product_bound.specs.Kept.{KeepsEdges}
use Rattle.product_bound.proofs.annotations.keeps_letters.Goals as goal

pub returns-then-not-keeps_edges : goal.returns-then-not-keeps_edges
returns-then-not-keeps_edges c = (
  λ never. absurd (true≢false (sym never)),
  λ kept.
      let small : c.loop-read.read < 2 ^ c.args.machine.now.reads = omega (arith, c.letter_count-letters.ensures) in
      absurd (true≢false (sym (c.keeps_edges.ensures.1 (kept.letters c.loop-read.read small)) ∙ c.if-not-keeps_edges.true)),
)

pub loop-read-preserved : goal.loop-read-preserved
loop-read-preserved c = below_more (λ read. KeepsEdges c.args.problem.now c.args.machine.now c.args.numbers.now c.args.t read) _ c.loop-read.invariant (c.keeps_edges.ensures.0 c.if-not-keeps_edges.false)

pub returns : goal.returns
returns c = (
  λ _. record { letters = λ read h. c.loop-read.invariant read (omega (arith, c.letter_count-letters.ensures)) },
  λ _. refl,
)
