use Rattle.std.proofs.Common.{◌≡◌, ℕ, ap, sym, ◌∙◌}
use Rattle.std.proofs.lemmas.Result.{IfOk-weaker}
use Rattle.solved_text.specs.Parts.{SizeLog}
use Rattle.size_refutations.specs.Heads.{are_few}
use Rattle.size_refutations.specs.Parts.{ground_of}
use Rattle.size_refutations.proofs.Lines.{over_few, size_few, unlisted}
use Rattle.size_refutations.proofs.logs.line_over_few.Goals as goal

pub returns-then-not-are_few : goal.returns-then-not-are_few
returns-then-not-are_few c =
    let line : c.log.inside.line ≡ c.args.log.now.line = ap (λ (l : SizeLog). l.line) c.log.view_is in
    rw line
    (unlisted (ground_of c.args.sought) c.args.search.now c.args.log.now c.args.problem.now c.requires.search c.requires.sized c.args.letters.now c.requires.letters
    (ap (λ (n : ℕ). are_few n c.args.letters.now) (sym c.reads.ensures) ∙ sym c.are_few.ensures ∙ c.if-not-are_few.true))

pub line_over-requires-clause-size : goal.line_over-requires-clause-size
line_over-requires-clause-size c =
    size_few (ground_of c.args.sought) c.args.search.now c.args.log.now c.args.problem.now c.requires.search c.requires.sized c.args.letters.now c.requires.letters c.requires.states
    (ap (λ (n : ℕ). are_few n c.args.letters.now) (sym c.reads.ensures) ∙ sym c.are_few.ensures ∙ c.if-not-are_few.false)

pub returns : goal.returns
returns c =
    IfOk-weaker c.line_over.result _ _
    (over_few (ground_of c.args.sought) c.args.search.now c.args.log.now c.args.problem.now c.requires.search c.requires.sized c.args.letters.now c.requires.letters c.requires.states
    (ap (λ (n : ℕ). are_few n c.args.letters.now) (sym c.reads.ensures) ∙ sym c.are_few.ensures ∙ c.if-not-are_few.false)) c.line_over.ensures
