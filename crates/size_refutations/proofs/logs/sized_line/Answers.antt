use Rattle.std.proofs.Common.{◌≡◌, ap, sym, ◌∙◌, rules}
use Rattle.std.proofs.lemmas.Result.{IfOk-weaker}
use Rattle.solved_text.specs.Parts.{SizeLog}
use Rattle.size_refutations.specs.Heads.{is_number_of_states}
use Rattle.size_refutations.specs.Parts.{ground_of}
use Rattle.size_refutations.proofs.Lines.{other_size, over_all}
use Rattle.size_refutations.proofs.logs.sized_line.Goals as goal

pub returns-then-not-is_number_of_states : goal.returns-then-not-is_number_of_states
returns-then-not-is_number_of_states c =
    let line : c.log.inside.line ≡ c.args.log.now.line = ap (λ (l : SizeLog). l.line) c.log.view_is in
    let size : c.log.inside.size ≡ c.args.log.now.size = ap (λ (l : SizeLog). l.size) c.log.view_is in
    rw line
    (other_size (ground_of c.args.sought) c.args.search.now c.args.log.now c.args.problem.now c.requires.search c.requires.sized
    (ap is_number_of_states (sym size) ∙ sym c.is_number_of_states.ensures ∙ c.if-not-is_number_of_states.true))

pub returns-in-All : goal.returns-in-All
returns-in-All c =
    let size : c.log.inside.size ≡ c.args.log.now.size = ap (λ (l : SizeLog). l.size) c.log.view_is in
    let letters : c.log.inside.letters ≡ c.args.log.now.letters = ap (λ (l : SizeLog). l.letters) c.log.view_is in
    IfOk-weaker c.line_over_all.result _ _
    (over_all (ground_of c.args.sought) c.args.search.now c.args.log.now c.args.problem.now c.requires.search c.requires.sized
    (ap is_number_of_states (sym size) ∙ sym c.is_number_of_states.ensures ∙ c.if-not-is_number_of_states.false) (search rules)) c.line_over_all.ensures
