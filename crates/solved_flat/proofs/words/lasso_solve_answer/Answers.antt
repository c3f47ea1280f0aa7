use Rattle.std.proofs.Common.{◌≡◌, Err, ap, ◌∙◌, subst, rules}
use Rattle.std.proofs.lemmas.Result.{IfOk-weaker}
use Rattle.letters_and_lassos.specs.Word.{HasRing}
use Rattle.tlsf_expand.specs.FlatText.{FlatText, spec_seen}
use Rattle.flat_lines.specs.FlatLines.{all_names}
use Rattle.lasso_word.specs.WordText.{IsFirstBadWordLine, StatesWord}
use Rattle.program_replies.specs.Statuses.{status_number}
use Rattle.solved_flat.specs.Lasso.{bad_line, told}
use Rattle.solved_flat.proofs.Replies.{truth_on}
use Rattle.solved_flat.proofs.words.lasso_solve_answer.Goals as goal

pub returns-in-Err-BadLine : goal.returns-in-Err-BadLine
returns-in-Err-BadLine c =
    let flat = spec_seen c.args.taken.now.spec in
    let line = c.in-Err-BadLine.line in
    let names : c.deref.result.now ≡ all_names flat.expanded = c.deref.ensures.value ∙ c.in_ok-names.ensures in
    let first : IsFirstBadWordLine c.args.word.now (all_names flat.expanded) line =
    subst (λ ns. IsFirstBadWordLine c.args.word.now ns line) names (c.in-Err-BadLine.ensures.bad line (ap Err c.in-Err-BadLine.field-0-is)) in
    λ text given is. IfOk-weaker c.refused_at_line.result _ _
    (λ r h. bad_line c.args.taken.now.known is.known line (ap status_number h.1)
    (subst (λ (same : FlatText). IsFirstBadWordLine c.args.word.now (all_names same.expanded) line) is.flat first) h.0)
    c.refused_at_line.ensures

pub returns : goal.returns
returns c =
    let flat = spec_seen c.args.taken.now.spec in
    let names : c.deref.result.now ≡ all_names flat.expanded = c.deref.ensures.value ∙ c.in_ok-names.ensures in
    let states : StatesWord c.args.word.now (all_names flat.expanded) c.in-Ok.lasso =
    subst (λ ns. StatesWord c.args.word.now ns c.in-Ok.lasso) names c.in-Ok.ensures.word in
    let ring : HasRing c.in-Ok.lasso = search rules in
    λ text given is. IfOk-weaker c.whole.result _ _
    (λ r h. told c.in_ok-truth.truth (ap status_number h.1)
    (truth_on text given c.args.taken.now is c.args.word.now c.in-Ok.lasso c.in_ok-truth.truth ring states c.in_ok-truth.ensures) (h.0 ∙ c.truth_line.ensures))
    c.whole.ensures
