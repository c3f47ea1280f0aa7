use Rattle.std.proofs.Common.{◌≡◌, Err, ap, ◌∙◌, subst}
use Rattle.std.proofs.lemmas.Result.{IfOk-weaker}
use Rattle.tlsf_expand.specs.FlatText.{spec_seen}
use Rattle.flat_lines.specs.FlatLines.{all_names}
use Rattle.lasso_word.specs.WordText.{IsFirstBadWordLine, StatesWord}
use Rattle.program_replies.specs.declared.replies.Status.TheVariants.{Done, LineRefused}
use Rattle.program_replies.specs.Lines.{line_refusal}
use Rattle.program_replies.specs.Statuses.{status_number}
use Rattle.flat_answer.specs.Lasso.{LassoAnswers, bad_line, told}
use Rattle.flat_answer.proofs.Replies.{truth_on}
use Rattle.flat_answer.proofs.words.lasso_answer.Goals as goal

pub returns-in-Err-BadLine : goal.returns-in-Err-BadLine
returns-in-Err-BadLine c =
    let flat = spec_seen c.args.spec.now in
    let line = c.in-Err-BadLine.line in
    let names : c.deref.result.now ≡ all_names flat.expanded = c.deref.ensures.value ∙ c.in_ok-names.ensures in
    let first : IsFirstBadWordLine c.args.word.now (all_names flat.expanded) line =
    subst (λ ns. IsFirstBadWordLine c.args.word.now ns line) names (c.in-Err-BadLine.ensures.bad line (ap Err c.in-Err-BadLine.field-0-is)) in
    λ text is_flat. IfOk-weaker c.refused_at_line.result
    (λ r. (r.bytes.items ≡ line_refusal line) × (r.status ≡ LineRefused))
    (λ r. LassoAnswers text c.args.word.now r.bytes.items (status_number r.status))
    (λ r h. bad_line flat line (ap status_number h.1) is_flat first h.0)
    c.refused_at_line.ensures

pub returns : goal.returns
returns c =
    let flat = spec_seen c.args.spec.now in
    let names : c.deref.result.now ≡ all_names flat.expanded = c.deref.ensures.value ∙ c.in_ok-names.ensures in
    let states : StatesWord c.args.word.now (all_names flat.expanded) c.in-Ok.lasso =
    subst (λ ns. StatesWord c.args.word.now ns c.in-Ok.lasso) names c.in-Ok.ensures.word in
    λ text is_flat. IfOk-weaker c.whole.result
    (λ r. (r.bytes.items ≡ c.truth_line.result.now) × (r.status ≡ Done))
    (λ r. LassoAnswers text c.args.word.now r.bytes.items (status_number r.status))
    (λ r h. told c.in_ok-truth.truth (ap status_number h.1)
    (truth_on text c.args.word.now flat c.in-Ok.lasso c.in_ok-truth.truth is_flat states c.in_ok-truth.ensures) (h.0 ∙ c.truth_line.ensures))
    c.whole.ensures
