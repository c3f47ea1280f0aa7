use Rattle.std.proofs.Common.{◌≡◌, ◌+◌, ◌<◌, ◌^◌, Err, ℕ, length, sym, ap, subst, ◌∙◌, arith, rules}
use Rattle.std.specs.Prelude.{All}
use Rattle.std.proofs.lemmas.Result.{IfOk-weaker}
use Rattle.aiger_text.specs.CircuitFile.{File}
use Rattle.aiger_text.specs.CircuitType.{IsCircuit}
use Rattle.aiger_text.specs.Circuit.{RunsOnEveryInput}
use Rattle.annot_check.specs.declared.pairs.Pair.{Pair}
use Rattle.annot_check.specs.Laws.{ValidListsShowKind}
use Rattle.named_annotation.specs.NamedText.{IsFirstBadNamedLine, StatesNamed}
use Rattle.circuit_check.specs.Duty.{owed_by}
use Rattle.circuit_check.specs.FirstBad.{IsFirstBad, IsBadIn, StatesFor, of_line}
use Rattle.circuit_check.specs.Parts.{IsFoundOf, IsToldOf}
use Rattle.circuit_check.proofs.Found.{comment_within, pairs_found}
use Rattle.circuit_check.proofs.Signals.{can_be_checked, few_inputs}
use Rattle.circuit_check.proofs.files.comment_line.Goals as goal

pub read_named_annotation-requires-clause-few : goal.read_named_annotation-requires-clause-few
read_named_annotation-requires-clause-few c =
    let kept : IsCircuit c.args.file.now.circuit = subst (λ (f : File). IsCircuit f.circuit) c.file.view_is c.circuit_is_kept.ensures in
    let few : length c.args.file.now.circuit.inputs < 17 = few_inputs (owed_by c.args.duty) c.args.file.now kept c.requires.ready c.requires.commented.fitting.fits in
    let inputs : c.input_count-inputs.result ≡ length c.args.file.now.circuit.inputs = c.input_count-inputs.ensures ∙ ap (λ (f : File). length f.circuit.inputs) c.file.view_is in
    omega (arith, few, inputs)

pub pairs_line-requires : goal.pairs_line-requires
pairs_line-requires c =
    let short = comment_within c.args.bytes.now c.args.file.now c.args.comment.now c.requires.commented.fitting.states c.requires.commented.comment_is in
    let size : length c.args.bytes.now < 2 ^ 63 = search rules in
    let lines = c.in-Ok.ensures.lines in
    record {
      checked = can_be_checked (owed_by c.args.duty) c.args.file.now
          (subst (λ (f : File). IsCircuit f.circuit) c.file.view_is c.circuit_is_kept.ensures) c.in-Ok.named.list.pairs c.requires.ready c.requires.commented.fitting.fits
          (subst (λ (f : File). All (λ (pair : Pair). length pair.code ≡ length f.circuit.latches) c.in-Ok.named.list.pairs) c.file.view_is
          (subst (λ (n : ℕ). All (λ (pair : Pair). length pair.code ≡ n) c.in-Ok.named.list.pairs) c.latch_count-latches.ensures c.in-Ok.ensures.codes));
      lines = omega (arith, short, size, lines);
    }

pub overflow_add-result : goal.overflow_add-result
overflow_add-result c =
    let short = comment_within c.args.bytes.now c.args.file.now c.args.comment.now c.requires.commented.fitting.states c.requires.commented.comment_is in
    let size : length c.args.bytes.now < 2 ^ 63 = search rules in
    let here : c.file.inside.comment_line ≡ c.args.file.now.comment_line = ap (λ (f : File). f.comment_line) c.file.view_is in
    let within = c.in-Err.ensures.within c.in_ok-line-in-Err.line (ap Err c.in_ok-line-in-Err.ensures) in
    omega (arith, short, size, here, within)

pub returns-in-Ok : goal.returns-in-Ok
returns-in-Ok c =
    let latches : c.latch_count-latches.result ≡ length c.args.file.now.circuit.latches = c.latch_count-latches.ensures ∙ ap (λ (f : File). length f.circuit.latches) c.file.view_is in
    let inputs : c.input_count-inputs.result ≡ length c.args.file.now.circuit.inputs = c.input_count-inputs.ensures ∙ ap (λ (f : File). length f.circuit.inputs) c.file.view_is in
    let kept : IsCircuit c.args.file.now.circuit = subst (λ (f : File). IsCircuit f.circuit) c.file.view_is c.circuit_is_kept.ensures in
    let kinds : ValidListsShowKind c.args.file.now.circuit = subst (λ (f : File). ValidListsShowKind f.circuit) c.file.view_is c.valid_lists_show_kind.ensures in
    let runs : RunsOnEveryInput c.args.duty.side c.args.file.now.circuit =
    subst (λ (f : File). RunsOnEveryInput c.args.duty.side f.circuit) c.file.view_is (c.runs_on_every_input.ensures c.args.duty.side) in
    let stated : StatesFor (owed_by c.args.duty) c.args.file.now c.args.comment.now c.in-Ok.named =
    subst (λ (n : ℕ). StatesNamed c.args.comment.now n (length c.args.file.now.circuit.inputs) c.args.duty.formulas.now c.args.duty.form c.in-Ok.named) latches
    (subst (λ (n : ℕ). StatesNamed c.args.comment.now c.latch_count-latches.result n c.args.duty.formulas.now c.args.duty.form c.in-Ok.named) inputs c.in-Ok.ensures.named) in
    IfOk-weaker c.pairs_line.result (IsToldOf (owed_by c.args.duty) c.args.file.now c.in-Ok.named) (IsFoundOf (owed_by c.args.duty) c.args.bytes.now)
    (λ line told. pairs_found (owed_by c.args.duty) c.args.bytes.now c.args.file.now c.in-Ok.named line
    (record { comment = c.args.comment.now; commented = c.requires.commented; stated = stated })
    (λ valid. record {
      circuit = kept;
      of_kind = kinds c.args.duty.side c.args.duty.kind c.in-Ok.named.automaton c.in-Ok.named.list.pairs valid;
      never = c.valid_named_lists_show.ensures c.args.duty.side c.args.file.now.circuit c.args.duty.kind c.args.duty.formulas.now c.args.duty.form c.args.comment.now
          (length c.args.file.now.circuit.latches) (length c.args.file.now.circuit.inputs) c.in-Ok.named
          c.requires.ready.list c.requires.ready.stands c.requires.ready.normal stated valid;
      runs = runs;
    }) told) c.pairs_line.ensures

pub returns-in_ok-line-in-Err : goal.returns-in_ok-line-in-Err
returns-in_ok-line-in-Err c =
    let latches : c.latch_count-latches.result ≡ length c.args.file.now.circuit.latches = c.latch_count-latches.ensures ∙ ap (λ (f : File). length f.circuit.latches) c.file.view_is in
    let inputs : c.input_count-inputs.result ≡ length c.args.file.now.circuit.inputs = c.input_count-inputs.ensures ∙ ap (λ (f : File). length f.circuit.inputs) c.file.view_is in
    let bad = c.in-Err.ensures.bad c.in_ok-line-in-Err.line (ap Err c.in_ok-line-in-Err.ensures) in
    let here : IsBadIn (owed_by c.args.duty) c.args.file.now c.args.comment.now c.in_ok-line-in-Err.line =
    subst (λ (n : ℕ). IsFirstBadNamedLine c.args.comment.now n (length c.args.file.now.circuit.inputs) c.args.duty.formulas.now c.args.duty.form c.in_ok-line-in-Err.line) latches
    (subst (λ (n : ℕ). IsFirstBadNamedLine c.args.comment.now c.latch_count-latches.result n c.args.duty.formulas.now c.args.duty.form c.in_ok-line-in-Err.line) inputs bad) in
    subst (λ (f : File). IsFirstBad (owed_by c.args.duty) c.args.bytes.now (f.comment_line + c.in_ok-line-in-Err.line)) (sym c.file.view_is)
    (of_line c.args.file.now c.args.comment.now c.in_ok-line-in-Err.line c.requires.commented here)
