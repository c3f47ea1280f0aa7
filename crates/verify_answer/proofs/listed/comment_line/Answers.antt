use Rattle.std.proofs.Common.{◌≡◌, ◌+◌, ◌<◌, ◌^◌, Err, ℕ, length, sym, ap, subst, ◌∙◌, arith, rules}
use Rattle.std.specs.Prelude.{All}
use Rattle.std.proofs.lemmas.Result.{IfOk-weaker}
use Rattle.aiger_text.specs.CircuitFile.{File}
use Rattle.aiger_text.specs.CircuitType.{IsCircuit}
use Rattle.annot_check.specs.declared.pairs.Pair.{Pair}
use Rattle.machine_model.specs.Automaton.{states_of}
use Rattle.annot_check.specs.AnnotationText.{IsFirstBadAnnotationLine, StatesPairs}
use Rattle.document_check.specs.Shown.{facts_of}
use Rattle.verify_answer.specs.FirstBad.{IsFirstBadOfCircuit, of_line, over}
use Rattle.verify_answer.specs.Reply.{IsFoundOf, IsToldOf}
use Rattle.circuit_check.proofs.Found.{comment_within}
use Rattle.verify_answer.proofs.Found.{list_found}
use Rattle.verify_answer.proofs.Signals.{can_be_checked}
use Rattle.verify_answer.proofs.listed.comment_line.Goals as goal

pub pairs_line-requires-clause-lines : goal.pairs_line-requires-clause-lines
pairs_line-requires-clause-lines c =
    let short = comment_within c.args.bytes.now c.args.file.now c.args.comment.now c.requires.commented.of_text.states c.requires.commented.comment_is in
    let size : length c.args.bytes.now < 2 ^ 63 = search rules in
    let lines = c.in-Ok.ensures.lines in
    omega (arith, short, size, lines)

pub pairs_line-requires-clause-checked : goal.pairs_line-requires-clause-checked
pairs_line-requires-clause-checked c =
    can_be_checked (facts_of c.args.facts) c.args.file.now
    (subst (λ (f : File). IsCircuit f.circuit) c.file.view_is c.circuit_is_kept.ensures) c.in-Ok.list.pairs c.requires.ready c.requires.commented.of_text.fits
    (subst (λ (f : File). All (λ (pair : Pair). length pair.code ≡ length f.circuit.latches) c.in-Ok.list.pairs) c.file.view_is
    (subst (λ (n : ℕ). All (λ (pair : Pair). length pair.code ≡ n) c.in-Ok.list.pairs) c.latch_count-latches.ensures c.in-Ok.ensures.codes))

pub overflow_add-result : goal.overflow_add-result
overflow_add-result c =
    let short = comment_within c.args.bytes.now c.args.file.now c.args.comment.now c.requires.commented.of_text.states c.requires.commented.comment_is in
    let size : length c.args.bytes.now < 2 ^ 63 = search rules in
    let here : c.file.inside.comment_line ≡ c.args.file.now.comment_line = ap (λ (f : File). f.comment_line) c.file.view_is in
    let within = c.in-Err.ensures.within c.in_ok-line-in-Err.line (ap Err c.in_ok-line-in-Err.ensures) in
    omega (arith, short, size, here, within)

pub returns-in-Ok : goal.returns-in-Ok
returns-in-Ok c =
    let latches : c.latch_count-latches.result ≡ length c.args.file.now.circuit.latches = c.latch_count-latches.ensures ∙ ap (λ (f : File). length f.circuit.latches) c.file.view_is in
    let states : c.states.result ≡ states_of (over (facts_of c.args.facts)) = c.states.ensures.value ∙ ap states_of c.deref.ensures in
    IfOk-weaker c.pairs_line.result (IsToldOf (facts_of c.args.facts) c.args.file.now c.in-Ok.list) (IsFoundOf (facts_of c.args.facts) c.args.bytes.now)
    (λ line told. list_found (facts_of c.args.facts) c.args.bytes.now c.args.file.now c.in-Ok.list line (record {
      comment = c.args.comment.now;
      commented = c.requires.commented;
      pairs = subst (λ (n : ℕ). StatesPairs c.args.comment.now n (states_of (over (facts_of c.args.facts))) c.in-Ok.list) latches
          (subst (λ (n : ℕ). StatesPairs c.args.comment.now c.latch_count-latches.result n c.in-Ok.list) states c.in-Ok.ensures.pairs);
    }) told) c.pairs_line.ensures

pub returns-in_ok-line-in-Err : goal.returns-in_ok-line-in-Err
returns-in_ok-line-in-Err c =
    let latches : c.latch_count-latches.result ≡ length c.args.file.now.circuit.latches = c.latch_count-latches.ensures ∙ ap (λ (f : File). length f.circuit.latches) c.file.view_is in
    let states : c.states.result ≡ states_of (over (facts_of c.args.facts)) = c.states.ensures.value ∙ ap states_of c.deref.ensures in
    let bad = c.in-Err.ensures.bad c.in_ok-line-in-Err.line (ap Err c.in_ok-line-in-Err.ensures) in
    subst (λ (f : File). IsFirstBadOfCircuit (facts_of c.args.facts) c.args.bytes.now (f.comment_line + c.in_ok-line-in-Err.line)) (sym c.file.view_is)
    (of_line c.args.file.now c.args.comment.now c.in_ok-line-in-Err.line c.requires.commented
    (subst (λ (n : ℕ). IsFirstBadAnnotationLine c.args.comment.now n (states_of (over (facts_of c.args.facts))) c.in_ok-line-in-Err.line) latches
    (subst (λ (n : ℕ). IsFirstBadAnnotationLine c.args.comment.now c.latch_count-latches.result n c.in_ok-line-in-Err.line) states bad)))
