use Rattle.std.proofs.Common.{◌≡◌, ℕ, ◌-◌, ◌^◌, ◌<◌, true, false, Some, None, List, [], length, take, drop, sym, ap, subst, ◌∙◌, arith, rules, inl, inr}
use Rattle.std.proofs.lemmas.List.{take_all, length-drop}
use Rattle.std.proofs.lemmas.Result.{IfOk-weaker}
use Rattle.std_lemmas.proofs.Options.{some_none}
use Rattle.aiger_text.specs.CircuitFile.{File, IsFirstFault}
use Rattle.document_text.specs.declared.reading.CircuitPart.TheVariants.{Stated}
use Rattle.document_text.specs.Header.{no_header}
use Rattle.document_text.specs.Reading.{Reads, ReadsBehind, without_circuit, of_fault, uncommented, commented, begins_without_circuit}
use Rattle.document_text.specs.Shown.{shown_body}
use Rattle.document_text.proofs.CommentLine.{comment_fits}
use Rattle.document_text.proofs.reading.read_lines.Goals as goal

pub returns-then-starts_with : goal.returns-then-starts_with
returns-then-starts_with c =
    let begins : begins_without_circuit c.args.bytes.now ≡ true = search rules in
    rw c.behind.ensures (without_circuit (shown_body c.in_ok-body.body) begins c.in_ok-body.ensures)

pub returns-in-Err : goal.returns-in-Err
returns-in-Err c =
    let begins : begins_without_circuit c.args.bytes.now ≡ false = search rules in
    let fault : IsFirstFault c.args.bytes.now c.in-Err.fault =
    elim c.in-Err.ensures.fault [ inl none ↦ absurd (some_none c.fault_line.result c.in-Some.line c.in-Some.is (c.fault_line.ensures.no_memory none)) | inr first ↦ first ] in
    rw (c.bad_at.ensures, c.in-Some.ensures.line) (of_fault c.in-Err.fault begins fault)

pub returns-in_default-comment_at : goal.returns-in_default-comment_at
returns-in_default-comment_at c =
    let begins : begins_without_circuit c.args.bytes.now ≡ false = search rules in
    let none : c.in-Ok.file.comment_at ≡ None = ap (λ (f : File). f.comment_at) (sym c.file.view_is) ∙ c.in_default-comment_at.is in
    let read : c.bad_at-in_default-comment_at.result ≡ record { circuit = Stated c.in-Ok.file; header = no_header; verdict_line = 0; logs = []; bad = Some c.in-Ok.file.comment_line } =
    c.bad_at-in_default-comment_at.ensures
    ∙ ap (λ (f : File). record { circuit = Stated c.in-Ok.file; header = no_header; verdict_line = 0; logs = []; bad = Some f.comment_line }) c.file.view_is in
    rw read (uncommented c.in-Ok.file begins c.in-Ok.ensures.states none)

pub read_behind-requires : goal.read_behind-requires
read_behind-requires c =
    let some : c.in-Ok.file.comment_at ≡ Some c.in-Some-comment_at.at = ap (λ (f : File). f.comment_at) (sym c.file.view_is) ∙ c.in-Some-comment_at.is in
    let fits = comment_fits c.args.bytes.now c.in-Ok.file c.in-Some-comment_at.at c.in-Ok.ensures.states some in
    let whole : length (take (length c.args.bytes.now - c.in-Some-comment_at.at) (drop c.in-Some-comment_at.at c.args.bytes.now)) ≡ length (drop c.in-Some-comment_at.at c.args.bytes.now) =
    ap length (take_all (length c.args.bytes.now - c.in-Some-comment_at.at) (drop c.in-Some-comment_at.at c.args.bytes.now)
    (omega (arith, length-drop c.in-Some-comment_at.at c.args.bytes.now))) in
    let small : length c.args.bytes.now < 2 ^ 63 = search rules in
    omega (arith, fits, whole, small)

pub returns : goal.returns
returns c =
    let begins : begins_without_circuit c.args.bytes.now ≡ false = search rules in
    let some : c.in-Ok.file.comment_at ≡ Some c.in-Some-comment_at.at = ap (λ (f : File). f.comment_at) (sym c.file.view_is) ∙ c.in-Some-comment_at.is in
    let whole : take (length c.args.bytes.now - c.in-Some-comment_at.at) (drop c.in-Some-comment_at.at c.args.bytes.now) ≡ drop c.in-Some-comment_at.at c.args.bytes.now =
    take_all (length c.args.bytes.now - c.in-Some-comment_at.at) (drop c.in-Some-comment_at.at c.args.bytes.now)
    (omega (arith, length-drop c.in-Some-comment_at.at c.args.bytes.now)) in
    IfOk-weaker c.read_behind.result (ReadsBehind c.in-Ok.file (take (length c.args.bytes.now - c.in-Some-comment_at.at) (drop c.in-Some-comment_at.at c.args.bytes.now))) (Reads c.args.bytes.now)
    (λ lines behind. commented c.in-Ok.file c.in-Some-comment_at.at lines begins c.in-Ok.ensures.states some
    (subst (λ (comment : List ℕ). ReadsBehind c.in-Ok.file comment lines) whole behind)) c.read_behind.ensures
