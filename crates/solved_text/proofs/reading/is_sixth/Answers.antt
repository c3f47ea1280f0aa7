use Rattle.std.proofs.Common.{◌≡◌, ◌-◌, false, true≢false, Some, length, take, drop, sym, ap, ◌∙◌, arith, rules, inl, inr}
use Rattle.std.proofs.lemmas.List.{take_all, length-drop}
use Rattle.std_lemmas.proofs.Options.{some_none}
use Rattle.aiger_text.specs.CircuitFile.{File, IsFirstFault}
use Rattle.solved_text.specs.Reading.{begins_sixth, commented}
use Rattle.solved_text.proofs.SixthLemmas.{by_comment, not_of_fault}
use Rattle.solved_text.proofs.reading.is_sixth.Goals as goal

pub returns-in-Err : goal.returns-in-Err
returns-in-Err c =
    let begins : begins_sixth c.args.bytes.now ≡ false = search rules in
    let fault : IsFirstFault c.args.bytes.now c.in-Err.fault =
    elim c.in-Err.ensures.fault [ inl none ↦ absurd (some_none c.fault_line.result c.in-Some._line c.in-Some.is (c.fault_line.ensures.no_memory none)) | inr first ↦ first ] in
    (λ never. absurd (true≢false (sym never)), λ sixth. absurd (not_of_fault c.args.bytes.now begins c.in-Err.fault fault sixth))

pub returns-in-Some-comment_at : goal.returns-in-Some-comment_at
returns-in-Some-comment_at c =
    let begins : begins_sixth c.args.bytes.now ≡ false = search rules in
    let some : c.in-Ok.file.comment_at ≡ Some c.in-Some-comment_at.at = ap (λ (f : File). f.comment_at) (sym c.file.view_is) ∙ c.in-Some-comment_at.is in
    let whole : take (length c.args.bytes.now - c.in-Some-comment_at.at) (drop c.in-Some-comment_at.at c.args.bytes.now) ≡ drop c.in-Some-comment_at.at c.args.bytes.now =
    take_all (length c.args.bytes.now - c.in-Some-comment_at.at) (drop c.in-Some-comment_at.at c.args.bytes.now)
    (omega (arith, length-drop c.in-Some-comment_at.at c.args.bytes.now)) in
    let is : c.begins_sixth-in-Some-comment_at.result ≡ begins_sixth (drop c.in-Some-comment_at.at c.args.bytes.now) =
    c.begins_sixth-in-Some-comment_at.ensures ∙ ap begins_sixth whole in (
      λ so. commented c.in-Ok.file c.in-Some-comment_at.at c.in-Ok.ensures.states some (sym is ∙ so),
      λ sixth. is ∙ by_comment c.args.bytes.now begins c.in-Ok.file c.in-Ok.ensures.states c.in-Some-comment_at.at some sixth,
    )
