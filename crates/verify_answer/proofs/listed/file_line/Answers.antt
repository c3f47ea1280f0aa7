use Rattle.std.proofs.Common.{◌≡◌, None, sym, subst, ◌∙◌, rules}
use Rattle.letters_and_lassos.specs.declared.kinds.Side.TheVariants.{System}
use Rattle.aiger_text.specs.CircuitFile.{File}
use Rattle.document_check.specs.Shown.{facts_of}
use Rattle.document_check.specs.FirstBad.{stated_line}
use Rattle.verify_answer.specs.FirstBad.{IsFirstBadOfCircuit, comment_of, no_comment, of_names}
use Rattle.circuit_check.proofs.Found.{none_mapped}
use Rattle.verify_answer.proofs.listed.file_line.Goals as goal

pub returns-in-Some : goal.returns-in-Some
returns-in-Some c =
    of_names c.args.file.now c.in-Some.line c.requires.states (sym c.stated_line.ensures ∙ c.in-Some.is)

pub returns-in_default-comment_of : goal.returns-in_default-comment_of
returns-in_default-comment_of c =
    let fits : stated_line (facts_of c.args.facts) System c.args.file.now ≡ None = sym c.stated_line.ensures ∙ c.in_default.is in
    let none : comment_of c.args.file.now c.args.bytes.now ≡ None = search rules in
    subst (λ (f : File). IsFirstBadOfCircuit (facts_of c.args.facts) c.args.bytes.now f.comment_line) (sym c.file.view_is)
    (no_comment c.args.file.now (record { states = c.requires.states; fits = fits }) (none_mapped _ c.args.file.now.comment_at none))
