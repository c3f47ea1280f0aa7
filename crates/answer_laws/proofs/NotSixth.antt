-- A document of version 3 or 5 isn't of version 6.
use Rattle.std.proofs.Common.{◌≡◌, ℕ, true, false, true≢false, Option, Some, None, List, drop, refl, sym, ap, ◌∙◌, ◌⊎◌, inl, inr}
use Rattle.std.proofs.lemmas.Option.{same_Some}
use Rattle.std.specs.Prelude.{is_some}
use Rattle.std.specs.Fmt.{digits}
use Rattle.aiger_text.specs.Circuit.{Circuit}
use Rattle.aiger_text.specs.CircuitFile.{File}
use Rattle.aiger_text.specs.CircuitFile as circuit
use Rattle.aiger_text.specs.FileLaws.{FilesStateOneThing}
use Rattle.document_text.specs.Header.{behind}
use Rattle.document_text.specs.Lines.{body_text}
use Rattle.document_text.specs.Parts.{Document}
use Rattle.document_text.specs.Reading.{begins_without_circuit}
use Rattle.document_text.specs.States.{HasText, States}
use Rattle.document_text.proofs.CommentLine.{begins_with_circuit}
use Rattle.document_text.proofs.LineRead.{behind_is}
use Rattle.solved_text.specs.Lines.{version_text}
use Rattle.solved_text.specs.Reading.{IsSixth, alone, begins_sixth, commented}

-- == the first line ==

third_begins : (d : Document) → begins_sixth (body_text (record d { version = 3 })) ≡ false
unfolding digits
third_begins d = refl

fifth_begins : (d : Document) → begins_sixth (body_text (record d { version = 5 })) ≡ false
unfolding digits
fifth_begins d = refl

begins_otherwise : (d : Document) → (d.version ≡ 3) ⊎ (d.version ≡ 5) → begins_sixth (body_text d) ≡ false
begins_otherwise d (inl is) = ap (λ (n : ℕ). begins_sixth (body_text (record d { version = n }))) is ∙ third_begins d
begins_otherwise d (inr is) = ap (λ (n : ℕ). begins_sixth (body_text (record d { version = n }))) is ∙ fifth_begins d

-- bytes that begin with `boundsyn 6` have no circuit
sixth_by : (bytes : List ℕ) (o : Option (List ℕ)) → behind version_text bytes ≡ o → is_some o ≡ true → begins_without_circuit bytes ≡ true
sixth_by bytes None e is = absurd (true≢false (sym is))
sixth_by bytes (Some tail) e is = ap begins_without_circuit (behind_is version_text bytes tail e)

circuit_begins : (bytes : List ℕ) (file : File) → circuit.States bytes file → begins_sixth bytes ≡ true → ⊥
circuit_begins bytes file states is =
    true≢false (sym (sixth_by bytes (behind version_text bytes) refl is) ∙ begins_with_circuit bytes file states)

-- == the document ==

module _ (files : FilesStateOneThing) (bytes : List ℕ) (d : Document) (other : begins_sixth (body_text d) ≡ false) where
  alone_not : bytes ≡ body_text d → IsSixth bytes → ⊥
  alone_not text (alone is) = true≢false (sym is ∙ ap begins_sixth text ∙ other)
  alone_not text (commented file at states place is) =
      let begins : begins_without_circuit (body_text d) ≡ true = refl in
      true≢false (sym begins ∙ sym (ap begins_without_circuit text) ∙ begins_with_circuit bytes file states)

  behind_not : (file : File) (at : ℕ) → circuit.States bytes file → file.comment_at ≡ Some at → drop at bytes ≡ body_text d → IsSixth bytes → ⊥
  behind_not file at states place body (alone is) = circuit_begins bytes file states is
  behind_not file at states place body (commented own begin so there is) =
      let files_same : own ≡ file = files bytes own file so states in
      let same : begin ≡ at = same_Some begin at (sym there ∙ ap (λ (f : File). f.comment_at) files_same ∙ place) in
      true≢false (sym is ∙ ap (λ (n : ℕ). begins_sixth (drop n bytes)) same ∙ ap begins_sixth body ∙ other)

  by_text : (o : Option Circuit) → HasText bytes o d → IsSixth bytes → ⊥
  by_text None text = alone_not text.0
  by_text (Some c) text = behind_not text.file text.at text.states text.comment_at text.body

pub not_sixth : FilesStateOneThing → (bytes : List ℕ) (d : Document) → (d.version ≡ 3) ⊎ (d.version ≡ 5) → States bytes d → IsSixth bytes → ⊥
not_sixth files bytes d version states = by_text files bytes d (begins_otherwise d version) d.circuit states.text
