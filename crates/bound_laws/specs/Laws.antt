-- What `synth` and `solve` say of one text agrees (bounded synthesis of Finkbeiner and Schewe).
use Rattle.std.specs.Prelude.{◌≡◌, ℕ, List, Option, length}
use Rattle.letters_and_lassos.specs.declared.kinds.Kind.{Kind}
use Rattle.synth_engine.specs.declared.settings.Settings.{Settings}
use Rattle.document_text.specs.Parts.{Document}
use Rattle.document_text.specs.States.{States}
use Rattle.synth_answer.specs.Answer.{Answers}
use Rattle.synth_answer.specs.Numbers.{AskAlike, told_number}
use Rattle.solved_text.specs.declared.documents.Verdict.TheVariants.{Realizable, Unrealizable}
use Rattle.solved_text.specs.Parts as solved
use Rattle.solve_check.specs.Accepted.{IsAcceptedSolved}
use Rattle.solve_check.specs.Laws.{LiesBetween}

-- An answer of `synth` to a text, which tells a number of states in the document that it states, beside a document of version 6, whoever wrote it,
-- that is accepted for the text and asks for machines of the same kind: the number lies above the sizes that the other one refutes and isn't
-- above the states of its circuit, and both are of one side.
pub record AnswersAgree : Type 0 where
  pub realizable : (text : List ℕ) (kind given : Option Kind) (settings : Settings) (bytes more : List ℕ) (d : Document) (e : solved.Document) (n : ℕ)
      → AskAlike text kind given → Answers text kind settings bytes 10 → States bytes d → IsAcceptedSolved text given more e → e.verdict ≡ Realizable n
      → LiesBetween (length e.logs) (told_number d.verdict) n
  pub unrealizable : (text : List ℕ) (kind given : Option Kind) (settings : Settings) (bytes more : List ℕ) (d : Document) (e : solved.Document) (n : ℕ)
      → AskAlike text kind given → Answers text kind settings bytes 20 → States bytes d → IsAcceptedSolved text given more e → e.verdict ≡ Unrealizable n
      → LiesBetween (length e.logs) (told_number d.verdict) n
  pub never_defeated : (text : List ℕ) (kind given : Option Kind) (settings : Settings) (bytes more : List ℕ) (e : solved.Document) (n : ℕ)
      → AskAlike text kind given → Answers text kind settings bytes 10 → IsAcceptedSolved text given more e → e.verdict ≡ Unrealizable n → ⊥
  pub never_satisfied : (text : List ℕ) (kind given : Option Kind) (settings : Settings) (bytes more : List ℕ) (e : solved.Document) (n : ℕ)
      → AskAlike text kind given → Answers text kind settings bytes 20 → IsAcceptedSolved text given more e → e.verdict ≡ Realizable n → ⊥
