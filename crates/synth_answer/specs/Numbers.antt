-- That what an answer says of machines doesn't depend on how its search was bounded (this project's own).
use Rattle.std.specs.Prelude.{◌≡◌, ◌⊎◌, ◌<◌, ℕ, List, Option}
use Rattle.std.specs.Option.{option_map_or}
use Rattle.letters_and_lassos.specs.declared.kinds.Kind.{Kind}
use Rattle.tlsf_syntax.specs.Text.{Text}
use Rattle.tlsf_reader.specs.Reads.{Reads}
use Rattle.tlsf_expand.specs.Expansion.{kind_of}
use Rattle.synth_engine.specs.declared.settings.Settings.{Settings}
use Rattle.document_text.specs.declared.documents.Verdict.{Verdict}
use Rattle.document_text.specs.declared.order.Place.{Place}
use Rattle.document_text.specs.Order.{machine_of}
use Rattle.document_text.specs.Parts.{Document}
use Rattle.document_text.specs.States.{States}
use Rattle.satisfaction.specs.Wanted.{Wanted}
use Rattle.circuit_laws.specs.Laws.{NoCircuitDefeats, NoCircuitSatisfies}
use Rattle.text_ground.specs.Ground.{IsWantedBy}
use Rattle.synth_answer.specs.Answer.{Answers}

-- the number of states that a verdict tells, and 0 where it tells none
abbrev pub told_number : Verdict → ℕ
told_number verdict = option_map_or (λ (machine : Place). machine.size) (machine_of verdict) 0

-- both ask for machines of one kind: the given one, else the one that the text names
abbrev pub AskAlike : List ℕ → Option Kind → Option Kind → Type 0
AskAlike text kind other = (tree : Text) → Reads text tree → kind_of kind tree ≡ kind_of other tree

-- Of answers to one text that ask for machines of one kind, whatever bounded their searches: two of status 10, or of status 20, tell the
-- same number of states in the documents that they state; and there is none of status 10 beside one of status 20.
pub record VerdictsAreDetermined : Type 0 where
  pub numbers : (text : List ℕ) (kind given : Option Kind) (settings other : Settings) (bytes more : List ℕ) (status : ℕ) (d e : Document)
      → AskAlike text kind given → (status ≡ 10) ⊎ (status ≡ 20) → Answers text kind settings bytes status → Answers text given other more status
      → States bytes d → States more e → told_number d.verdict ≡ told_number e.verdict
  pub never_both : (text : List ℕ) (kind given : Option Kind) (settings other : Settings) (bytes more : List ℕ) → AskAlike text kind given
      → Answers text kind settings bytes 10 → Answers text given other more 20 → ⊥

-- Where the document that an answer of status 10 states tells a number, no circuit with fewer states satisfies what the text wants; where
-- one of status 20 does, none with fewer defeats every machine.
pub record NoSmallerCircuits : Type 0 where
  pub satisfy : (text : List ℕ) (kind : Option Kind) (settings : Settings) (bytes : List ℕ) (d : Document) (x : Wanted) (k : ℕ)
      → Answers text kind settings bytes 10 → States bytes d → IsWantedBy text kind x → k < told_number d.verdict → NoCircuitSatisfies x k
  pub defeat : (text : List ℕ) (kind : Option Kind) (settings : Settings) (bytes : List ℕ) (d : Document) (x : Wanted) (k : ℕ)
      → Answers text kind settings bytes 20 → States bytes d → IsWantedBy text kind x → k < told_number d.verdict → NoCircuitDefeats x k
