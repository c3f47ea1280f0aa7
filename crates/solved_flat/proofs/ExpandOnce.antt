-- A text has one answer to `expand --solve`.
use Rattle.std.proofs.Common.{◌≡◌, ℕ, Bool, List, [], ◌∷◌, Option, Contains, sym, ◌∙◌, arith}
use Rattle.letters_and_lassos.specs.declared.kinds.Kind.{Kind}
use Rattle.spec_faults.specs.declared.code.SpecCode.{SpecCode}
use Rattle.tlsf_reader.specs.Reads.{TreesAreDetermined}
use Rattle.flat_text.specs.Laws.{FlatTextsAreDetermined}
use Rattle.solve_ground.specs.declared.texts.SolveText.{SolveText}
use Rattle.solve_ground.specs.Laws.{SolveTextsAreDetermined}
use Rattle.solve_ground.specs.SolveText.{IsSolveFault, IsSolveText}
use Rattle.solve_ground.specs.Taken.{taken_shift}
use Rattle.program_replies.specs.Lines.{refusal_line}
use Rattle.program_replies.proofs.RefusalLemmas.{one_refusal}
use Rattle.solved_flat.specs.Expand.{ExpandSolveAnswers, expansion_bytes, refused, written}
use Rattle.solved_flat.specs.Laws.{ExpandSolveAnswersAreDue, HasSolveFault}
use Rattle.solved_flat.proofs.Same.{same_bytes}

statuses : (text : List ℕ) (given : Option Kind) (with_nodes : Bool) (bytes : List ℕ) (status : ℕ) → ExpandSolveAnswers text given with_nodes bytes status → Contains (0 ∷ 1 ∷ []) status
statuses text given with_nodes bytes status (refused code place is fault line) = (1, omega arith, sym is)
statuses text given with_nodes bytes status (written known so is line) = (0, omega arith, sym is)

has_fault : (text : List ℕ) (given : Option Kind) (with_nodes : Bool) (bytes : List ℕ) (status : ℕ) → ExpandSolveAnswers text given with_nodes bytes status → status ≡ 1 → HasSolveFault text given
has_fault text given with_nodes bytes status (refused code place is fault line) one = record { code = code; place = place; fault = fault }
has_fault text given with_nodes bytes status (written known so is line) one = absurd (omega (arith, is, one))

module _ (one_text : SolveTextsAreDetermined) (one_flat : FlatTextsAreDetermined) (one_tree : TreesAreDetermined) where
  of_fault : (text : List ℕ) (given : Option Kind) (with_nodes : Bool) (bytes : List ℕ) (status : ℕ) (code : SpecCode) (place : ℕ)
      → ExpandSolveAnswers text given with_nodes bytes status → IsSolveFault text given code place → (status ≡ 1) × (bytes ≡ refusal_line code place)
  of_fault text given with_nodes bytes status code place (refused c p is fault line) due =
      let same = one_text.one_fault text given c code p place fault due in (is, line ∙ one_refusal c code p place same.0 same.1)
  of_fault text given with_nodes bytes status code place (written known so is line) due = absurd (one_text.no_fault text given known code place so due)

  of_text : (text : List ℕ) (given : Option Kind) (with_nodes : Bool) (bytes : List ℕ) (status : ℕ) (known : SolveText)
      → ExpandSolveAnswers text given with_nodes bytes status → (is : IsSolveText text given known)
      → (status ≡ 0) × (bytes ≡ expansion_bytes with_nodes (taken_shift given is.taken.tree) is.flat known.formulas)
  of_text text given with_nodes bytes status known (refused code place is fault line) due = absurd (one_text.no_fault text given known code place due fault)
  of_text text given with_nodes bytes status known (written other so is line) due = (is, line ∙ same_bytes one_flat one_tree text given other known so due one_text with_nodes)

  pub are_due : ExpandSolveAnswersAreDue
  are_due = record { statuses = statuses; refused = has_fault; of_fault = of_fault; of_text = of_text }
