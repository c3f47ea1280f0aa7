-- What is printed for a text is accepted.
use Rattle.std.proofs.Common.{◌≡◌, ℕ, ◌⊎◌, inl, inr, Option, Some, List, sym, ap, subst, ◌∙◌}
use Rattle.std.specs.Prelude.{◌≢◌}
use Rattle.text_limits.specs.declared.TheConstants.{SMALL_LIMITS}
use Rattle.letters_and_lassos.specs.declared.kinds.Kind.{Kind}
use Rattle.letters_and_lassos.specs.declared.kinds.Kind.TheVariants.{Mealy}
use Rattle.ltl_formula.specs.declared.nodes.FormulaId.{FormulaId}
use Rattle.ltl_formula.specs.declared.nodes.Node.{Node}
use Rattle.ltl_formula.specs.Nodes.{tree_at}
use Rattle.spec_faults.specs.declared.code.SpecCode.{SpecCode}
use Rattle.tlsf_reader.specs.Reads.{TreesAreDetermined}
use Rattle.tlsf_expand.specs.Expansion.{Expanded}
use Rattle.tlsf_expand.specs.FlatText.{FlatText}
use Rattle.flat_text.specs.FlatOf.{IsFlatOf}
use Rattle.flat_text.specs.Kinds.{of_kind}
use Rattle.flat_text.specs.Laws.{FlatTextsAreDetermined, FlatTextsHaveNoFault}
use Rattle.flat_text.proofs.OfKinds.{kinds}
use Rattle.side_automata.specs.Laws.{AnswersAreApart}
use Rattle.aiger_text.specs.FileLaws.{FilesStateOneThing}
use Rattle.machine_model.specs.declared.counting.Counts.{Counts}
use Rattle.machine_model.specs.declared.counting.Counts.TheVariants.{Whole, Local}
use Rattle.synth_engine.specs.declared.settings.Settings.{Settings}
use Rattle.spec_problems.specs.Laws.{ProblemsOfFormulasAreDetermined}
use Rattle.spec_problems.specs.OfFormula.{IsFormFault}
use Rattle.spec_problems.specs.OfText.{IsFirstFault, of_problems, of_text}
use Rattle.document_text.specs.Laws.{DocumentsAreDetermined}
use Rattle.document_text.specs.Parts.{Document}
use Rattle.document_check.specs.Holds.{HoldsFor}
use Rattle.document_check.specs.Laws.{BadLinesAreDetermined}
use Rattle.solved_text.specs.Reading.{IsSixth}
use Rattle.text_ground.specs.Ground.{Ground, given_by, interface_on}
use Rattle.synth_answer.specs.Answer.{AnswersFor, refused, realizable, unrealizable, bounded, no_size, no_entries}
use Rattle.synth_answer.specs.Holds.{document_version}
use Rattle.synth_answer.specs.Printed.{Printed, PrintedFor}
use Rattle.check_answer.specs.Answer.{CheckAnswers, GivenToCheck, accepted, accepted_line, bad_line, facts_to_check, of_solved}
use Rattle.check_answer.specs.Answer as check
use Rattle.answer_laws.specs.Accepted.{IsAccepted, status_told}
use Rattle.answer_laws.proofs.Grounds.{AreAlike, holds_on}
use Rattle.answer_laws.proofs.NotSixth.{not_sixth}
use Rattle.answer_laws.proofs.Texts.{alike_flat, ground_at, kind_taken}

-- what is known of texts, of problems and of documents
pub record LawsHold : Type 0 where
  pub trees : TreesAreDetermined
  pub flats : FlatTextsAreDetermined
  pub no_fault : FlatTextsHaveNoFault
  pub apart : AnswersAreApart
  pub forms : ProblemsOfFormulasAreDetermined
  pub files : FilesStateOneThing
  pub documents : DocumentsAreDetermined
  pub bad_lines : BadLinesAreDetermined

-- == what an answer prints ==

-- a document, and the status that goes with its verdict
pub record IsPrintedWith (IsGround : Option Kind → Ground → Type 0) (kind : Option Kind) (settings : Settings) (bytes : List ℕ) (status : ℕ) : Type 0 where
  pub printed : PrintedFor IsGround kind settings bytes
  pub verdict : status ≡ status_told printed.document.verdict

module _ {IsFault : SpecCode → ℕ → Type 0} {IsGround : Option Kind → Ground → Type 0} {kind : Option Kind} {settings : Settings} {bytes : List ℕ} {status : ℕ} where
  pub printed_in : AnswersFor IsFault IsGround kind settings bytes status → status ≢ 1 → IsPrintedWith IsGround kind settings bytes status
  printed_in (refused code position is fault line) other = absurd (other is)
  printed_in (realizable p n c is holds) other = record { printed = p; verdict = is ∙ sym (ap status_told holds.verdict) }
  printed_in (unrealizable p n c is holds) other = record { printed = p; verdict = is ∙ sym (ap status_told holds.verdict) }
  printed_in (bounded p side n c is holds) other = record { printed = p; verdict = is ∙ sym (ap status_told holds.verdict) }
  printed_in (no_size p is holds) other = record { printed = p; verdict = is ∙ sym (ap status_told holds.verdict) }
  printed_in (no_entries p side n is holds) other = record { printed = p; verdict = is ∙ sym (ap status_told holds.verdict) }

version_told : (version : ℕ) (counts : Counts) → version ≡ document_version counts → (version ≡ 3) ⊎ (version ≡ 5)
version_told version Whole is = inl is
version_told version Local is = inr is

-- == a text ==

module _ (laws : LawsHold) (text : List ℕ) (kind : Option Kind) (settings : Settings) (bytes : List ℕ) (p : Printed text kind settings bytes) where
  abbrev flat : FlatText
  flat = p.is_ground.is_wanted.flat

  is_flat : IsFlatOf SMALL_LIMITS text kind flat
  is_flat = p.is_ground.is_wanted.is_flat

  alike : (given : Option Kind) (other : FlatText) → IsFlatOf SMALL_LIMITS text given other → AreAlike p.ground (ground_at other p.ground.wanted.means)
  alike given other are = alike_flat laws.flats text kind given p.ground other p.ground.wanted.means p.is_ground are

  -- it has no fault with another kind
  no_form_fault : (other : FlatText) (code : SpecCode) (position : ℕ) → AreAlike p.ground (ground_at other p.ground.wanted.means)
      → IsFormFault (tree_at other.formulas other.expanded.whole) other.formulas code position → ⊥
  no_form_fault other code position same fault =
      laws.forms.no_fault (interface_on settings.counts p.ground) (tree_at p.ground.formulas p.ground.whole) p.ground.formulas p.later p.problems code position
      p.are_problems
      (subst (λ (id : FormulaId). IsFormFault (tree_at p.ground.formulas id) p.ground.formulas code position) (sym same.whole)
      (subst (λ (nodes : List Node). IsFormFault (tree_at nodes other.expanded.whole) nodes code position) (sym same.formulas) fault))

  no_fault : (code : SpecCode) (position : ℕ) → IsFirstFault text (Some Mealy) code position → ⊥
  no_fault code position (of_text _ _ fault) =
      laws.no_fault SMALL_LIMITS text (Some Mealy) (of_kind Mealy flat) code position (kinds.by_other SMALL_LIMITS text flat.expanded.kind Mealy flat (kinds.by_its_kind SMALL_LIMITS text kind flat is_flat)) fault
  no_fault code position (of_problems other _ _ is fault) = no_form_fault other code position (alike (Some Mealy) other is) fault

  -- the document holds for what is given to `check`
  holds : (g : GivenToCheck text) → HoldsFor (facts_to_check g) p.document
  holds g =
      subst (λ (x : Expanded). HoldsFor (given_by (record { expanded = x; formulas = g.spec.formulas }) g.problems) p.document) (sym g.are_problems.same)
      (holds_on laws.apart p.ground (ground_at g.are_problems.flat p.ground.wanted.means) (alike (Some Mealy) g.are_problems.flat g.are_problems.is_flat)
      settings.counts Whole p.later g.spec.formulas p.problems g.problems p.are_problems g.are_problems.problems p.document p.is_printed.holds)

  earlier : IsSixth bytes → ⊥
  earlier = not_sixth laws.files bytes p.document (version_told p.document.version settings.counts p.is_printed.version) p.is_printed.states

  checked : (line : List ℕ) (ended : ℕ) → CheckAnswers text bytes line ended → (ended ≡ 0) × (line ≡ accepted_line p.document.verdict p.document.kind)
  checked line ended (check.refused code position is fault why told) = absurd (no_fault code position fault)
  checked line ended (bad_line g n is isnt first told) = absurd (laws.bad_lines.holding_has_none (facts_to_check g) bytes p.document n p.is_printed.states (holds g) first)
  checked line ended (accepted g d is isnt so told) =
      let same : d ≡ p.document = laws.documents.one_document bytes d p.document so.states p.is_printed.states in
      (is, told ∙ ap (λ (e : Document). accepted_line e.verdict e.kind) same)
  checked line ended (of_solved g so) = absurd (earlier g.sixth)

  kind_is : p.document.kind ≡ flat.expanded.kind
  kind_is = p.is_printed.kind ∙ p.are_problems.problems.of_system.kind ∙ p.is_ground.is_wanted.kind_is

  pub is_accepted : (status : ℕ) → status ≡ status_told p.document.verdict → IsAccepted text kind bytes status
  is_accepted status is = record {
    document = p.document;
    states = p.is_printed.states;
    verdict = is;
    kind_is = λ tree read. kind_taken laws.flats text laws.trees kind flat is_flat tree read ∙ ap Some (sym kind_is);
    checked = checked;
  }
