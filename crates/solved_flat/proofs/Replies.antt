-- What a reply answers.
use Rattle.std.proofs.Common.{◌≡◌, ℕ, Bool, List, length, Option, Some, refl, ap, ◌∙◌, subst}
use Rattle.text_limits.specs.declared.TheConstants.{LARGE_LIMITS}
use Rattle.letters_and_lassos.specs.declared.kinds.Kind.{Kind}
use Rattle.letters_and_lassos.specs.Word.{HasRing, Word}
use Rattle.ltl_formula.specs.Nodes.{tree_at}
use Rattle.ltl_formula.specs.Truth.{holds}
use Rattle.tlsf_expand.specs.declared.spec.Spec.{Spec}
use Rattle.tlsf_expand.specs.FewSignals.{HasFewSignals}
use Rattle.tlsf_expand.specs.Meaning.{means}
use Rattle.tlsf_expand.specs.FlatText.{FlatText, spec_seen}
use Rattle.flat_text.specs.FlatOf.{IsFlatFault, IsFlatOf}
use Rattle.flat_text.specs.Laws.{FlatTextsAreDetermined, FlatTextsHaveNoFault}
use Rattle.flat_lines.specs.FlatLines.{all_names}
use Rattle.flat_lines.specs.Laws.{ExpandedCanBeWritten}
use Rattle.lasso_word.specs.WordText.{StatesWord}
use Rattle.program_replies.specs.declared.replies.Reply.{Reply}
use Rattle.program_replies.specs.Refusals.{RefusedBy}
use Rattle.solve_ground.specs.declared.texts.SolveText.{SolveText}
use Rattle.solve_ground.specs.SolveText.{IsSolveFault, IsSolveText}
use Rattle.solve_ground.specs.Taken.{converted_from, spoken_word, taken_kind, taken_shift}
use Rattle.solved_flat.specs.declared.texts.TakenText.{TakenText}
use Rattle.solved_flat.specs.declared.texts.Taking.{Taking}
use Rattle.solved_flat.specs.declared.texts.Taking.TheVariants.{Taken, Refused}
use Rattle.solved_flat.specs.Expand.{ExpandSolveAnswers, expansion_bytes}
use Rattle.solved_flat.specs.Expand as expand
use Rattle.solved_flat.specs.Lasso.{IsSolveTruthOn, LassoSolveAnswers}
use Rattle.solved_flat.specs.Lasso as lasso
use Rattle.solved_flat.specs.Taken.{CanBeAnswered, IfRefused, IfTaken, IsTaken, IsWholly, bytes_of_taken, shift_from}
use Rattle.solved_flat.proofs.Same.{shift_known}

module _ (text : List ℕ) (given : Option Kind) where
  pub refused_expand : (bytes : List ℕ) (status : ℕ) → RefusedBy (IsSolveFault text given) bytes status → (with_nodes : Bool) → ExpandSolveAnswers text given with_nodes bytes status
  refused_expand bytes status r with_nodes = expand.refused r.code r.place r.status_is r.fault r.line

  pub refused_lasso : (bytes : List ℕ) (status : ℕ) → RefusedBy (IsSolveFault text given) bytes status → (word : List ℕ) → LassoSolveAnswers text given word bytes status
  refused_lasso bytes status r word = lasso.refused r.code r.place r.status_is r.fault r.line

  module _ (t : TakenText) (is : IsTaken text given t) where
    -- a text that was taken is written out as its answer
    pub written_taken : (with_nodes : Bool) → ExpandSolveAnswers text given with_nodes (bytes_of_taken with_nodes t) 0
    written_taken with_nodes =
        expand.written t.known is.known refl
        (ap (λ shift. expansion_bytes with_nodes shift (spec_seen t.spec) t.known.formulas) is.shift
        ∙ ap (λ (flat : FlatText). expansion_bytes with_nodes (taken_shift given is.known.taken.tree) flat t.known.formulas) is.flat)

    -- the truth of the whole in normal form is whether the written text means so on the word that is spoken of
    pub truth_on : (word : List ℕ) (w : Word) (truth : Bool) → HasRing w → StatesWord word (all_names (spec_seen t.spec).expanded) w
        → truth ≡ holds w (tree_at t.known.formulas t.known.normal) 0 → IsSolveTruthOn text given word truth
    truth_on word w truth ring states truth_is = record {
      known = t.known;
      is = is.known;
      lasso = w;
      states = subst (λ (flat : FlatText). StatesWord word (all_names flat.expanded) w) is.flat states;
      exactly = truth_is ∙ is.known.normal.says w ring ∙ is.known.taken.meaning w ring
          ∙ ap (λ (names : List (List ℕ)). means LARGE_LIMITS (spoken_word (taken_shift given is.known.taken.tree) (length names) w) is.known.taken.tree) is.known.taken.inputs;
    }

-- ---- a text with its flat sections

module _ (text : List ℕ) (given : Option Kind) (t : SolveText) (is : IsSolveText text given t) where
  kind_taken : t.kind ≡ taken_kind given is.taken.tree
  kind_taken = is.kind_is ∙ is.taken.kind_is

  -- a text that `solve` takes has no fault
  pub not_refused : FlatTextsHaveNoFault → (bytes : List ℕ) (status : ℕ) → RefusedBy (IsFlatFault LARGE_LIMITS text (Some t.kind)) bytes status → ⊥
  not_refused apart bytes status r =
      apart LARGE_LIMITS text (Some (taken_kind given is.taken.tree)) is.flat r.code r.place is.taken.is_flat
      (subst (λ kind. IsFlatFault LARGE_LIMITS text (Some kind) r.code r.place) kind_taken r.fault)

  module _ (one_flat : FlatTextsAreDetermined) (written : ExpandedCanBeWritten) (spec : Spec) (is_flat : IsFlatOf LARGE_LIMITS text (Some t.kind) (spec_seen spec)) where
    abbrev whole : TakenText
    whole = record { spec = spec; known = t }

    pub is_taken : IsTaken text given whole
    is_taken = record {
      known = is;
      flat = one_flat LARGE_LIMITS text (Some (taken_kind given is.taken.tree)) (spec_seen spec) is.flat
          (subst (λ kind. IsFlatOf LARGE_LIMITS text (Some kind) (spec_seen spec)) kind_taken is_flat) is.taken.is_flat;
      shift = ap (λ semantics. shift_from semantics t.kind) is.semantics ∙ ap (shift_from (converted_from given is.taken.tree)) kind_taken
          ∙ shift_known given is.taken.tree;
    }

    pub can_be_answered : HasFewSignals LARGE_LIMITS (length spec.inputs.items) (length spec.outputs.items) spec.formulas → CanBeAnswered whole
    can_be_answered few = record {
      writable = written LARGE_LIMITS is_flat.tree (Some t.kind) (spec_seen spec) is_flat.expanded;
      few = few.few_signals;
      stands = is.normal.stands;
    }

-- what is known of a text that was taken wholly, whatever came of it
module _ (text : List ℕ) (given : Option Kind) where
  pub taken_so : (x : Taking) → IsWholly text given x → IfTaken (IsTaken text given) x
  taken_so (Taken t) so = so.0
  taken_so (Refused reply) so = absurd so

  pub answerable_so : (x : Taking) → IsWholly text given x → IfTaken CanBeAnswered x
  answerable_so (Taken t) so = so.1
  answerable_so (Refused reply) so = absurd so

  pub answers_so : (x : Taking) → IsWholly text given x → IfTaken (λ t. (with_nodes : Bool) → ExpandSolveAnswers text given with_nodes (bytes_of_taken with_nodes t) 0) x
  answers_so (Taken t) so = written_taken text given t so.0
  answers_so (Refused reply) so = absurd so

  pub never_refused : (P : Reply → Type 0) (x : Taking) → IsWholly text given x → IfRefused P x
  never_refused P (Taken t) so = tt
  never_refused P (Refused reply) so = absurd so
