-- What is told over some of a text's guarantees.
use Rattle.std.proofs.Common.{◌≡◌, ℕ, Bool, false, List, Option, Some, refl, sym, ap, subst, ◌∙◌}
use Rattle.text_limits.specs.declared.TheConstants.{SMALL_LIMITS}
use Rattle.letters_and_lassos.specs.declared.kinds.Kind.{Kind}
use Rattle.letters_and_lassos.specs.Word.{Word}
use Rattle.ltl_formula.specs.declared.faults.AddFault.{AddFault}
use Rattle.spec_faults.specs.declared.code.SpecCode.{SpecCode}
use Rattle.spec_faults.specs.declared.code.SpecCode.TheVariants.{TooManyNodes}
use Rattle.spec_faults.specs.declared.code.SpecFault.{SpecFault}
use Rattle.tlsf_values.specs.Outcomes.{fails}
use Rattle.tlsf_expand.specs.Expansion.{Expanded}
use Rattle.tlsf_expand.specs.Meaning.{by_semantics}
use Rattle.tlsf_expand.specs.FlatText.{FlatText}
use Rattle.flat_text.specs.FlatOf.{IsFlatOf}
use Rattle.program_replies.specs.declared.replies.Status.{Status}
use Rattle.program_replies.specs.Statuses.{status_number}
use Rattle.synth_engine.specs.declared.settings.Settings.{Settings}
use Rattle.synth_answer.specs.Answer.{refused}
use Rattle.text_ground.specs.Ground.{Ground, ground_with}
use Rattle.synth_answer.proofs.Grounds.{answer_for}
use Rattle.unrealizable_core.specs.declared.whole.Reduced.{Reduced}
use Rattle.unrealizable_core.specs.Reduced.{kept_sections, reduced, reduced_in}
use Rattle.tlsf_expand.specs.Standing.{truths_of}
use Rattle.unrealizable_core.specs.Truths.{SaysWhole}
use Rattle.unrealizable_core.proofs.CutMeaning.{cut_texts_mean, kept_later}
use Rattle.core_answer.specs.Core.{IsToldOver}
use Rattle.core_answer.specs.Known.{IsTextIn}
use Rattle.core_answer.specs.Over.{IsCutGround, IsFaultOver, IsGroundOver, are_all, of_list, of_problems, over_some, whole_with}
use Rattle.core_answer.specs.Reply.{IsReducedReply, IsRefusedReply, list_fault, reduced_answered, reduced_refused}

module _ (text : List ℕ) (kind : Option Kind) (spec : FlatText) (t : IsTextIn text kind spec) (keep : List Bool) where
  -- the formulas that are kept are the same in the longer list
  same_kept : kept_sections spec.formulas keep spec.expanded.sections ≡ kept_sections t.flat.formulas keep t.flat.expanded.sections
  same_kept =
      ap (λ (x : Expanded). kept_sections spec.formulas keep x.sections) t.same ∙ kept_later keep t.flat.formulas spec.formulas t.flat.expanded.sections t.grows t.stand

  same_whole : whole_with keep spec ≡ whole_with keep t.flat
  same_whole = λ i. reduced (t.same i).strict (same_kept i)

  -- what they say
  abbrev pub truth_with : Word → Bool
  truth_with w = by_semantics spec.expanded.strict w (truths_of w (kept_sections spec.formulas keep spec.expanded.sections))

  abbrev pub ground_over : Reduced → Ground
  ground_over r = ground_with spec.expanded truth_with r.formulas r.whole

  cut_ground : (taken : Option Kind) → IsFlatOf SMALL_LIMITS text taken t.flat → (r : Reduced) → reduced_in (whole_with keep spec) ≡ Some r → IsCutGround text keep taken (ground_over r)
  cut_ground taken is r made = record {
    is_wanted = record {
      flat = t.flat;
      is_flat = is;
      inputs = ap (λ (x : Expanded). x.inputs) t.same;
      outputs = ap (λ (x : Expanded). x.outputs) t.same;
      kind_is = ap (λ (x : Expanded). x.kind) t.same;
      tree = t.is_flat.tree;
      read = t.is_flat.read;
      meaning = λ w. (λ i. by_semantics (t.same i).strict w (truths_of w (same_kept i))) ∙ cut_texts_mean t.is_flat.tree kind t.flat keep w t.is_flat.expanded;
    };
    list = ap reduced_in (sym same_whole) ∙ made;
  }

  module _ (settings : Settings) (fewer : are_all keep ≡ false) (bytes : List ℕ) where
    by_fault : (fault : SpecFault) → ((code : SpecCode) (place : ℕ) → fault ≡ SpecFault.At code place → IsFaultOver text keep kind code place) → (ended : Status) (defeat : Bool)
        → IsRefusedReply fault bytes ended defeat → IsToldOver text keep kind settings bytes (status_number ended) defeat
    by_fault (SpecFault.At code place) is ended defeat reply =
        record { answers = refused code place (ap status_number reply.refusal.1) (is code place refl) reply.refusal.0; told = sym reply.told }
    by_fault SpecFault.NoMemory is ended defeat reply = absurd reply.refusal

    pub told_reduced : (r : Reduced) → reduced_in (whole_with keep spec) ≡ Some r → SaysWhole spec.expanded.strict (kept_sections spec.formulas keep spec.expanded.sections) r.formulas r.whole
        → (ended : Status) (defeat : Bool) → IsReducedReply spec.expanded r settings bytes ended defeat → IsToldOver text keep kind settings bytes (status_number ended) defeat
    told_reduced r made says ended defeat (reduced_refused fault is reply) =
        by_fault fault (λ code place e. of_problems (ground_over r) code place fewer (cut_ground kind t.is_flat r made) (is code place e)) ended defeat reply
    told_reduced r made says ended defeat (reduced_answered on) =
        answer_for (IsFaultOver text keep kind) (IsGroundOver text keep) kind settings (ground_over r)
        (over_some fewer (cut_ground kind t.is_flat r made)) (over_some fewer (cut_ground (Some spec.expanded.kind) t.by_its_kind r made))
        bytes (status_number ended) defeat (on truth_with (record { same = says.same }))

    no_room : (fault : AddFault) → (fault ≡ AddFault.TooManyNodes → whole_with keep spec ≡ fails TooManyNodes 0) → (code : SpecCode) (place : ℕ)
        → list_fault fault ≡ SpecFault.At code place → IsFaultOver text keep kind code place
    no_room AddFault.TooManyNodes full code place e =
        let a : TooManyNodes ≡ code = cc in
        let b : 0 ≡ place = cc in
        subst (λ c. IsFaultOver text keep kind c place) a (subst (λ n. IsFaultOver text keep kind TooManyNodes n) b (of_list t.flat fewer t.is_flat (sym same_whole ∙ full refl)))
    no_room AddFault.NoMemory full code place e = absurd (let never : ⊥ = cc in never)

    pub told_no_room : (fault : AddFault) → (fault ≡ AddFault.TooManyNodes → whole_with keep spec ≡ fails TooManyNodes 0) → (ended : Status) (defeat : Bool)
        → IsRefusedReply (list_fault fault) bytes ended defeat → IsToldOver text keep kind settings bytes (status_number ended) defeat
    told_no_room fault full ended defeat reply = by_fault (list_fault fault) (no_room fault full) ended defeat reply
