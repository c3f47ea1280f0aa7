-- What is told of a whole text.
use Rattle.std.proofs.Common.{◌≡◌, ℕ, ◌<◌, ◌≤◌, Bool, true, false, List, Option, Some, Result, Ok, Err, IfOk, length, replicate, sym, ap, subst, ◌∙◌}
use Rattle.text_limits.specs.declared.TheConstants.{SMALL_LIMITS}
use Rattle.letters_and_lassos.specs.declared.kinds.Kind.{Kind}
use Rattle.machine_model.specs.declared.counting.Counts.{Counts}
use Rattle.ltl_formula.proofs.Lists.{signals_are_below}
use Rattle.std.proofs.lemmas.Result.{IfOk-weaker}
use Rattle.spec_faults.specs.declared.code.SpecCode.TheVariants.{TooManyGuarantees}
use Rattle.outcome_news.specs.declared.news.ToldReply.{ToldReply}
use Rattle.program_replies.specs.declared.replies.Status.TheVariants.{Unrealizable}
use Rattle.program_replies.specs.Statuses.{status_number}
use Rattle.tlsf_expand.specs.Expansion.{Expanded}
use Rattle.tlsf_expand.specs.FlatText.{FlatText}
use Rattle.flat_text.specs.FlatOf.{IsFlatOf}
use Rattle.spec_problems.specs.declared.sides.SideProblems.{SideProblems}
use Rattle.spec_problems.specs.Laws.{ProblemsOfTextsAreDetermined}
use Rattle.spec_problems.specs.OfText.{IsFirstFault}
use Rattle.ltl_formula.specs.Nodes.{tree_at}
use Rattle.synth_engine.specs.declared.settings.Settings.{Settings}
use Rattle.synth_answer.specs.Answer.{IsAnswerFor, IsAnswerOn}
use Rattle.text_ground.specs.Ground.{AreGivenOn, Ground, IsGroundOf}
use Rattle.text_ground.specs.Texts.{IsTextWith}
use Rattle.synth_answer.proofs.Grounds.{answer_for}
use Rattle.flat_text.proofs.OfKinds.{kinds}
use Rattle.text_ground.proofs.Meaning.{given_on, ground_by_its_kind, is_ground, text_ground}
use Rattle.unrealizable_core.specs.WholeLaws.{SectionsOfTextsStand}
use Rattle.tlsf_expand.specs.Standing.{SectionsStand}
use Rattle.tlsf_expand.proofs.Expanded.{sections_stand_later}
use Rattle.unrealizable_core.proofs.Texts.{list_of_text}
use Rattle.core_answer.specs.Core.{CoreAnswers, IsCore, IsCoreFault, IsToldCore, IsToldOver, Tells, core, guarantees_in, spared, too_many}
use Rattle.core_answer.specs.Known.{IsTextIn}
use Rattle.core_answer.specs.Over.{IsFaultOver, IsGroundOver, over_all}
use Rattle.core_answer.proofs.Growing.{forms_grow}
use Rattle.core_answer.proofs.Standings.{fresh_all}

module _ {counts : Counts} (text : List ℕ) (kind : Option Kind) (spec : FlatText) (s : SideProblems) (t : IsTextWith counts text kind spec s) where
  abbrev pub the_flat : FlatText
  the_flat = t.are.flat

  pub text_in : SectionsOfTextsStand → IsTextIn text kind spec
  text_in stand =
      let is = t.are.is_flat in
      let forms = t.are.problems.are_automata.forms in
      let list = list_of_text is.tree kind the_flat is.expanded in
      record {
        flat = the_flat;
        is_flat = is;
        by_its_kind = subst (λ (x : Expanded). IsFlatOf SMALL_LIMITS text (Some x.kind) the_flat) (sym t.are.same) (kinds.by_its_kind SMALL_LIMITS text kind the_flat is);
        same = t.are.same;
        grows = forms_grow (tree_at the_flat.formulas the_flat.expanded.whole) the_flat.formulas spec.formulas
            t.are.problems.are_automata.negated t.are.problems.are_automata.normal list
            (signals_are_below the_flat.formulas the_flat.expanded.whole list is.meaning.stands) forms;
        stand = stand is.tree kind the_flat is.expanded;
      }

  abbrev pub own_ground : Ground
  own_ground = text_ground spec the_flat t.says

  pub given_here : AreGivenOn counts own_ground s
  given_here = given_on counts text kind spec s t.says t.are t.accept

  pub same_count : length spec.expanded.sections.guarantee ≡ guarantees_in the_flat
  same_count = ap (λ (x : Expanded). length x.sections.guarantee) t.are.same

  module _ (settings : Settings) (bytes : List ℕ) (status : ℕ) (defeat : Bool) (on : IsAnswerOn own_ground settings bytes status defeat) where
    abbrev pub answers_text : IsAnswerFor (IsFirstFault text kind) (IsGroundOf text) kind settings bytes status defeat
    answers_text =
        answer_for (IsFirstFault text kind) (IsGroundOf text) kind settings own_ground (is_ground counts text kind spec s t.says t.are) (ground_by_its_kind counts text kind spec s t.says t.are)
        bytes status defeat on

    -- it is told over all guarantees
    pub told_over_all : (count : ℕ) → IsToldOver text (replicate count true) kind settings bytes status defeat
    told_over_all count =
        answer_for (IsFaultOver text (replicate count true) kind) (IsGroundOver text (replicate count true)) kind settings own_ground
        (over_all (fresh_all count) (is_ground counts text kind spec s t.says t.are)) (over_all (fresh_all count) (ground_by_its_kind counts text kind spec s t.says t.are))
        bytes status defeat on

    pub tells_all : defeat ≡ true → (count : ℕ) → Tells text (replicate count true) kind settings true bytes
    tells_all defeated count = record { status = status; is_told = subst (λ d. IsToldOver text (replicate count true) kind settings bytes status d) defeated (told_over_all count) }

    pub spared_text : length spec.expanded.sections.guarantee ≤ 64 → defeat ≡ false → CoreAnswers text kind settings bytes status
    spared_text few not_defeated =
        spared the_flat t.are.is_flat (subst (λ n. n ≤ 64) same_count few) answers_text.answers (answers_text.told ∙ not_defeated)

    pub core_text : length spec.expanded.sections.guarantee ≤ 64 → defeat ≡ true → (count : ℕ) → count ≡ length spec.expanded.sections.guarantee → (lines : List ℕ)
        → IsToldCore text kind settings count lines → IsCore text kind settings lines
    core_text few defeated count is lines told = record {
      flat = the_flat;
      is_flat = t.are.is_flat;
      few = subst (λ n. n ≤ 64) same_count few;
      whole_bytes = bytes;
      whole_status = status;
      whole = answers_text.answers;
      whole_defeats = answers_text.told ∙ defeated;
      told = subst (λ n. IsToldCore text kind settings n lines) (is ∙ same_count) told;
    }

  pub too_many_here : ProblemsOfTextsAreDetermined → 64 < length spec.expanded.sections.guarantee → IsCoreFault text kind TooManyGuarantees 0
  too_many_here laws more = too_many the_flat t.are.is_flat (λ code place fault. laws.no_fault text kind counts spec s code place t.are fault) (subst (λ n. 64 < n) same_count more)

-- the sections stand in the longer list too
pub stand_here : (text : List ℕ) (kind : Option Kind) (spec : FlatText) → IsTextIn text kind spec → SectionsStand spec.formulas spec.expanded.sections
stand_here text kind spec t =
    subst (λ (x : Expanded). SectionsStand spec.formulas x.sections) (sym t.same) (sections_stand_later t.flat.formulas spec.formulas t.flat.expanded.sections t.grows t.stand)

both_ok : {A E : Type 0} (P Q : A → Type 0) (r : Result A E) → IfOk r P → IfOk r Q → IfOk r (λ a. P a × Q a)
both_ok P Q (Ok a) p q = (p, q)
both_ok P Q (Err e) p q = tt

-- what is told of a core of the text
pub core_replied : (text : List ℕ) (kind : Option Kind) (settings : Settings) (count : ℕ) {E : Type 0} (r : Result ToldReply E) → IfOk r (λ r. r.reply.status ≡ Unrealizable) → IfOk r (λ r. IsToldCore text kind settings count r.reply.bytes.items)
    → ((lines : List ℕ) → IsToldCore text kind settings count lines → IsCore text kind settings lines) → IfOk r (λ r. CoreAnswers text kind settings r.reply.bytes.items (status_number r.reply.status))
core_replied text kind settings count r ended told made =
    IfOk-weaker r (λ r. (r.reply.status ≡ Unrealizable) × IsToldCore text kind settings count r.reply.bytes.items) (λ r. CoreAnswers text kind settings r.reply.bytes.items (status_number r.reply.status))
    (λ r h. core (ap status_number h.0) (made r.reply.bytes.items h.1)) (both_ok (λ r. r.reply.status ≡ Unrealizable) (λ r. IsToldCore text kind settings count r.reply.bytes.items) r ended told)
