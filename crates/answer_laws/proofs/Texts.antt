-- The grounds of one text, or of a text with the same guarantees, are alike, with whatever kind it is taken.
use Rattle.std.proofs.Common.{◌≡◌, ℕ, Bool, true≢false, Option, Some, List, sym, ap, ◌∙◌}
use Rattle.std.proofs.lemmas.Option.{same_Some}
use Rattle.text_limits.specs.declared.TheConstants.{SMALL_LIMITS}
use Rattle.letters_and_lassos.specs.declared.kinds.Kind.{Kind}
use Rattle.letters_and_lassos.specs.Word.{Word}
use Rattle.tlsf_syntax.specs.Text.{Text}
use Rattle.tlsf_reader.specs.Reads.{Reads, TreesAreDetermined}
use Rattle.tlsf_expand.specs.Expansion.{kind_of}
use Rattle.tlsf_expand.specs.FlatText.{FlatText}
use Rattle.flat_text.specs.FlatOf.{IsFlatOf}
use Rattle.flat_text.specs.Kinds.{of_kind}
use Rattle.flat_text.specs.Laws.{FlatTextsAreDetermined}
use Rattle.flat_text.proofs.OfKinds.{kinds}
use Rattle.text_ground.specs.Ground.{Ground, IsGroundOf, ground_with}
use Rattle.unrealizable_core.specs.declared.whole.Reduced.{Reduced}
use Rattle.unrealizable_core.specs.Reduced.{reduced_in}
use Rattle.core_answer.specs.Over.{IsCutGround, IsGroundOver, over_all, over_some, whole_with}
use Rattle.answer_laws.proofs.Grounds.{AreAlike}

-- the ground that a flat text gives, whatever it means
abbrev pub ground_at : FlatText → (Word → Bool) → Ground
ground_at flat truth = ground_with flat.expanded truth flat.formulas flat.expanded.whole

module _ (flats : FlatTextsAreDetermined) (text : List ℕ) where
  -- == flat texts ==

  pub same_flat : (kind given : Option Kind) (flat other : FlatText) → IsFlatOf SMALL_LIMITS text kind flat → IsFlatOf SMALL_LIMITS text given other
      → of_kind other.expanded.kind flat ≡ other
  same_flat kind given flat other is are =
      flats SMALL_LIMITS text (Some other.expanded.kind) (of_kind other.expanded.kind flat) other
      (kinds.by_other SMALL_LIMITS text flat.expanded.kind other.expanded.kind flat (kinds.by_its_kind SMALL_LIMITS text kind flat is))
      (kinds.by_its_kind SMALL_LIMITS text given other are)

  -- the kind that a flat text has is the one that it was taken with
  pub kind_taken : TreesAreDetermined → (kind : Option Kind) (flat : FlatText) → IsFlatOf SMALL_LIMITS text kind flat → (tree : Text) → Reads text tree
      → kind_of kind tree ≡ Some flat.expanded.kind
  kind_taken trees kind flat is tree read =
      ap (kind_of kind) (trees text tree is.tree read is.read) ∙ kinds.taken SMALL_LIMITS is.tree kind flat is.expanded

  -- == the ground of a text ==

  -- that of a flat text of it, taken with any kind, is alike
  pub alike_flat : (kind given : Option Kind) (g : Ground) (other : FlatText) (truth : Word → Bool) → IsGroundOf text kind g → IsFlatOf SMALL_LIMITS text given other
      → AreAlike g (ground_at other truth)
  alike_flat kind given g other truth is are =
      let same : of_kind other.expanded.kind is.is_wanted.flat ≡ other = same_flat kind given is.is_wanted.flat other is.is_wanted.is_flat are in
      record {
        inputs = is.is_wanted.inputs ∙ ap (λ (x : FlatText). x.expanded.inputs) same;
        outputs = is.is_wanted.outputs ∙ ap (λ (x : FlatText). x.expanded.outputs) same;
        formulas = is.formulas ∙ ap (λ (x : FlatText). x.formulas) same;
        whole = is.whole ∙ ap (λ (x : FlatText). x.expanded.whole) same;
      }

  alike_grounds : (kind given : Option Kind) (g h : Ground) → IsGroundOf text kind g → IsGroundOf text given h → AreAlike g h
  alike_grounds kind given g h is are =
      let flat : AreAlike g (ground_at are.is_wanted.flat h.wanted.means) = alike_flat kind given g are.is_wanted.flat h.wanted.means is are.is_wanted.is_flat in
      record {
        inputs = flat.inputs ∙ sym are.is_wanted.inputs;
        outputs = flat.outputs ∙ sym are.is_wanted.outputs;
        formulas = flat.formulas ∙ sym are.formulas;
        whole = flat.whole ∙ sym are.whole;
      }

  -- == with some guarantees ==

  module _ (keep : List Bool) (kind given : Option Kind) (g h : Ground) where
    alike_cut : IsCutGround text keep kind g → IsCutGround text keep given h → AreAlike g h
    alike_cut is are =
        let same : of_kind are.is_wanted.flat.expanded.kind is.is_wanted.flat ≡ are.is_wanted.flat =
        same_flat kind given is.is_wanted.flat are.is_wanted.flat is.is_wanted.is_flat are.is_wanted.is_flat in
        let lists : ◌≡◌ {A = Reduced} (record { formulas = g.formulas; whole = g.whole }) (record { formulas = h.formulas; whole = h.whole }) =
        same_Some _ _ (sym is.list ∙ ap (λ (x : FlatText). reduced_in (whole_with keep x)) same ∙ are.list) in
        record {
          inputs = is.is_wanted.inputs ∙ ap (λ (x : FlatText). x.expanded.inputs) same ∙ sym are.is_wanted.inputs;
          outputs = is.is_wanted.outputs ∙ ap (λ (x : FlatText). x.expanded.outputs) same ∙ sym are.is_wanted.outputs;
          formulas = ap (λ (r : Reduced). r.formulas) lists;
          whole = ap (λ (r : Reduced). r.whole) lists;
        }

    pub alike_over : IsGroundOver text keep kind g → IsGroundOver text keep given h → AreAlike g h
    alike_over (over_all e is) (over_all d are) = alike_grounds kind given g h is are
    alike_over (over_some e is) (over_some d are) = alike_cut is are
    alike_over (over_all e is) (over_some d are) = absurd (true≢false (sym e ∙ d))
    alike_over (over_some e is) (over_all d are) = absurd (true≢false (sym d ∙ e))
