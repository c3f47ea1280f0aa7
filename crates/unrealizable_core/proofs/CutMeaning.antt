-- What a text means whose guarantees are cut.
use Rattle.std.proofs.Common.{◌≡◌, ℕ, Bool, true, false, List, [], ◌∷◌, refl, sym, ap, ◌∙◌}
use Rattle.std.specs.Prelude.{◌&&◌}
use Rattle.text_limits.specs.declared.TheConstants.{SMALL_LIMITS}
use Rattle.letters_and_lassos.specs.Word.{Word}
use Rattle.ltl_formula.specs.declared.nodes.FormulaId.{FormulaId}
use Rattle.ltl_formula.specs.declared.nodes.Node.{Node}
use Rattle.ltl_formula.specs.Nodes.{Grows}
use Rattle.tlsf_syntax.specs.declared.sections.Sections.{Sections}
use Rattle.tlsf_syntax.specs.Tree as written
use Rattle.tlsf_values.specs.Names.{Names}
use Rattle.tlsf_expand.specs.Meaning.{all_true, by_semantics, means_with, section_truths}
use Rattle.tlsf_expand.specs.Senses.{true_in}
use Rattle.tlsf_expand.specs.Signals.{Signals}
use Rattle.tlsf_expand.specs.Standing.{SectionsStand, all_hold, formulas_at, truths_of}
use Rattle.tlsf_expand.specs.WrittenTruth.{sense_at}
use Rattle.tlsf_expand.proofs.Bools.{same_function}
use Rattle.tlsf_expand.proofs.Expanded.{is_made, same_later, same_trees}
use Rattle.tlsf_expand.proofs.Sectioned.{AllTruths, HaveTruths, all_at, all_lists, all_more, all_none, all_written, truths_are, written_truths}
use Rattle.unrealizable_core.specs.Cut.{CutTextsMean, cut}
use Rattle.unrealizable_core.specs.Reduced.{kept, kept_sections}

module _ (w : Word) (nodes : List Node) where
  kept_hold_at : (keep : List Bool) (ids : List FormulaId) (fs : List (ℕ → Bool)) → AllTruths w nodes ids fs → (i : ℕ) → all_hold w (kept keep (formulas_at nodes ids)) i ≡ all_at (kept keep fs) i
  kept_hold_at [] _ _ h i = refl
  kept_hold_at (keep ∷ keeps) _ _ all_none i = refl
  kept_hold_at (true ∷ keeps) _ _ (all_more id f ids fs h more) i =
      ap (λ g. g i && all_hold w (kept keeps (formulas_at nodes ids)) i) h.same ∙ ap (λ b. f i && b) (kept_hold_at keeps ids fs more i)
  kept_hold_at (false ∷ keeps) _ _ (all_more id f ids fs h more) i = kept_hold_at keeps ids fs more i

  kept_written : (keep : List Bool) (names : Names) (ts : List written.Tree) → kept keep (written_truths w names ts) ≡ written_truths w names (kept keep ts)
  kept_written [] names ts = refl
  kept_written (keep ∷ keeps) names [] = refl
  kept_written (true ∷ keeps) names (t ∷ ts) = ap (λ fs. true_in (sense_at w names [] t 0) ∷ fs) (kept_written keeps names ts)
  kept_written (false ∷ keeps) names (t ∷ ts) = kept_written keeps names ts

  cut_section : (keep : List Bool) (names : Names) (ts : List written.Tree) (ids : List FormulaId) → AllTruths w nodes ids (written_truths w names ts)
      → all_hold w (kept keep (formulas_at nodes ids)) ≡ all_true w names (kept keep ts)
  cut_section keep names ts ids h = same_function _ _ (λ i.
      kept_hold_at keep ids (written_truths w names ts) h i ∙ ap (λ fs. all_at fs i) (kept_written keep names ts) ∙ all_written w names (kept keep ts) i)

  cut_truths : (keep : List Bool) (signals : Signals) (s : Sections (List written.Tree)) (ids : Sections (List FormulaId)) → HaveTruths w (all_lists w signals s) ids nodes
      → truths_of w (kept_sections nodes keep ids) ≡ section_truths w signals (record s { guarantee = kept keep s.guarantee })
  cut_truths keep signals s ids h =
      λ k. record (truths_are w nodes signals s ids h k) { guarantee = cut_section keep signals.names s.guarantee ids.guarantee h.guarantee k }

pub kept_later : (keep : List Bool) (old new : List Node) (ids : Sections (List FormulaId)) → Grows old new → SectionsStand old ids → kept_sections new keep ids ≡ kept_sections old keep ids
kept_later keep old new ids grows h = λ k. record (same_trees old new ids grows h k) { guarantee = kept keep (same_later old new ids.guarantee grows h.guarantee k) }

pub cut_texts_mean : CutTextsMean
cut_texts_mean text kind flat keep w is =
    let m = is_made SMALL_LIMITS w text kind flat is in
    (λ k. by_semantics (m.strict k) w (cut_truths w flat.formulas keep m.signals text.sections flat.expanded.sections m.have k)) ∙ sym (ap (means_with w (cut keep text)) m.is)
