-- What comes of a text that is expanded: its sections with their truths, and the formula of the whole that they make.
use Rattle.std.proofs.Common.{◌≡◌, ◌+◌, ◌≤◌, List, [], ◌∷◌, All, length, get_or, Option, None, Some, refl, sym, ap, subst, ◌∙◌}
use Rattle.std.proofs.lemmas.List.Elements.{All-head, All-tail}
use Rattle.text_limits.specs.declared.Limits.{Limits}
use Rattle.letters_and_lassos.specs.Word.{Word}
use Rattle.letters_and_lassos.specs.declared.kinds.Kind.{Kind}
use Rattle.ltl_formula.specs.declared.nodes.FormulaId.{FormulaId}
use Rattle.ltl_formula.specs.declared.nodes.Node.{Node}
use Rattle.ltl_formula.specs.Nodes.{Grows, IsNodeIn, tree_at}
use Rattle.ltl_formula.specs.Truth.{holds}
use Rattle.ltl_formula.proofs.Lists.{Grows-stands}
use Rattle.ltl_formula.proofs.Trees.{tree_at-grown}
use Rattle.tlsf_syntax.specs.declared.sections.Sections.{Sections}
use Rattle.tlsf_syntax.specs.Text.{Text}
use Rattle.tlsf_values.specs.declared.work.Work.{Work}
use Rattle.tlsf_values.specs.Outcomes.{Outcome, gives, fails}
use Rattle.tlsf_expand.specs.Expansion.{Expanded, kind_of, expanded_as, expanded}
use Rattle.tlsf_expand.specs.FewSignals.{ExpansionHasFewSignals}
use Rattle.tlsf_expand.specs.FlatText.{FlatText, flat_in}
use Rattle.tlsf_expand.specs.Laws.{ExpansionKeepsMeaning}
use Rattle.tlsf_expand.specs.Meaning.{by_semantics, means_with}
use Rattle.tlsf_expand.specs.Signals.{Signals, signals_of}
use Rattle.tlsf_expand.specs.Standing.{SectionsStand, StandsAs, formulas_at, section_trees}
use Rattle.tlsf_expand.proofs.EachSection.{each_of, each_weaker, same_where}
use Rattle.tlsf_expand.proofs.Filling.{keeps_filled}
use Rattle.tlsf_expand.proofs.Kept.{IsGood, Gives, Anyhow, gives_go_on, gives_go_on_is, gives_such, given, refuses}
use Rattle.tlsf_expand.proofs.Laid.{gives_signals, any_word}
use Rattle.tlsf_expand.proofs.Sectioned.{HaveTruths, all_lists, keeps_sections, sections_stand, truths_are, truths_later}
use Rattle.tlsf_expand.proofs.WholeTree.{AllStandAs, SectionsStandAs, fills_whole, none_stand, one_stands, whole_holds, whole_tree}

-- ---- formulas that stand, as trees

all_stand_as : (nodes : List Node) (ids : List FormulaId) → All (IsNodeIn nodes) ids → AllStandAs nodes (formulas_at nodes ids) ids
all_stand_as nodes [] h = none_stand
all_stand_as nodes (id ∷ ids) h =
    one_stands (tree_at nodes id) id (formulas_at nodes ids) ids (record { stands = All-head (IsNodeIn nodes) id ids h; tree = refl }) (all_stand_as nodes ids (All-tail (IsNodeIn nodes) id ids h))

pub as_trees : (nodes : List Node) (ids : Sections (List FormulaId)) → SectionsStand nodes ids → SectionsStandAs nodes (section_trees nodes ids) ids
as_trees nodes ids h = each_of _ (λ p. AllStandAs nodes p.0 p.1) (λ ids. (formulas_at nodes ids, ids)) (all_stand_as nodes) h

pub same_later : (old new : List Node) (ids : List FormulaId) → Grows old new → All (IsNodeIn old) ids → formulas_at new ids ≡ formulas_at old ids
same_later old new [] grows h = refl
same_later old new (id ∷ ids) grows h =
    ap (λ t. t ∷ formulas_at new ids) (tree_at-grown old new id grows (All-head (IsNodeIn old) id ids h))
    ∙ ap (λ ts. tree_at old id ∷ ts) (same_later old new ids grows (All-tail (IsNodeIn old) id ids h))

pub same_trees : (old new : List Node) (ids : Sections (List FormulaId)) → Grows old new → SectionsStand old ids → section_trees new ids ≡ section_trees old ids
same_trees old new ids grows h = same_where (formulas_at new) (formulas_at old) (each_weaker _ _ (λ ids. same_later old new ids grows) h)

pub sections_stand_later : (old new : List Node) (ids : Sections (List FormulaId)) → Grows old new → SectionsStand old ids → SectionsStand new ids
sections_stand_later old new ids grows h = each_weaker _ (All (IsNodeIn new)) (λ ids h k d l. Grows-stands old new (get_or ids k d) grows (h k d l)) h

-- ---- the text

-- the sections have the truths of the written ones, and the whole is what they make
pub record IsMade (limits : Limits) (w : Word) (text : Text) (x : Expanded) (nodes : List Node) : Type 0 where
  pub signals : Signals
  pub work : Work
  pub is : signals_of limits text ≡ gives signals work
  pub strict : x.strict ≡ text.info.strict
  pub few_inputs : length x.inputs ≤ limits.signals
  pub few_outputs : length x.outputs ≤ limits.signals
  pub few_signals : length x.inputs + length x.outputs ≤ limits.all_signals
  pub good : IsGood (length x.inputs + length x.outputs) nodes
  pub have : HaveTruths w (all_lists w signals text.sections) x.sections nodes
  pub whole : StandsAs nodes (whole_tree x.strict (section_trees nodes x.sections)) x.whole

gives_made_text : (limits : Limits) (w : Word) (kind : Option Kind) (text : Text) → Gives Anyhow (IsMade limits w text) (expanded_as limits kind text)
gives_made_text limits w None text = refuses _ _
gives_made_text limits w (Some kind) text =
    gives_go_on_is (signals_of limits text) _ (IsMade limits w text) (gives_signals limits text) (λ signals w1 is s.
    gives_go_on _ (IsMade limits w text) (keeps_sections w signals s.plain s.inputs_fit s.outputs_fit text.sections w1 s.good) (λ ids w2 k.
    let stand : SectionsStand w2.formulas ids = sections_stand k.is in
    gives_go_on _ (IsMade limits w text) (keeps_filled (fills_whole (section_trees w2.formulas ids) ids text.info.strict w2 k.good (as_trees w2.formulas ids stand))) (λ whole w3 l.
    gives_such _ w3 (record {
      signals = signals;
      work = w1;
      is = is;
      strict = refl;
      few_inputs = s.few_inputs;
      few_outputs = s.few_outputs;
      few_signals = s.few_signals;
      good = l.good;
      have = truths_later l.grows k.is;
      whole = subst (λ ts. StandsAs w3.formulas (whole_tree text.info.strict ts) whole) (sym (same_trees w2.formulas w3.formulas ids l.grows stand)) l.is;
    }))))

module _ (limits : Limits) (w : Word) (text : Text) (kind : Option Kind) where
  made_of : (x : Expanded) (work : Work) → expanded limits text kind ≡ gives x work → IsMade limits w text x work.formulas
  made_of x work e = given (IsMade limits w text) (expanded limits text kind) x work (gives_made_text limits w (kind_of kind text) text) e

  pub is_made : (flat : FlatText) → flat_in (expanded limits text kind) ≡ Some flat → IsMade limits w text flat.expanded flat.formulas
  is_made flat is = by (expanded limits text kind) refl is
    where
      by : (o : Outcome Expanded) → expanded limits text kind ≡ o → flat_in o ≡ Some flat → IsMade limits w text flat.expanded flat.formulas
      by (fails code place) e none = cc
      by (gives x work) e some =
          let same : (let f : FlatText = record { expanded = x; formulas = work.formulas } in f) ≡ flat = cc in
          subst (λ (f : FlatText). IsMade limits w text f.expanded f.formulas) same (made_of x work e)

pub expansion_keeps_meaning : ExpansionKeepsMeaning
expansion_keeps_meaning = record {
  stands = λ limits text kind x work e. (made_of limits any_word text kind x work e).whole.stands;
  list = λ limits text kind x work e. (made_of limits any_word text kind x work e).good.list;
  meaning = λ limits text kind x work e w.
      let m = made_of limits w text kind x work e in
      ap (λ t. holds w t 0) m.whole.tree ∙ whole_holds x.strict w (section_trees work.formulas x.sections)
      ∙ (λ k. by_semantics (m.strict k) w (truths_are w work.formulas m.signals text.sections x.sections m.have k)) ∙ sym (ap (means_with w text) m.is);
}

pub expansion_has_few_signals : ExpansionHasFewSignals
expansion_has_few_signals limits text kind x work e =
    let m = made_of limits any_word text kind x work e in record { few_inputs = m.few_inputs; few_outputs = m.few_outputs; few_signals = m.few_signals; below = m.good.below }
