-- In a text that is expanded the formulas of the sections stand, and the formula of the whole is the one that they make.
use Rattle.std.proofs.Common.{◌≡◌, true, List, [], ◌∷◌, length, replicate, Option, Some, refl, sym, ap, ◌∙◌}
use Rattle.std.proofs.lemmas.List.{length-map}
use Rattle.text_limits.specs.declared.TheConstants.{SMALL_LIMITS}
use Rattle.letters_and_lassos.specs.declared.kinds.Kind.{Kind}
use Rattle.ltl_formula.specs.Nodes.{IsNodeList, tree_at}
use Rattle.tlsf_syntax.specs.Text.{Text}
use Rattle.tlsf_expand.specs.Expansion.{expanded}
use Rattle.tlsf_expand.specs.FlatText.{FlatText, flat_in}
use Rattle.tlsf_expand.specs.Standing.{formulas_at, section_trees}
use Rattle.tlsf_expand.proofs.Expanded.{is_made}
use Rattle.tlsf_expand.proofs.Sectioned.{sections_stand}
use Rattle.tlsf_expand.proofs.WholeTree.{whole_tree}
use Rattle.tlsf_expand.proofs.Laid.{any_word}
use Rattle.unrealizable_core.specs.WholeLaws.{AllKeptIsTheWhole, SectionsOfTextsStand}
use Rattle.unrealizable_core.specs.Reduced.{kept, kept_sections}
use Rattle.unrealizable_core.proofs.Reducing.{whole_stands}

pub list_of_text : (text : Text) (kind : Option Kind) (flat : FlatText) → flat_in (expanded SMALL_LIMITS text kind) ≡ Some flat → IsNodeList flat.formulas
list_of_text text kind flat is = (is_made SMALL_LIMITS any_word text kind flat is).good.list

pub sections_of_texts_stand : SectionsOfTextsStand
sections_of_texts_stand text kind flat is = sections_stand (is_made SMALL_LIMITS any_word text kind flat is).have

all_kept : {A : Type 0} (xs : List A) → kept (replicate (length xs) true) xs ≡ xs
all_kept [] = refl
all_kept (x ∷ xs) = ap (λ ys. x ∷ ys) (all_kept xs)

pub all_kept_is_the_whole : AllKeptIsTheWhole
all_kept_is_the_whole text kind flat r is kept_is =
    let own = is_made SMALL_LIMITS any_word text kind flat is in
    let ids = flat.expanded.sections in
    let keep = replicate (length ids.guarantee) true in
    let all = formulas_at flat.formulas ids.guarantee in
    let guarantees : kept keep all ≡ all = ap (λ n. kept (replicate n true) all) (sym (length-map ids.guarantee (tree_at flat.formulas))) ∙ all_kept all in
    let same : kept_sections flat.formulas keep ids ≡ section_trees flat.formulas ids = ap (λ g. record (section_trees flat.formulas ids) { guarantee = g }) guarantees in
    let there = whole_stands flat.formulas own.good.list keep ids (sections_stand own.have) flat.expanded.strict r kept_is in
    there.tree ∙ ap (whole_tree flat.expanded.strict) same ∙ sym own.whole.tree
