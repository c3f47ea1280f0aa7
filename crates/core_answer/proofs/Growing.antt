-- The normal forms are added to a list of formulas.
use Rattle.std.proofs.Common.{◌≡◌, true, false, List, sym, ap, subst, ◌∙◌}
use Rattle.text_limits.specs.declared.TheConstants.{SMALL_LIMITS}
use Rattle.ltl_formula.specs.declared.nodes.FormulaId.{FormulaId}
use Rattle.ltl_formula.specs.declared.nodes.Node.{Node}
use Rattle.ltl_formula.specs.declared.nodes.TheConstants.{MAX_SIGNALS}
use Rattle.ltl_formula.specs.Added.{Built}
use Rattle.ltl_formula.specs.Nodes.{Grows, IsNodeList}
use Rattle.ltl_formula.specs.Tree.{SignalsBelow, Tree}
use Rattle.ltl_formula.proofs.Lists.{Grows-trans}
use Rattle.side_automata.specs.BothForms.{AreForms, both_forms}
use Rattle.ltl_normal.specs.NormalNodes.{form_in}
use Rattle.ltl_normal.proofs.Building.{Builds-form_in, go_on-Some}

pub forms_grow : (f : Tree) (old new : List Node) (negated normal : FormulaId) → IsNodeList old → SignalsBelow MAX_SIGNALS f → AreForms f old new negated normal → Grows old new
forms_grow f old new negated normal list below forms =
    let first = Builds-form_in SMALL_LIMITS.nodes false f below old list in
    let second = Builds-form_in SMALL_LIMITS.nodes true f below (form_in SMALL_LIMITS.nodes false f old).nodes first.list in
    let both : both_forms f old ≡ form_in SMALL_LIMITS.nodes true f (form_in SMALL_LIMITS.nodes false f old).nodes = go_on-Some (form_in SMALL_LIMITS.nodes false f old) (λ negated later. form_in SMALL_LIMITS.nodes true f later) negated forms.of_negated in
    let is : (form_in SMALL_LIMITS.nodes true f (form_in SMALL_LIMITS.nodes false f old).nodes).nodes ≡ new = ap (λ (b : Built). b.nodes) (sym both ∙ forms.of_normal) in
    subst (Grows old) is (Grows-trans old (form_in SMALL_LIMITS.nodes false f old).nodes (form_in SMALL_LIMITS.nodes true f (form_in SMALL_LIMITS.nodes false f old).nodes).nodes first.grows second.grows)
