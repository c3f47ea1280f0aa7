use Rattle.std.proofs.Common.{◌≡◌, Bool, true, false, not, List, Option, Some, None, Result, Err, refl, sym, ◌∙◌, ap, subst}
use Rattle.letters_and_lassos.proofs.Positions.{first_position}
use Rattle.ltl_formula.specs.declared.faults.AddFault.{AddFault}
use Rattle.ltl_formula.specs.declared.nodes.FormulaId.{FormulaId}
use Rattle.ltl_formula.specs.declared.nodes.Node.{Node}
use Rattle.ltl_formula.specs.Added.{Built}
use Rattle.ltl_formula.specs.NormalForm.{IsNormal}
use Rattle.ltl_formula.specs.Nodes.{Grows, IsNodeIn, tree_at}
use Rattle.ltl_formula.specs.Tree.{Tree}
use Rattle.ltl_formula.specs.Truth.{holds}
use Rattle.ltl_formula.proofs.Lists.{Grows-stands}
use Rattle.ltl_formula.proofs.Trees.{tree_at-grown}
use Rattle.ltl_normal.specs.NormalNodes.{form_in}
use Rattle.ltl_normal.specs.Truths.{HasTruthOf, OpposesTruthOf}
use Rattle.ltl_normal.proofs.Building.{go_on-Some}
use Rattle.machine_model.specs.Automaton.{AutomatonModel}
use Rattle.cobuchi_build.specs.declared.building.BuildFault.{BuildFault}
use Rattle.obligation_sets.specs.declared.sets.Covering.{Covering}
use Rattle.cobuchi_build.specs.Built.{IsAutomatonOf, PassesLimit}
use Rattle.text_limits.specs.declared.TheConstants.{SMALL_LIMITS}
use Rattle.cobuchi_build.proofs.Rounds.{one_automaton_per_formula}
use Rattle.side_automata.specs.BothForms.{AreForms, IsFormWhere, both_forms, fault_of}
use Rattle.side_automata.specs.Laws.{AnswersAreApart}
use Rattle.side_automata.specs.Sides.{IsWithinLimits}

-- both forms, made one after the other
module _ (f : Tree) (old between : List Node) where
  module _ (negated : FormulaId) (first : form_in SMALL_LIMITS.nodes false f old ≡ record { nodes = between; made = Some negated }) where
    then_normal : both_forms f old ≡ form_in SMALL_LIMITS.nodes true f between
    then_normal =
        go_on-Some (form_in SMALL_LIMITS.nodes false f old) (λ _ later. form_in SMALL_LIMITS.nodes true f later) negated (ap (λ (b : Built). b.made) first)
        ∙ ap (λ (b : Built). form_in SMALL_LIMITS.nodes true f b.nodes) first

    pub forms_made : (new : List Node) (normal : FormulaId) (g : Tree) → g ≡ f → form_in SMALL_LIMITS.nodes true g between ≡ record { nodes = new; made = Some normal } → AreForms f old new negated normal
    forms_made new normal g same second = record {
      of_negated = ap (λ (b : Built). b.made) first;
      of_normal = then_normal ∙ ap (λ h. form_in SMALL_LIMITS.nodes true h between) (sym same) ∙ second;
    }

    pub no_normal : (new : List Node) (g : Tree) → g ≡ f → form_in SMALL_LIMITS.nodes true g between ≡ record { nodes = new; made = None } → both_forms f old ≡ record { nodes = new; made = None }
    no_normal new g same second = then_normal ∙ ap (λ h. form_in SMALL_LIMITS.nodes true h between) (sym same) ∙ second

opposed : (b c : Bool) → b ≡ not c → (b ≡ true → c ≡ false) × (c ≡ false → b ≡ true)
opposed b true e = (λ d. absurd (let x : true ≡ false = sym d ∙ e in cc), λ d. absurd (let x : true ≡ false = d in cc))
opposed b false e = (λ d. refl, λ d. e)

-- the negated form still stands in a list that has grown
pub negated_form : (f : Tree) (between new : List Node) (id : FormulaId) → Grows between new → IsNodeIn between id → IsNormal (tree_at between id) → OpposesTruthOf f (tree_at between id) → IsFormWhere false f new id
negated_form f between new id grows stands normal opposes =
    let same : tree_at new id ≡ tree_at between id = tree_at-grown between new id grows stands in
    record {
      stands = Grows-stands between new id grows stands;
      normal = subst IsNormal (sym same) normal;
      same = λ w ring. opposed (holds w (tree_at new id) 0) (holds w f 0) (ap (λ t. holds w t 0) same ∙ opposes.opposite w 0 ring (first_position w ring));
    }

pub normal_form : (f g : Tree) (new : List Node) (id : FormulaId) → g ≡ f → IsNodeIn new id → IsNormal (tree_at new id) → HasTruthOf g (tree_at new id) → IsFormWhere true f new id
normal_form f g new id is stands normal keeps = record {
  stands = stands;
  normal = normal;
  same = λ w ring. let e : holds w (tree_at new id) 0 ≡ holds w f 0 = keeps.same w 0 ring (first_position w ring) ∙ ap (λ t. holds w t 0) is in (λ d. sym e ∙ d, λ d. e ∙ d);
}

same_id : (a b : FormulaId) → Some a ≡ Some b → a ≡ b
same_id a b e = cc

-- what was made is determined
same_forms : (f : Tree) (old p q : List Node) (n m k l : FormulaId) → AreForms f old p n m → AreForms f old q k l → (p ≡ q) × (n ≡ k) × (m ≡ l)
same_forms f old p q n m k l x y =
    let built : ◌≡◌ {A = Built} (record { nodes = p; made = Some m }) (record { nodes = q; made = Some l }) = sym x.of_normal ∙ y.of_normal in
    let negated : ◌≡◌ {A = Option FormulaId} (Some n) (Some k) = sym x.of_negated ∙ y.of_negated in
    let normal : ◌≡◌ {A = Option FormulaId} (Some m) (Some l) = ap (λ (b : Built). b.made) built in
    (ap (λ (b : Built). b.nodes) built, same_id n k negated, same_id m l normal)

same_within : (ns : List Node) (id : FormulaId) (o p : Option AutomatonModel) → IsWithinLimits ns id o → IsWithinLimits ns id p → o ≡ p
same_within ns id None None x y = refl
same_within ns id None (Some b) x y = absurd (y.1 x)
same_within ns id (Some a) None x y = absurd (x.1 y)
same_within ns id (Some a) (Some b) x y = ap Some (one_automaton_per_formula Covering.Plain ns id a b x.0 y.0)

moved : (P : List Node → FormulaId → Type 0) (p q : List Node) (n k : FormulaId) → p ≡ q → n ≡ k → P q k → P p n
moved P p q n k lists ids h = subst (λ ns. P ns n) (sym lists) (subst (λ id. P q id) (sym ids) h)

pub answers_are_apart : AnswersAreApart
answers_are_apart = record {
  one = λ f old p q a b x y.
      let same = same_forms f old p q x.negated x.normal y.negated y.normal x.forms y.forms in
      let system : a.system ≡ b.system =
      one_automaton_per_formula Covering.Plain p x.negated a.system b.system x.system (moved (λ ns id. IsAutomatonOf Covering.Plain ns id b.system) p q x.negated y.negated same.0 same.1 y.system) in
      let environment : a.environment ≡ b.environment =
      same_within p x.normal a.environment b.environment x.environment (moved (λ ns id. IsWithinLimits ns id b.environment) p q x.normal y.normal same.0 same.2 y.environment) in
      λ i. record { system = system i; environment = environment i };
  too_large = λ f old p q a x y.
      let same = same_forms f old p q x.negated x.normal y.negated y.normal x.forms y.forms in
      x.within (moved (PassesLimit Covering.Plain SMALL_LIMITS.automaton) p q x.negated y.negated same.0 same.1 y.passes);
  made = λ f old new a x e. made_some x.normal (ap (λ (b : Built). b.made) (sym x.forms.of_normal) ∙ e);
  passed = λ f old new x e. made_some x.normal (ap (λ (b : Built). b.made) (sym x.forms.of_normal) ∙ e);
}
  where
    made_some : (id : FormulaId) → Some id ≡ None → ⊥
    made_some id e = absurd (let x : Some id ≡ None = e in cc)

-- only a full list gives the fault of one
pub node_fault : {T : Type 0} → (fault : AddFault) (given : BuildFault) → given ≡ fault_of fault → ◌≡◌ {A = Result T BuildFault} (Err given) (Err BuildFault.TooManyNodes) → fault ≡ AddFault.TooManyNodes
node_fault AddFault.TooManyNodes given is e = refl
node_fault AddFault.NoMemory given is e = absurd (let d : given ≡ BuildFault.NoMemory = is in cc)
