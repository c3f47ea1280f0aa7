-- Where a list that is made anew with shifted forms has room for both forms of its whole, the list as written has.
use Rattle.std.proofs.Common.{◌≡◌, ℕ, ◌≤◌, Bool, true, false, cond, List, [], length, Option, None, Some, refl, sym, ap, ◌∙◌}
use Rattle.std.specs.Prelude.{option_and_then, option_map, unwrap_or}
use Rattle.ltl_formula.specs.declared.nodes.FormulaId.{FormulaId}
use Rattle.ltl_formula.specs.declared.nodes.Node.{Node}
use Rattle.ltl_formula.specs.declared.nodes.TheConstants.{MAX_SIGNALS}
use Rattle.ltl_formula.specs.Tree.{Tree}
use Rattle.ltl_formula.specs.Tree.Tree.{signal}
use Rattle.ltl_formula.specs.Nodes.{Grows, IsNodeList, IsNodeIn, tree_at}
use Rattle.ltl_formula.proofs.Trees.{tree_at-grown}
use Rattle.ltl_formula.proofs.Lists.{Grows-refl, Grows-stands, Grows-trans, signals_are_below}
use Rattle.kind_conversion.specs.declared.conversion.ConvertedList.{ConvertedList}
use Rattle.kind_conversion.specs.declared.shifts.Shift.{Shift}
use Rattle.kind_conversion.specs.Shifts.{is_shifted}
use Rattle.kind_conversion.specs.ShiftedForm.{shifted_form}
use Rattle.kind_conversion.specs.ShiftedList.{ShiftedList, converted_of, form_at, put_forms}
use Rattle.kind_conversion.specs.Laws.{IsConversion}
use Rattle.kind_conversion.proofs.ListsMade.{converted_lists_say}
use Rattle.ltl_normal.specs.Table.{table}
use Rattle.ltl_normal.specs.NormalNodes.{Step, form_in, nodes_to}
use Rattle.solve_ground.specs.Forms.{BothForms, and_made, forms_of}
use Rattle.taken_laws.proofs.Unshifted.{moved_back, shifted_back, unmoved}
use Rattle.taken_laws.proofs.Few.{few_converted, few_step}
use Rattle.taken_laws.proofs.Forms.{Form, HasSignalsBelow, below_table, fold, forms, moved_below, moved_form, moved_tree, of_constant, of_join, of_literal, of_next, table_is_fold, table_shifted, tree}
use Rattle.taken_laws.proofs.Made.{IsIn, OfEach, builds, each_in, step}
use Rattle.taken_laws.proofs.Room.{Comes, Follows, form_fits}

-- ---- both forms, one behind the other

abbrev both : Step → Step → List Node → Option BothForms
both first second nodes = and_made (first nodes) (λ later negated. and_made (second later) (λ last normal. let x : BothForms = record { nodes = last; negated = negated; normal = normal } in Some x))

-- what the steps made
record AreMade (first second : Step) (nodes : List Node) : Type 0 where
  negated : FormulaId
  made_negated : (first nodes).made ≡ Some negated
  normal : FormulaId
  made_normal : (second (first nodes).nodes).made ≡ Some normal

-- steps that both made something give both forms
module _ (first second : Step) (nodes : List Node) where
  abbrev with_normal : FormulaId → List Node → FormulaId → Option BothForms
  with_normal negated last normal = let x : BothForms = record { nodes = last; negated = negated; normal = normal } in Some x

  abbrev with_negated : List Node → FormulaId → Option BothForms
  with_negated later negated = and_made (second later) (with_normal negated)

  second_made : (negated : FormulaId) (x : BothForms) → with_negated (first nodes).nodes negated ≡ Some x → (first nodes).made ≡ Some negated → (o : Option FormulaId)
      → (second (first nodes).nodes).made ≡ o → AreMade first second nodes
  second_made negated x is made None e =
      let none : None ≡ Some x = sym (ap (option_and_then (with_normal negated (second (first nodes).nodes).nodes)) e) ∙ is in absurd (cc)
  second_made negated x is made (Some normal) e = record { negated = negated; made_negated = made; normal = normal; made_normal = e }

  both_made : (x : BothForms) → both first second nodes ≡ Some x → (o : Option FormulaId) → (first nodes).made ≡ o → AreMade first second nodes
  both_made x is None e = let none : None ≡ Some x = sym (ap (option_and_then (with_negated (first nodes).nodes)) e) ∙ is in absurd (cc)
  both_made x is (Some negated) e =
      second_made negated x (sym (ap (option_and_then (with_negated (first nodes).nodes)) e) ∙ is) e (second (first nodes).nodes).made refl

  not_none : AreMade first second nodes → both first second nodes ≡ None → ⊥
  not_none m none =
      let some : both first second nodes ≡ with_normal m.negated (second (first nodes).nodes).nodes m.normal =
      ap (option_and_then (with_negated (first nodes).nodes)) m.made_negated ∙ ap (option_and_then (with_normal m.negated (second (first nodes).nodes).nodes)) m.made_normal in
      let clash : with_normal m.negated (second (first nodes).nodes).nodes m.normal ≡ None = sym some ∙ none in
      absurd (cc)

-- ---- the list that is made anew

abbrev ending : FormulaId → ShiftedList → ConvertedList
ending whole made = record { formulas = made.nodes; whole = form_at made.forms whole }

-- the same list whatever is the whole
same_list : (whole other : FormulaId) (c : ConvertedList) (o : Option ShiftedList) → option_map (ending whole) o ≡ Some c
    → (x : FormulaId) × (option_map (ending other) o ≡ Some (let d : ConvertedList = record { formulas = c.formulas; whole = x } in d))
same_list whole other c None is = absurd (cc)
same_list whole other c (Some made) is =
    let same : made.nodes ≡ c.formulas = ap (λ (o : Option ConvertedList). (unwrap_or o c).formulas) is in
    (form_at made.forms other, ap (λ (ns : List Node). Some (let d : ConvertedList = record { formulas = ns; whole = form_at made.forms other } in d)) same)

module _ (most : ℕ) (shift : Shift) (inputs : ℕ) (nodes : List Node) (list : IsNodeList nodes) (whole : FormulaId) (stands : IsNodeIn nodes whole) where
  abbrev form : Bool → Form
  form keep = table forms keep (tree_at nodes whole)

  form_below : (keep : Bool) → HasSignalsBelow MAX_SIGNALS (form keep)
  form_below keep = below_table MAX_SIGNALS keep (tree_at nodes whole) (signals_are_below nodes whole list stands)

  -- the step that makes a form, of the whole and of its shifted form
  step_of : (keep : Bool) → form_in most keep (tree_at nodes whole) ≡ step most (form keep)
  step_of keep = table_is_fold (nodes_to most) keep (tree_at nodes whole)

  moved_step_of : (keep : Bool) (t : Tree) → t ≡ shifted_form shift inputs (tree_at nodes whole) → form_in most keep t ≡ step most (moved_form shift inputs (form keep))
  moved_step_of keep t is =
      ap (form_in most keep) is ∙ table_is_fold (nodes_to most) keep (shifted_form shift inputs (tree_at nodes whole))
      ∙ ap (fold (nodes_to most)) (table_shifted shift inputs keep (tree_at nodes whole))

  -- ---- what comes back

  module _ (end : List Node) (list_end : IsNodeList end) where
    abbrev ComesBack : Tree → Type 0
    ComesBack t = Comes end list_end (unmoved shift inputs) t

    whole_comes : (g : Form) → IsIn end (tree (moved_form shift inputs g)) → ComesBack (tree g)
    whole_comes g is = record {
      id = is.id;
      stands = is.stands;
      tree_is = ap (unmoved shift inputs) (is.tree_is ∙ moved_tree shift inputs g) ∙ moved_back shift inputs (tree g);
    }

    literal_comes : (keep : Bool) (s : ℕ) (b : Bool) → OfEach (IsIn end) (cond b (of_next (of_literal keep s)) (of_literal keep s))
        → IsIn end (signal s) × IsIn end (tree (cond b (of_next (of_literal keep s)) (of_literal keep s)))
    literal_comes keep s true each = (each.0.0, each.1)
    literal_comes keep s false each = (each.0, each.1)

    each_comes : (g : Form) → OfEach (IsIn end) (moved_form shift inputs g) → OfEach ComesBack g
    each_comes (of_constant value) each = whole_comes (of_constant value) each
    each_comes (of_literal keep s) each =
        let parts = literal_comes keep s (is_shifted shift inputs s) each in
        (record { id = parts.0.id; stands = parts.0.stands; tree_is = ap (unmoved shift inputs) parts.0.tree_is }, whole_comes (of_literal keep s) parts.1)
    each_comes (of_next a) each = (each_comes a each.0, whole_comes (of_next a) each.1)
    each_comes (of_join joint a b) each = (each_comes a each.0, each_comes b each.1, whole_comes (of_join joint a b) each.2)

  -- ---- room

  module _ (c : ConvertedList) (is : converted_of most shift inputs nodes whole ≡ Some c) where
    converts : (id : FormulaId) → IsNodeIn nodes id
        → (x : FormulaId) × IsConversion shift inputs nodes id (let d : ConvertedList = record { formulas = c.formulas; whole = x } in d)
    converts id there =
        let other = same_list whole id c (put_forms most shift inputs nodes (record { nodes = []; forms = [] })) is in
        (other.0, converted_lists_say most shift inputs nodes id (record { formulas = c.formulas; whole = other.0 }) list there other.1)

    conversion : IsConversion shift inputs nodes whole c
    conversion = converted_lists_say most shift inputs nodes whole c list stands is

    room_for : AreMade (step most (moved_form shift inputs (form false))) (step most (moved_form shift inputs (form true))) c.formulas
        → AreMade (step most (form false)) (step most (form true)) nodes
    room_for m =
        let g : Form = moved_form shift inputs (form false) in
        let h : Form = moved_form shift inputs (form true) in
        let below_g : HasSignalsBelow MAX_SIGNALS g = moved_below shift inputs MAX_SIGNALS (form false) (form_below false) in
        let below_h : HasSignalsBelow MAX_SIGNALS h = moved_below shift inputs MAX_SIGNALS (form true) (form_below true) in
        let middle : List Node = (step most g c.formulas).nodes in
        let end : List Node = (step most h middle).nodes in
        let first = builds most g below_g c.formulas conversion.list in
        let second = builds most h below_h middle first.list in
        let list_end : IsNodeList end = second.list in
        let few : length end ≤ most = few_step most h middle (few_step most g c.formulas (few_converted most shift inputs nodes whole c is)) in
        let longer : Grows c.formulas end = Grows-trans c.formulas middle end first.grows second.grows in
        let each_g = each_comes end list_end (form false) (each_in most end g below_g c.formulas conversion.list m.negated m.made_negated second.grows) in
        let each_h = each_comes end list_end (form true) (each_in most end h below_h middle first.list m.normal m.made_normal (Grows-refl end)) in
        let follows : Follows end list_end (unmoved shift inputs) nodes = record {
          list = list;
          all = λ id there.
              let x = converts id there in
              record {
                id = x.0;
                stands = Grows-stands c.formulas end x.0 longer x.1.stands;
                tree_is = ap (unmoved shift inputs) (tree_at-grown c.formulas end x.0 longer x.1.stands ∙ x.1.tree) ∙ shifted_back shift inputs (tree_at nodes id);
              };
        } in
        let one = form_fits end list_end (unmoved shift inputs) most few (form false) (form_below false) each_g nodes follows in
        let two = form_fits end list_end (unmoved shift inputs) most few (form true) (form_below true) each_h (step most (form false) nodes).nodes one.follows in
        record { negated = one.id; made_negated = one.made; normal = two.id; made_normal = two.made }

    pub both_fit : (x : BothForms) → forms_of most c.formulas c.whole ≡ Some x → forms_of most nodes whole ≡ None → ⊥
    both_fit x some none =
        let shifted : both (step most (moved_form shift inputs (form false))) (step most (moved_form shift inputs (form true))) c.formulas ≡ Some x =
        sym (λ i. both (moved_step_of false (tree_at c.formulas c.whole) conversion.tree i) (moved_step_of true (tree_at c.formulas c.whole) conversion.tree i) c.formulas) ∙ some in
        let m = both_made (step most (moved_form shift inputs (form false))) (step most (moved_form shift inputs (form true))) c.formulas x shifted
        (step most (moved_form shift inputs (form false)) c.formulas).made refl in
        not_none (step most (form false)) (step most (form true)) nodes (room_for m) (sym (λ i. both (step_of false i) (step_of true i) nodes) ∙ none)
