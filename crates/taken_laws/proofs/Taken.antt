-- A text that is taken by its own kinds, with the kind of its machines given.
use Rattle.std.proofs.Common.{◌≡◌, ℕ, ◌<◌, List, length, Option, None, Some, refl, sym, ap, subst, ◌∙◌, arith}
use Rattle.std.specs.Prelude.{option_and_then, option_map}
use Rattle.std.proofs.lemmas.Option.{same_Some}
use Rattle.solve_ground.proofs.Determined.{never_both}
use Rattle.letters_and_lassos.specs.declared.kinds.Kind.{Kind}
use Rattle.ltl_formula.specs.Nodes.{IsNodeList}
use Rattle.spec_faults.specs.declared.code.SpecCode.{SpecCode}
use Rattle.text_limits.specs.declared.TheConstants.{LARGE_LIMITS}
use Rattle.tlsf_syntax.specs.Text.{Text}
use Rattle.tlsf_reader.specs.Reads.{Reads, TreesAreDetermined, TreesHaveNoFault}
use Rattle.tlsf_values.specs.Outcomes.{Outcome, fails, gives}
use Rattle.tlsf_expand.specs.Expansion.{Expanded, expanded}
use Rattle.tlsf_expand.specs.FlatText.{FlatText, flat_in}
use Rattle.tlsf_expand.specs.Meaning.{means}
use Rattle.tlsf_expand.proofs.Expanded.{expansion_keeps_meaning}
use Rattle.kind_conversion.specs.declared.conversion.ConvertedList.{ConvertedList}
use Rattle.kind_conversion.specs.declared.shifts.Shift.{Shift}
use Rattle.kind_conversion.specs.ShiftedList.{converted_of}
use Rattle.solve_ground.specs.declared.texts.SolveText.{SolveText}
use Rattle.solve_ground.specs.Forms.{BothForms, forms_of, forms_taken}
use Rattle.solve_ground.specs.SolveText.{IsSolveFault, IsSolveText, forms_seen, of_expansion, of_forms, of_reading}
use Rattle.solve_ground.specs.Taken.{IsTakenAs, spoken_word, taken_kind, taken_shift}
use Rattle.taken_laws.specs.Laws.{OwnKindsAreGiven}
use Rattle.taken_laws.proofs.Converted.{both_fit}

-- ---- flat forms

-- the list of what is expanded is one of formulas
list_of : (tree : Text) (kind : Option Kind) (flat : FlatText) (o : Outcome Expanded) → expanded LARGE_LIMITS tree kind ≡ o → flat_in o ≡ Some flat → IsNodeList flat.formulas
list_of tree kind flat (fails code place) is some = absurd (cc)
list_of tree kind flat (gives x work) is some =
    let same : (let f : FlatText = record { expanded = x; formulas = work.formulas } in f) ≡ flat = cc in
    subst (λ (f : FlatText). IsNodeList f.formulas) same (expansion_keeps_meaning.list LARGE_LIMITS tree kind x work is)

-- ---- both forms of a converted text

module _ (flat : FlatText) (list : IsNodeList flat.formulas) (stands : flat.expanded.whole.0 < length flat.formulas) where
  converted_fits : (shift : Shift) (x : BothForms) (o : Option ConvertedList)
      → converted_of LARGE_LIMITS.nodes shift (length flat.expanded.inputs) flat.formulas flat.expanded.whole ≡ o
      → option_and_then (λ (c : ConvertedList). forms_of LARGE_LIMITS.nodes c.formulas c.whole) o ≡ Some x
      → forms_of LARGE_LIMITS.nodes flat.formulas flat.expanded.whole ≡ None → ⊥
  converted_fits shift x None is some none = absurd (cc)
  converted_fits shift x (Some c) is some none =
      both_fit LARGE_LIMITS.nodes shift (length flat.expanded.inputs) flat.formulas list flat.expanded.whole stands c is x some none

  plain_fits : (shift : Option Shift) (x : BothForms) → forms_taken LARGE_LIMITS.nodes shift flat ≡ Some x → forms_of LARGE_LIMITS.nodes flat.formulas flat.expanded.whole ≡ None → ⊥
  plain_fits None x some none = let clash : Some x ≡ None = sym some ∙ none in cc
  plain_fits (Some shift) x some none =
      converted_fits shift x (converted_of LARGE_LIMITS.nodes shift (length flat.expanded.inputs) flat.formulas flat.expanded.whole) refl some none

-- ---- the text

module _ (trees : TreesAreDetermined) (whole : TreesHaveNoFault) (text : List ℕ) (t : SolveText) (is : IsSolveText text None t) where
  kind_is : taken_kind None is.taken.tree ≡ t.kind
  kind_is = sym (is.kind_is ∙ is.taken.kind_is)

  -- its flat form with the kind given
  flat_given : (tree : Text) → Reads text tree → flat_in (expanded LARGE_LIMITS tree (Some t.kind)) ≡ Some is.flat
  flat_given tree read =
      ap (λ (k : Kind). flat_in (expanded LARGE_LIMITS tree (Some k))) (sym kind_is)
      ∙ ap (λ (x : Text). flat_in (expanded LARGE_LIMITS x (Some (taken_kind None is.taken.tree)))) (trees text tree is.taken.is_flat.tree read is.taken.is_flat.read)
      ∙ is.taken.is_flat.expanded

  -- ---- no fault

  list : IsNodeList is.flat.formulas
  list =
      list_of is.taken.is_flat.tree (Some (taken_kind None is.taken.tree)) is.flat (expanded LARGE_LIMITS is.taken.is_flat.tree (Some (taken_kind None is.taken.tree))) refl
      is.taken.is_flat.expanded

  pub no_fault : (code : SpecCode) (place : ℕ) → IsSolveFault text (Some t.kind) code place → ⊥
  no_fault code place (of_reading _ _ fault) = whole text is.taken.tree code place is.taken.read fault
  no_fault code place (of_expansion tree _ _ read fault) =
      never_both (expanded LARGE_LIMITS tree (Some t.kind)) is.flat (record { code = code; place = place }) (flat_given tree read) fault
  no_fault _ _ (of_forms tree flat read expands none) =
      let same : flat ≡ is.flat = same_Some flat is.flat (sym expands ∙ flat_given tree read) in
      plain_fits is.flat list is.taken.is_flat.meaning.stands (taken_shift None is.taken.tree) (forms_seen t) is.forms
      (subst (λ (f : FlatText). forms_of LARGE_LIMITS.nodes f.formulas f.expanded.whole ≡ None) same none)

  -- ---- the same text

  not_shifted : t.semantics ≡ None → (o : Option Shift) → taken_shift None is.taken.tree ≡ o → taken_shift None is.taken.tree ≡ None
  not_shifted plain None e = e
  not_shifted plain (Some shift) e =
      let some : option_map (λ (s : Shift). is.taken.tree.info.semantics) (Some shift) ≡ None =
      sym (ap (option_map (λ (s : Shift). is.taken.tree.info.semantics)) e) ∙ sym is.semantics ∙ plain in
      absurd (cc)

  pub same_given : t.semantics ≡ None → IsSolveText text (Some t.kind) t
  same_given plain =
      let shift : taken_shift None is.taken.tree ≡ None = not_shifted plain (taken_shift None is.taken.tree) refl in
      let taken : IsTakenAs text (Some t.kind) is.flat is.wanted = record {
        tree = is.taken.tree;
        read = is.taken.read;
        is_flat = record {
          tree = is.taken.is_flat.tree;
          read = is.taken.is_flat.read;
          expanded = flat_given is.taken.is_flat.tree is.taken.is_flat.read;
          meaning = is.taken.is_flat.meaning;
        };
        inputs = is.taken.inputs;
        outputs = is.taken.outputs;
        kind_is = is.taken.kind_is ∙ kind_is;
        meaning = λ w ring. is.taken.meaning w ring ∙ ap (λ (s : Option Shift). means LARGE_LIMITS (spoken_word s (length is.wanted.inputs) w) is.taken.tree) shift;
      } in
      record {
        flat = is.flat;
        wanted = is.wanted;
        taken = taken;
        inputs = is.inputs;
        outputs = is.outputs;
        kind_is = is.kind_is;
        semantics = plain;
        forms = ap (λ (s : Option Shift). forms_taken LARGE_LIMITS.nodes s is.flat) (sym shift) ∙ is.forms;
        list = is.list;
        negated = is.negated;
        normal = is.normal;
        few_inputs = is.few_inputs;
        few_outputs = is.few_outputs;
        few_signals = is.few_signals;
      }

pub given_kinds : TreesAreDetermined → TreesHaveNoFault → OwnKindsAreGiven
given_kinds trees whole = record {
  plain = λ text t is plain. same_given trees whole text t is plain;
  no_fault = λ text t code place is fault. no_fault trees whole text t is code place fault;
}
