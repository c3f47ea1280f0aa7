-- The answer of the call, from those of reading, of expansion and of the forms.
use Rattle.std.proofs.Common.{◌≡◌, ℕ, not, List, length, Option, Some, None, Result, Ok, Err, IfOk, refl, sym, ap, subst, ◌∙◌, arith}
use Rattle.std.proofs.lemmas.Option.{same_Some}
use Rattle.letters_and_lassos.specs.declared.kinds.Kind.{Kind}
use Rattle.letters_and_lassos.specs.Word.{Word, HasRing}
use Rattle.ltl_formula.specs.Nodes.{tree_at}
use Rattle.ltl_formula.specs.Truth.{holds}
use Rattle.spec_faults.specs.declared.code.SpecCode.{SpecCode}
use Rattle.spec_faults.specs.declared.code.SpecCode.TheVariants.{TooManyNodes}
use Rattle.spec_faults.specs.declared.code.SpecFault.{SpecFault}
use Rattle.spec_faults.specs.declared.code.SpecFault.TheVariants.{At}
use Rattle.text_limits.specs.declared.Limits.{Limits}
use Rattle.kind_conversion.specs.declared.shifts.Shift.{Shift}
use Rattle.satisfaction.specs.Wanted.{Wanted}
use Rattle.tlsf_syntax.specs.Text.{Text}
use Rattle.tlsf_reader.specs.Reads.{Reads}
use Rattle.tlsf_values.specs.Outcomes.{fails}
use Rattle.tlsf_values.specs.Results.{IsFault}
use Rattle.tlsf_expand.specs.declared.spec.Spec.{Spec}
use Rattle.tlsf_expand.specs.Expansion.{expanded, fault_in}
use Rattle.tlsf_expand.specs.FewSignals.{HasFewSignals}
use Rattle.tlsf_expand.specs.FlatText.{FlatText, flat_in, spec_seen}
use Rattle.tlsf_expand.specs.Meaning.{means}
use Rattle.tlsf_expand.specs.Results.{KeepsMeaning}
use Rattle.flat_text.proofs.OfKinds.{kinds}
use Rattle.solve_ground.specs.declared.texts.SolveText.{SolveText}
use Rattle.solve_ground.specs.Forms.{forms_taken}
use Rattle.solve_ground.specs.Parts.{HasNoForms, IsWithForms}
use Rattle.solve_ground.specs.SolveText.{IsFaultWithin, IsTextWithin, of_expansion, of_forms}
use Rattle.solve_ground.specs.Taken.{converted_from, spoken_word, taken_kind, taken_shift}

-- the error of a result
pub same_error : {A E : Type 0} (r : Result A E) (x y e : E) → r ≡ Err x → x ≡ y → r ≡ Err e → y ≡ e
same_error {A = A} {E = E} r x y e is same h = let k : ◌≡◌ {A = Result A E} (Err x) (Err e) = sym is ∙ h in cc

-- the kind of a text under a given kind
pub kind_in : (limits : Limits) (tree : Text) (kind : Kind) (flat : FlatText) → flat_in (expanded limits tree (Some kind)) ≡ Some flat → flat.expanded.kind ≡ kind
kind_in limits tree kind flat is = sym (same_Some kind flat.expanded.kind (kinds.taken limits tree (Some kind) flat is))

-- ---- faults

module _ (limits : Limits) (text : List ℕ) (given : Option Kind) (tree : Text) (read : Reads text tree) where
  pub expansion_fault : (kind : Kind) → kind ≡ taken_kind given tree → (e : SpecFault) → IsFault (expanded limits tree (Some kind)) e
      → (code : SpecCode) (place : ℕ) → e ≡ At code place → IsFaultWithin limits text given code place
  expansion_fault kind same e is code place refused =
      of_expansion tree code place read (ap fault_in
      (subst (λ k. expanded limits tree (Some k) ≡ fails code place) same (subst (λ x. IsFault (expanded limits tree (Some kind)) x) refused is)))

  module _ (spec : Spec) (kind : Kind) (same : kind ≡ taken_kind given tree) (expansion : flat_in (expanded limits tree (Some kind)) ≡ Some (spec_seen spec)) where
    flat_so : flat_in (expanded limits tree (Some (taken_kind given tree))) ≡ Some (spec_seen spec)
    flat_so = subst (λ k. flat_in (expanded limits tree (Some k)) ≡ Some (spec_seen spec)) same expansion

    pub forms_fault : (shift : Option Shift) → shift ≡ taken_shift given tree → (code : SpecCode) (place : ℕ) → HasNoForms limits.nodes spec shift code place → IsFaultWithin limits text given code place
    forms_fault shift shift_is code place full =
        subst (λ c. IsFaultWithin limits text given c place) (sym full.code_is) (subst (λ p. IsFaultWithin limits text given TooManyNodes p) (sym full.at)
        (of_forms tree (spec_seen spec) read flat_so (subst (λ s. forms_taken limits.nodes s (spec_seen spec) ≡ None) shift_is full.none)))

    -- ---- the text

    wanted : Wanted
    wanted = record {
      inputs = spec.inputs.items;
      outputs = spec.outputs.items;
      kind = spec.kind;
      means = λ w. means limits (spoken_word (taken_shift given tree) (length spec.inputs.items) w) tree;
    }

    module _ (meaning : KeepsMeaning limits tree spec.formulas spec.whole) (few : HasFewSignals limits (length spec.inputs.items) (length spec.outputs.items) spec.formulas) where
      with_forms_is : (semantics : Option Kind) → semantics ≡ converted_from given tree → (t : SolveText) → IsWithForms limits.nodes spec (taken_shift given tree) semantics t → IsTextWithin limits text given t
      unfolding wanted
      with_forms_is semantics semantics_is t with_forms =
          let says : (w : Word) → HasRing w → holds w (tree_at with_forms.taken.formulas with_forms.taken.whole) 0 ≡ wanted.means w =
          λ w ring. with_forms.says.says w ring ∙ meaning.same (spoken_word (taken_shift given tree) (length spec.inputs.items) w) in
          record {
            flat = spec_seen spec;
            wanted = wanted;
            taken = record {
              tree = tree;
              read = read;
              is_flat = record { tree = tree; read = read; expanded = flat_so; meaning = meaning };
              inputs = refl;
              outputs = refl;
              kind_is = kind_in limits tree (taken_kind given tree) (spec_seen spec) flat_so;
              meaning = λ w ring. refl;
            };
            inputs = with_forms.inputs;
            outputs = with_forms.outputs;
            kind_is = with_forms.kind_is;
            semantics = with_forms.semantics_is ∙ semantics_is;
            forms = with_forms.forms;
            list = with_forms.of_taken.list;
            negated = record {
              stands = with_forms.of_taken.negated_stands;
              normal = with_forms.of_taken.negated_normal;
              says = λ w ring. with_forms.of_taken.negated_says w ring ∙ ap not (says w ring);
            };
            normal = record {
              stands = with_forms.of_taken.normal_stands;
              normal = with_forms.of_taken.normal_normal;
              says = λ w ring. with_forms.of_taken.normal_says w ring ∙ says w ring;
            };
            few_inputs = omega (arith, few.few_inputs, ap length with_forms.inputs);
            few_outputs = omega (arith, few.few_outputs, ap length with_forms.outputs);
            few_signals = omega (arith, few.few_signals, ap length with_forms.inputs, ap length with_forms.outputs);
          }

      pub text_of : (shift : Option Shift) → shift ≡ taken_shift given tree → (semantics : Option Kind) → semantics ≡ converted_from given tree → (result : Result SolveText SpecFault)
          → IfOk result (IsWithForms limits.nodes spec shift semantics) → IfOk result (IsTextWithin limits text given)
      text_of shift shift_is semantics semantics_is (Ok t) made = with_forms_is semantics semantics_is t (subst (λ s. IsWithForms limits.nodes spec s semantics t) shift_is made)
      text_of shift shift_is semantics semantics_is (Err e) made = tt
