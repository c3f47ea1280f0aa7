-- A text as `solve` takes it is one thing, or it has one first fault.
use Rattle.std.proofs.Common.{◌≡◌, ℕ, List, Option, Some, None, refl, sym, ap, subst, ◌∙◌}
use Rattle.std.specs.Prelude.{option_map}
use Rattle.std.proofs.lemmas.Option.{same_Some}
use Rattle.text_limits.specs.declared.Limits.{Limits}
use Rattle.letters_and_lassos.specs.declared.kinds.Kind.{Kind}
use Rattle.letters_and_lassos.specs.declared.kinds.Kind.TheVariants.{Mealy}
use Rattle.spec_faults.specs.declared.code.SpecCode.{SpecCode}
use Rattle.tlsf_values.specs.Outcomes.{Outcome, fails, gives}
use Rattle.tlsf_syntax.specs.Text.{Text}
use Rattle.tlsf_reader.specs.Reads.{Reads}
use Rattle.tlsf_reader.proofs.NoFault.{no_fault as no_reading_fault}
use Rattle.tlsf_reader.proofs.OneTree.{determined as one_tree}
use Rattle.tlsf_expand.specs.Expansion.{Expanded, Fault, expanded, fault_in, flat_fault}
use Rattle.tlsf_expand.specs.FlatText.{FlatText, flat_in}
use Rattle.flat_text.specs.FlatOf as flats
use Rattle.flat_text.specs.Kinds.{of_kind}
use Rattle.flat_text.proofs.OfKinds.{kinds}
use Rattle.flat_text.proofs.OneFault.{one_fault as one_flat_fault}
use Rattle.solve_ground.specs.declared.texts.SolveText.{SolveText}
use Rattle.solve_ground.specs.Forms.{BothForms, forms_taken}
use Rattle.solve_ground.specs.Laws.{AreDetermined, IsSameText}
use Rattle.solve_ground.specs.SolveText.{IsFaultWithin, IsTextWithin, forms_seen, of_expansion, of_forms, of_reading}
use Rattle.solve_ground.specs.Taken.{converted_from, taken_kind, taken_shift}

-- what expands has no fault
pub never_both : (o : Outcome Expanded) (flat : FlatText) (fault : Fault) → flat_in o ≡ Some flat → fault_in o ≡ Some fault → ⊥
never_both (gives x w) flat fault is isnt = cc
never_both (fails code place) flat fault is isnt = cc

module _ (limits : Limits) (text : List ℕ) (given : Option Kind) where
  -- the flat form that a tree is taken as, or its fault
  abbrev flat_at : Text → Option FlatText
  flat_at tree = flat_in (expanded limits tree (Some (taken_kind given tree)))

  abbrev fault_at : Text → Option Fault
  fault_at tree = flat_fault limits tree (Some (taken_kind given tree))

  abbrev forms_at : Text → FlatText → Option BothForms
  forms_at tree flat = forms_taken limits.nodes (taken_shift given tree) flat

  -- what a text has at one tree it has at any other
  moved : {A : Type 0} (f : Text → A) (tree other : Text) → Reads text tree → Reads text other → f tree ≡ f other
  moved f tree other read read' = ap f (one_tree text tree other read read')

  module _ (t : SolveText) (is : IsTextWithin limits text given t) (tree : Text) (read : Reads text tree) where
    flat_of : flat_at tree ≡ Some is.flat
    flat_of =
        ap (λ (k : Kind). flat_in (expanded limits tree (Some k))) (moved (taken_kind given) tree is.taken.tree read is.taken.read)
        ∙ moved (λ (x : Text). flat_in (expanded limits x (Some (taken_kind given is.taken.tree)))) tree is.taken.is_flat.tree read is.taken.is_flat.read
        ∙ is.taken.is_flat.expanded

    forms_of : forms_at tree is.flat ≡ Some (forms_seen t)
    forms_of = moved (λ (x : Text). forms_at x is.flat) tree is.taken.tree read is.taken.read ∙ is.forms

  no_fault : (t : SolveText) (code : SpecCode) (place : ℕ) → IsTextWithin limits text given t → IsFaultWithin limits text given code place → ⊥
  no_fault t code place is (of_reading _ _ fault) = no_reading_fault text is.taken.tree code place is.taken.read fault
  no_fault t code place is (of_expansion tree _ _ read fault) =
      never_both (expanded limits tree (Some (taken_kind given tree))) is.flat (record { code = code; place = place }) (flat_of t is tree read) fault
  no_fault t _ _ is (of_forms tree flat read expands none) =
      let same : flat ≡ is.flat = same_Some flat is.flat (sym expands ∙ flat_of t is tree read) in
      let some = forms_of t is tree read in
      let lost : forms_at tree is.flat ≡ None = subst (λ (f : FlatText). forms_at tree f ≡ None) same none in
      cc

  one_text : (t t' : SolveText) → IsTextWithin limits text given t → IsTextWithin limits text given t' → IsSameText t t'
  one_text t t' is is' =
      let tree : Text = is.taken.tree in
      let read : Reads text tree = is.taken.read in
      let flat : is.flat ≡ is'.flat = same_Some is.flat is'.flat (sym (flat_of t is tree read) ∙ flat_of t' is' tree read) in
      record {
        inputs = is.inputs ∙ is.taken.inputs ∙ ap (λ (f : FlatText). f.expanded.inputs) flat ∙ sym is'.taken.inputs ∙ sym is'.inputs;
        outputs = is.outputs ∙ is.taken.outputs ∙ ap (λ (f : FlatText). f.expanded.outputs) flat ∙ sym is'.taken.outputs ∙ sym is'.outputs;
        kind = is.kind_is ∙ is.taken.kind_is ∙ moved (taken_kind given) tree is'.taken.tree read is'.taken.read ∙ sym is'.taken.kind_is ∙ sym is'.kind_is;
        semantics = is.semantics ∙ moved (converted_from given) tree is'.taken.tree read is'.taken.read ∙ sym is'.semantics;
        forms = same_Some (forms_seen t) (forms_seen t') (sym (forms_of t is tree read) ∙ ap (forms_at tree) flat ∙ forms_of t' is' tree read);
      }

  -- == faults ==

  -- a tree that is expanded isn't one whose expansion fails
  no_expansion : (tree other : Text) (flat : FlatText) (code : SpecCode) (place : ℕ) → Reads text tree → Reads text other → flat_at tree ≡ Some flat
      → fault_at other ≡ Some (record { code = code; place = place }) → ⊥
  no_expansion tree other flat code place read read' is fault =
      never_both (expanded limits tree (Some (taken_kind given tree))) flat (record { code = code; place = place }) is
      (moved fault_at tree other read read' ∙ fault)

  one_fault : (code code' : SpecCode) (place place' : ℕ) → IsFaultWithin limits text given code place → IsFaultWithin limits text given code' place'
      → (code ≡ code') × (place ≡ place')
  one_fault code code' place place' (of_reading _ _ is) (of_reading _ _ is') =
      one_flat_fault limits text None code code' place place' (flats.of_reading code place is) (flats.of_reading code' place' is')
  one_fault code code' place place' (of_reading _ _ is) (of_expansion tree _ _ read fault) = absurd (no_reading_fault text tree code place read is)
  one_fault code _ place _ (of_reading _ _ is) (of_forms tree flat read expands none) = absurd (no_reading_fault text tree code place read is)
  one_fault code code' place place' (of_expansion tree _ _ read fault) (of_reading _ _ is) = absurd (no_reading_fault text tree code' place' read is)
  one_fault code code' place place' (of_expansion tree _ _ read fault) (of_expansion other _ _ read' fault') =
      one_flat_fault limits text (Some (taken_kind given tree)) code code' place place' (flats.of_expansion tree code place read fault)
      (flats.of_expansion tree code' place' read (moved fault_at tree other read read' ∙ fault'))
  one_fault code _ place _ (of_expansion tree _ _ read fault) (of_forms other flat read' expands none) =
      absurd (no_expansion other tree flat code place read' read expands fault)
  one_fault _ code' _ place' (of_forms tree flat read expands none) (of_reading _ _ is) = absurd (no_reading_fault text tree code' place' read is)
  one_fault _ code' _ place' (of_forms tree flat read expands none) (of_expansion other _ _ read' fault) =
      absurd (no_expansion tree other flat code' place' read read' expands fault)
  one_fault _ _ _ _ (of_forms tree flat read expands none) (of_forms other flat' read' expands' none') = (refl, refl)

any_kind : (limits : Limits) (text : List ℕ) (kind other : Kind) (code : SpecCode) (place : ℕ) → IsFaultWithin limits text (Some kind) code place → IsFaultWithin limits text (Some other) code place
any_kind limits text kind other code place (of_reading _ _ is) = of_reading code place is
any_kind limits text kind other code place (of_expansion tree _ _ read fault) = of_expansion tree code place read (kinds.other_fault limits tree kind other ∙ fault)
any_kind limits text kind other _ _ (of_forms tree flat read is none) =
    of_forms tree (of_kind other flat) read (kinds.other limits tree kind other ∙ ap (option_map (of_kind other)) is) none

pub determined : (limits : Limits) → AreDetermined limits
determined limits = record { one_text = one_text limits; no_fault = no_fault limits; one_fault = one_fault limits; any_kind = any_kind limits }
