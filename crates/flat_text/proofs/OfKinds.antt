-- A text taken with another kind is the same but for its kind.
use Rattle.std.proofs.Common.{◌≡◌, ℕ, List, Option, None, Some, refl, sym, ap, subst, ◌∙◌}
use Rattle.std.specs.Prelude.{option_map}
use Rattle.std.proofs.lemmas.Option.{same_Some}
use Rattle.text_limits.specs.declared.Limits.{Limits}
use Rattle.letters_and_lassos.specs.declared.kinds.Kind.{Kind}
use Rattle.ltl_formula.specs.declared.nodes.FormulaId.{FormulaId}
use Rattle.tlsf_values.specs.declared.work.Work.{Work}
use Rattle.tlsf_values.specs.Outcomes.{Outcome, fails, gives, go_on}
use Rattle.tlsf_syntax.specs.declared.sections.Sections.{Sections}
use Rattle.tlsf_syntax.specs.Text.{Text}
use Rattle.tlsf_expand.specs.Expansion.{Expanded, expanded, expanded_as, fault_in, kind_of}
use Rattle.tlsf_expand.specs.FlatText.{FlatText, flat_in}
use Rattle.tlsf_expand.specs.Sections.{sections_value, whole_value}
use Rattle.tlsf_expand.specs.Signals.{Signals, signals_of}
use Rattle.flat_text.specs.FlatOf.{IsFlatOf}
use Rattle.flat_text.specs.Kinds.{KindsOfTexts, of_kind}

-- the second outcome is the first with this kind
record IsOfKind (kind : Kind) (o p : Outcome Expanded) : Type 0 where
  flat : flat_in p ≡ option_map (of_kind kind) (flat_in o)
  fault : fault_in p ≡ fault_in o

-- so it is where each next step is
through : {A : Type 0} (kind : Kind) (o : Outcome A) (f g : A → Work → Outcome Expanded) → ((a : A) (w : Work) → IsOfKind kind (f a w) (g a w))
    → IsOfKind kind (go_on o f) (go_on o g)
through kind (gives a w) f g next = next a w
through kind (fails code place) f g next = record { flat = refl; fault = refl }

-- the last steps of an expansion
abbrev whole_at : Kind → Text → Signals → Sections (List FormulaId) → FormulaId → Work → Outcome Expanded
whole_at kind t signals sections whole w =
    gives (record { inputs = signals.inputs; outputs = signals.outputs; kind = kind; strict = t.info.strict; sections = sections; whole = whole }) w

abbrev sections_at : Kind → Text → Signals → Sections (List FormulaId) → Work → Outcome Expanded
sections_at kind t signals sections w = go_on (whole_value t.info.strict sections w) (whole_at kind t signals sections)

abbrev signals_at : Kind → Text → Signals → Work → Outcome Expanded
signals_at kind t signals w = go_on (sections_value signals t.sections w) (sections_at kind t signals)

as_kind : (limits : Limits) (t : Text) (a b : Kind) → IsOfKind b (expanded limits t (Some a)) (expanded limits t (Some b))
as_kind limits t a b =
    through b (signals_of limits t) (signals_at a t) (signals_at b t) (λ signals w.
    through b (sections_value signals t.sections w) (sections_at a t signals) (sections_at b t signals) (λ sections w.
    through b (whole_value t.info.strict sections w) (whole_at a t signals sections) (whole_at b t signals sections) (λ whole w. record { flat = refl; fault = refl })))

-- what is expanded with a kind is itself with that kind
kind_taken : (limits : Limits) (t : Text) (taken : Option Kind) (flat : FlatText) → flat_in (expanded_as limits taken t) ≡ Some flat → taken ≡ Some flat.expanded.kind
kind_taken limits t None flat is = absurd cc
kind_taken limits t (Some kind) flat is =
    let same : of_kind kind flat ≡ flat = same_Some (of_kind kind flat) flat (ap (option_map (of_kind kind)) (sym is) ∙ sym (as_kind limits t kind kind).flat ∙ is) in
    ap (λ (x : FlatText). Some x.expanded.kind) same

by_its_kind : (limits : Limits) (text : List ℕ) (given : Option Kind) (flat : FlatText) → IsFlatOf limits text given flat
    → IsFlatOf limits text (Some flat.expanded.kind) flat
by_its_kind limits text given flat is = record {
  tree = is.tree;
  read = is.read;
  expanded = subst (λ (o : Option Kind). flat_in (expanded_as limits o is.tree) ≡ Some flat) (kind_taken limits is.tree (kind_of given is.tree) flat is.expanded) is.expanded;
  meaning = is.meaning;
}

by_other : (limits : Limits) (text : List ℕ) (kind other : Kind) (flat : FlatText) → IsFlatOf limits text (Some kind) flat
    → IsFlatOf limits text (Some other) (of_kind other flat)
by_other limits text kind other flat is = record {
  tree = is.tree;
  read = is.read;
  expanded = (as_kind limits is.tree kind other).flat ∙ ap (option_map (of_kind other)) is.expanded;
  meaning = is.meaning;
}

pub kinds : KindsOfTexts
kinds = record {
  taken = λ limits tree given flat is. kind_taken limits tree (kind_of given tree) flat is;
  other = λ limits tree kind other. (as_kind limits tree kind other).flat;
  other_fault = λ limits tree kind other. (as_kind limits tree kind other).fault;
  by_its_kind = by_its_kind;
  by_other = by_other;
}
