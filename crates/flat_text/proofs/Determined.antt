-- A text is one thing, flat, and then it has no fault.
use Rattle.std.proofs.Common.{◌≡◌, ℕ, List, Option, Some, sym, ap, ◌∙◌}
use Rattle.std.proofs.lemmas.Option.{same_Some}
use Rattle.text_limits.specs.declared.Limits.{Limits}
use Rattle.letters_and_lassos.specs.declared.kinds.Kind.{Kind}
use Rattle.spec_faults.specs.declared.code.SpecCode.{SpecCode}
use Rattle.tlsf_reader.specs.Reads.{TreesAreDetermined, TreesHaveNoFault}
use Rattle.tlsf_values.specs.Outcomes.{Outcome, gives, fails}
use Rattle.tlsf_expand.specs.Expansion.{Expanded, Fault, expanded, fault_in}
use Rattle.tlsf_expand.specs.FlatText.{FlatText, flat_in}
use Rattle.flat_text.specs.FlatOf.{IsFlatOf, IsFlatFault, of_reading, of_expansion}

one_outcome : (o : Outcome Expanded) (flat : FlatText) (f : Fault) → flat_in o ≡ Some flat → fault_in o ≡ Some f → ⊥
one_outcome (gives x w) flat f is fault = absurd cc
one_outcome (fails code place) flat f is fault = absurd cc

module _ (determined : TreesAreDetermined) where
  pub one_flat : (limits : Limits) (text : List ℕ) (kind : Option Kind) (flat flat' : FlatText) → IsFlatOf limits text kind flat → IsFlatOf limits text kind flat' → flat ≡ flat'
  one_flat limits text kind flat flat' a b =
      same_Some flat flat' (sym a.expanded ∙ ap (λ t. flat_in (expanded limits t kind)) (determined text a.tree b.tree a.read b.read) ∙ b.expanded)

  pub no_flat_fault : TreesHaveNoFault → (limits : Limits) (text : List ℕ) (kind : Option Kind) (flat : FlatText) (code : SpecCode) (place : ℕ) → IsFlatOf limits text kind flat → IsFlatFault limits text kind code place → ⊥
  no_flat_fault sound limits text kind flat code place a (of_reading _ _ f) = sound text a.tree code place a.read f
  no_flat_fault sound limits text kind flat code place a (of_expansion tree _ _ reads f) =
      one_outcome (expanded limits tree kind) flat (record { code = code; place = place })
      (ap (λ t. flat_in (expanded limits t kind)) (determined text tree a.tree reads a.read) ∙ a.expanded) f
