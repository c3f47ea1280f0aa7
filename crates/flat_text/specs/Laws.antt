-- Laws of flat texts.
use Rattle.std.specs.Prelude.{◌≡◌, ℕ, List, Option}
use Rattle.text_limits.specs.declared.Limits.{Limits}
use Rattle.letters_and_lassos.specs.declared.kinds.Kind.{Kind}
use Rattle.spec_faults.specs.declared.code.SpecCode.{SpecCode}
use Rattle.tlsf_expand.specs.FlatText.{FlatText}
use Rattle.flat_text.specs.FlatOf.{IsFlatOf, IsFlatFault}

-- a text is one thing, flat
abbrev pub FlatTextsAreDetermined : Type 0
FlatTextsAreDetermined = (limits : Limits) (text : List ℕ) (kind : Option Kind) (flat flat' : FlatText) → IsFlatOf limits text kind flat → IsFlatOf limits text kind flat' → flat ≡ flat'

-- a text that is expanded has no fault
abbrev pub FlatTextsHaveNoFault : Type 0
FlatTextsHaveNoFault = (limits : Limits) (text : List ℕ) (kind : Option Kind) (flat : FlatText) (code : SpecCode) (place : ℕ) → IsFlatOf limits text kind flat → IsFlatFault limits text kind code place → ⊥

-- a text has at most one first fault
abbrev pub FlatFaultsAreDetermined : Type 0
FlatFaultsAreDetermined =
    (limits : Limits) (text : List ℕ) (kind : Option Kind) (code code' : SpecCode) (place place' : ℕ) → IsFlatFault limits text kind code place → IsFlatFault limits text kind code' place' → (code ≡ code') × (place ≡ place')
