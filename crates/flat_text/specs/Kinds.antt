-- The kind with which a text is taken (this project's own).
use Rattle.std.specs.Prelude.{◌≡◌, ℕ, List, Option, Some, option_map}
use Rattle.text_limits.specs.declared.Limits.{Limits}
use Rattle.letters_and_lassos.specs.declared.kinds.Kind.{Kind}
use Rattle.tlsf_syntax.specs.Text.{Text}
use Rattle.tlsf_expand.specs.Expansion.{expanded, flat_fault, kind_of}
use Rattle.tlsf_expand.specs.FlatText.{FlatText, flat_in}
use Rattle.flat_text.specs.FlatOf.{IsFlatOf}

-- a flat text with this kind in place of its own
abbrev pub of_kind : Kind → FlatText → FlatText
of_kind kind flat = record flat { expanded = record flat.expanded { kind = kind } }

-- A flat text has the kind that its tree is taken with. Taken with another one, a text is the same but for its kind, and has the same fault.
pub record KindsOfTexts : Type 0 where
  pub taken : (limits : Limits) (tree : Text) (given : Option Kind) (flat : FlatText) → flat_in (expanded limits tree given) ≡ Some flat
      → kind_of given tree ≡ Some flat.expanded.kind
  pub other : (limits : Limits) (tree : Text) (kind other : Kind)
      → flat_in (expanded limits tree (Some other)) ≡ option_map (of_kind other) (flat_in (expanded limits tree (Some kind)))
  pub other_fault : (limits : Limits) (tree : Text) (kind other : Kind) → flat_fault limits tree (Some other) ≡ flat_fault limits tree (Some kind)
  pub by_its_kind : (limits : Limits) (text : List ℕ) (given : Option Kind) (flat : FlatText) → IsFlatOf limits text given flat
      → IsFlatOf limits text (Some flat.expanded.kind) flat
  pub by_other : (limits : Limits) (text : List ℕ) (kind other : Kind) (flat : FlatText) → IsFlatOf limits text (Some kind) flat
      → IsFlatOf limits text (Some other) (of_kind other flat)
