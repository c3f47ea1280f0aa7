-- What the bytes of a text are, flat, or its first fault of those that come before normal forms: this project's profile of TLSF 1.1
-- and its order of refusals, in which each fault of reading comes before those of expansion.
use Rattle.std.specs.Prelude.{◌≡◌, ℕ, List, Option, Some}
use Rattle.text_limits.specs.declared.Limits.{Limits}
use Rattle.letters_and_lassos.specs.declared.kinds.Kind.{Kind}
use Rattle.spec_faults.specs.declared.code.SpecCode.{SpecCode}
use Rattle.tlsf_syntax.specs.Text.{Text}
use Rattle.tlsf_reader.specs.Reads.{Reads}
use Rattle.tlsf_reader.specs.Faults.{IsReadingFault}
use Rattle.tlsf_expand.specs.FlatText.{FlatText, flat_in}
use Rattle.tlsf_expand.specs.Expansion.{expanded, flat_fault}
use Rattle.tlsf_expand.specs.Results.{KeepsMeaning}

-- The text has a tree, this is the tree expanded within these limits, and on every lasso the formula of the whole is true exactly where the written
-- tree means so. A kind that is given stands for those that the text names.
pub record IsFlatOf (limits : Limits) (text : List ℕ) (kind : Option Kind) (flat : FlatText) : Type 0 where
  pub tree : Text
  pub read : Reads text tree
  pub expanded : flat_in (expanded limits tree kind) ≡ Some flat
  pub meaning : KeepsMeaning limits tree flat.formulas flat.expanded.whole

-- the first fault of reading, and where the text has a tree, the first one of its expansion
pub data IsFlatFault (limits : Limits) (text : List ℕ) (kind : Option Kind) : SpecCode → ℕ → Type 0 where
  of_reading : (code : SpecCode) (place : ℕ) → IsReadingFault text code place → IsFlatFault limits text kind code place
  of_expansion : (tree : Text) (code : SpecCode) (place : ℕ) → Reads text tree → flat_fault limits tree kind ≡ Some (record { code = code; place = place }) → IsFlatFault limits text kind code place
