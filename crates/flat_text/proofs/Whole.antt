-- The answer of the call, from those of reading and of expansion.
use Rattle.std.proofs.Common.{◌≡◌, ℕ, List, Option, sym, ap, subst, ◌∙◌, Result, Ok, Err, IfOk}
use Rattle.text_limits.specs.declared.Limits.{Limits}
use Rattle.letters_and_lassos.specs.declared.kinds.Kind.{Kind}
use Rattle.spec_faults.specs.declared.code.SpecCode.{SpecCode}
use Rattle.spec_faults.specs.declared.code.SpecFault.{SpecFault}
use Rattle.spec_faults.specs.declared.code.SpecFault.TheVariants.{At}
use Rattle.tlsf_syntax.specs.Text.{Text}
use Rattle.tlsf_reader.specs.Reads.{Reads}
use Rattle.tlsf_values.specs.Outcomes.{fails}
use Rattle.tlsf_expand.specs.declared.spec.Spec.{Spec}
use Rattle.tlsf_expand.specs.Expansion.{expanded, fault_in}
use Rattle.tlsf_expand.specs.Results.{IsExpansion, KeepsMeaning}
use Rattle.tlsf_expand.specs.FlatText.{spec_seen}
use Rattle.flat_text.specs.FlatOf.{IsFlatOf, IsFlatFault, of_expansion}

pub flat_of : (limits : Limits) (text : List ℕ) (kind : Option Kind) (tree : Text) (result : Result Spec SpecFault) → Reads text tree → IsExpansion result (expanded limits tree kind)
    → IfOk result (λ spec. KeepsMeaning limits tree spec.formulas spec.whole) → IfOk result (λ spec. IsFlatOf limits text kind (spec_seen spec))
flat_of limits text kind tree (Ok spec) read is meaning = record { tree = tree; read = read; expanded = is; meaning = meaning }
flat_of limits text kind tree (Err e) read is meaning = tt

pub fault_of : (limits : Limits) (text : List ℕ) (kind : Option Kind) (tree : Text) (result : Result Spec SpecFault) → Reads text tree → IsExpansion result (expanded limits tree kind)
    → (code : SpecCode) (place : ℕ) → result ≡ Err (At code place) → IsFlatFault limits text kind code place
fault_of limits text kind tree result read is code place refused =
    let fails_so : expanded limits tree kind ≡ fails code place = subst (λ r. IsExpansion r (expanded limits tree kind)) refused is in of_expansion tree code place read (ap fault_in fails_so)

-- an error tells nothing of the answer that isn't there
pub same_error : {A B E : Type 0} (a b : E) (r : Result A E) → r ≡ Err a → r ≡ Err b → (let e : Result B E = Err a in e) ≡ Err b
same_error a b r is refused = let both : Err a ≡ Err b = sym is ∙ refused in let same : a ≡ b = cc in ap Err same
