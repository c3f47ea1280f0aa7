-- What the code's loops lay one after the other: values of enumerations, bits, and declarations.
use Rattle.std.proofs.Common.{◌≡◌, ℕ, suc, ◌+◌, ◌-◌, ◌<◌, zero, Bool, true, false, List, [], ◌∷◌, ◌++◌, length, get_or, drop, map, Some, Result, Err, refl, sym, ap, subst, ◌∙◌, append_assoc, arith, length-append}
use Rattle.std.proofs.lemmas.List.{at_drop_more}
use Rattle.std.specs.Prelude.{◌==◌, if◌then◌else◌}
use Rattle.spec_faults.specs.declared.code.SpecFault.{SpecFault}
use Rattle.spec_faults.specs.declared.code.SpecFault.TheVariants.{NoMemory, At}
use Rattle.tlsf_syntax.specs.declared.spec.Declaration.{Declaration as CodeDeclaration}
use Rattle.tlsf_syntax.specs.Tree.{Named, Pattern, Declaration}
use Rattle.tlsf_values.specs.declared.work.Work.{Work}
use Rattle.tlsf_values.specs.Outcomes.{Outcome, gives, go_on}
use Rattle.tlsf_values.specs.Results.{IsFault, IsOutcomeAs}
use Rattle.tlsf_expand.specs.Signals.{first_of, other_width, width_of, bit_name, bit_names, bits_in, Extent, alone, wide, of_type, Declared, declared, declaration_value, declarations_value}
use Rattle.tlsf_syntax.specs.Text.{Text}
use Rattle.tlsf_syntax.specs.Seen.{declaration_seen}

-- ---- enumerations

pub other_width_append : (width : ℕ) (ps qs : List Pattern) → other_width width (ps ++ qs) ≡ first_of (other_width width ps) (other_width width qs)
other_width_append width [] qs = refl
other_width_append width (p ∷ ps) qs = by (length p.bits == width) (other_width_append width ps qs)
  where
    by : (b : Bool) → other_width width (ps ++ qs) ≡ first_of (other_width width ps) (other_width width qs)
        → (if b then other_width width (ps ++ qs) else Some p.span.start) ≡ first_of (if b then other_width width ps else Some p.span.start) (other_width width qs)
    by true h = h
    by false h = refl

-- ---- bits

pub bits_step : (flat pushed : List (List ℕ)) (name : List ℕ) (bit width : ℕ) → bit < width → pushed ≡ flat ++ bit_name name bit ∷ [] →
    flat ++ bit_names name bit (width - bit) ≡ pushed ++ bit_names name (bit + 1) (width - (bit + 1))
bits_step flat pushed name bit width below is =
    let more : width - bit ≡ suc (width - (bit + 1)) = omega arith in
    ap (λ n. flat ++ bit_names name bit n) more ∙ sym (append_assoc flat (bit_name name bit ∷ []) (bit_names name (bit + 1) (width - (bit + 1))))
    ∙ ap (λ xs. xs ++ bit_names name (bit + 1) (width - (bit + 1))) (sym is)

-- ---- declarations

pub declarations_from : (xs : List CodeDeclaration) (i : ℕ) (x : CodeDeclaration) → i < length xs → x ≡ get_or xs i x →
    map declaration_seen (drop i xs) ≡ declaration_seen x ∷ map declaration_seen (drop (i + 1) xs)
declarations_from xs i x below is = at_drop_more (map declaration_seen) xs i x below ∙ ap (λ y. map declaration_seen (y ∷ drop (i + 1) xs)) (sym is)

pub declaration_given : (most : ℕ) (text : Text) (from : ℕ) (d next : Declared) (x : Declaration) (xs : List Declaration) (w w1 : Work) → declaration_value most text from d x w ≡ gives next w1 →
    declarations_value most text from d (x ∷ xs) w ≡ declarations_value most text from next xs w1
declaration_given most text from d next x xs w w1 e = ap (λ o. go_on o (λ d w. declarations_value most text from d xs w)) e

pub declaration_fault : (most : ℕ) (text : Text) (from : ℕ) (d : Declared) (x : Declaration) (xs : List Declaration) (w : Work) (e : SpecFault) → IsFault (declaration_value most text from d x w) e →
    IsFault (declarations_value most text from d (x ∷ xs) w) e
declaration_fault most text from d x xs w NoMemory h = tt
declaration_fault most text from d x xs w (At code place) h = ap (λ o. go_on o (λ d w. declarations_value most text from d xs w)) h

-- what an exit answers
pub fault_out : {A B : Type 0} (f : A → B) (r : Result A SpecFault) (w : Work) (o : Outcome B) (x e : SpecFault) → r ≡ Err x → x ≡ e → IsFault o e → IsOutcomeAs f r w o
fault_out f r w o x e is same h = subst (λ q. IsOutcomeAs f q w o) (sym (is ∙ ap Err same)) h

-- ---- how many signals there are

length-bits : (name : List ℕ) (k n : ℕ) → length (bit_names name k n) ≡ n
length-bits name k zero = refl
length-bits name k (suc n) = ap suc (length-bits name (k + 1) n)

pub length-declared : (word : Named) (number : ℕ) (extent : Extent) (d : Declared) → length (declared word number extent d).flat ≡ length d.flat + bits_in extent
length-declared word number alone d = length-append d.flat (word.name ∷ [])
length-declared word number (wide n) d = length-append d.flat (bit_names word.name 0 n) ∙ ap (λ k. length d.flat + k) (length-bits word.name 0 n)
length-declared word number (of_type values) d =
    length-append d.flat (bit_names word.name 0 (width_of values)) ∙ ap (λ k. length d.flat + k) (length-bits word.name 0 (width_of values))
