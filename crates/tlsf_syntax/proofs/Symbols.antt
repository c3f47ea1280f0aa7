-- The test of symbols decides equality.
use Rattle.std.proofs.Common.{◌≡◌, Bool, true, false, List, [], ◌∷◌, inl, inr, refl, ap}
use denote.Enum.Bare.{same_true}
use denote.Enum.Compared.{Each, by}
use denote.Enum.Declared.{Choice, values_one}
use denote.Struct.Field.{Field}
use denote.Struct.Values.{Values}
use Rattle.tlsf_tokens.specs.contracts.symbol.Section.{the_type as section_type}
use Rattle.tlsf_tokens.specs.contracts.symbol.Symbol.{enum as symbol_type}
use Rattle.tlsf_tokens.specs.declared.symbol.Section.TheVariants.{Initially}
use Rattle.tlsf_tokens.specs.declared.symbol.Symbol.{Symbol}
use Rattle.tlsf_tokens.specs.declared.symbol.Symbol.TheVariants as symbol
use Rattle.tlsf_syntax.specs.Symbols.{symbol_eq}

-- the tests of the variants with fields tell no two values apart
abbrev Exact : (Fss : List (List Field)) → Each Bool Fss → Type 0
Exact [] each = Unit
Exact ([] ∷ Fss) each = Exact Fss each.1
Exact ((F ∷ Fs) ∷ Fss) each = ((x y : Values (F ∷ Fs)) → each.0 x y ≡ true → x ≡ y) × Exact Fss each.1

same_choice : (Fss : List (List Field)) (each : Each Bool Fss) → Exact Fss each → (c d : Choice Fss) → by false false Fss each c d ≡ true → c ≡ d
same_choice [] each h c d e = absurd c
same_choice ([] ∷ Fss) each h (inl x) (inl y) e = refl
same_choice ((F ∷ Fs) ∷ Fss) each h (inl x) (inl y) e = ap inl (h.0 x y e)
same_choice (Fs ∷ Fss) each h (inl x) (inr y) e = absurd (cc)
same_choice (Fs ∷ Fss) each h (inr x) (inl y) e = absurd (cc)
same_choice ([] ∷ Fss) each h (inr x) (inr y) e = ap inr (same_choice Fss each.1 h x y e)
same_choice ((F ∷ Fs) ∷ Fss) each h (inr x) (inr y) e = ap inr (same_choice Fss each.1 h.1 x y e)

pub same_symbol : (a b : Symbol) → symbol_eq a b ≡ true → a ≡ b
same_symbol a b e = values_one symbol_type a b (same_choice symbol_type.parts _ (λ x y same. λ i. (same_true section_type tt x.0 y.0 same i, tt), tt) (symbol_type.as_values a) (symbol_type.as_values b) e)

pub symbol_eq-self : (a : Symbol) → symbol_eq a a ≡ true
symbol_eq-self (symbol.Section s) = self s
  where
    self : (s : _) → symbol_eq (symbol.Section s) (symbol.Section s) ≡ true
    self Initially = refl
    self s = refl
symbol_eq-self a = refl

-- a test of a symbol that is known
pub is_symbol : (a b : Symbol) → a ≡ b → symbol_eq a b ≡ true
is_symbol a b e = rw e (symbol_eq-self b)
