-- What a name means where names are bound.
use Rattle.std.proofs.Common.{◌≡◌, ℕ, ◌+◌, ◌<◌, List, [], ◌∷◌, ◌++◌, length, map, reverse, take, get_or, Option, None, Some, refl, sym, ap, ◌∙◌}
use Rattle.std.specs.Option.{option_map}
use Rattle.std.proofs.lemmas.List.{map-append, reverse-append, take_more}
use Rattle.tlsf_values.specs.declared.value.Value.{Value}
use Rattle.tlsf_values.specs.EnvSeen.{binding_of}
use Rattle.tlsf_values.specs.Names.{Binding, Meaning, known, known_or}

-- a bound name is known, as the value that is found
pub known_found : (found : Option Binding) (v : Value) (m : Meaning) → Some v ≡ option_map (λ b. b.value) found → known v ≡ known_or found m
known_found None v m is = absurd cc
known_found (Some b) v m is = let same : v ≡ b.value = cc in ap known same

-- a name that isn't bound means what it is declared to be
pub unbound : (found : Option Binding) (m : Meaning) → None ≡ option_map (λ b. b.value) found → m ≡ known_or found m
unbound None m is = refl
unbound (Some b) m is = absurd cc

-- one more bound name stands first
pub bound_more : (bs : List (List ℕ × Value)) (i : ℕ) (b : List ℕ × Value) (scope more : List Binding) → i < length bs → b ≡ get_or bs i b → scope ≡ reverse (map binding_of (take i bs))
    → more ≡ binding_of b ∷ scope → more ≡ reverse (map binding_of (take (i + 1) bs))
bound_more bs i b scope more within at was is =
    is
    ∙ ap (λ xs. binding_of b ∷ xs) was
    ∙ sym (reverse-append (map binding_of (take i bs)) (binding_of b ∷ []))
    ∙ ap reverse (sym (map-append binding_of (take i bs) (b ∷ [])))
    ∙ ap (λ x. reverse (map binding_of (take i bs ++ x ∷ []))) at
    ∙ ap (λ xs. reverse (map binding_of xs)) (sym (take_more bs i b within))
