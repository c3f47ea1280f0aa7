-- Texts that are written part by part.
use Rattle.std.proofs.Common.{◌≡◌, List, ℕ, [], ◌∷◌, ◌++◌, sym, ap, decimal}
use Rattle.std.specs.Prelude.{map, flat_map}
use Rattle.std.specs.List.{join_with_byte}
use Rattle.std.proofs.lemmas.List.{append-nil}
use Rattle.std_lemmas.proofs.Lists.{three_parts}
use Rattle.aiger_text.specs.CircuitText.{text_of_lines}
use Rattle.aiger_text.proofs.Lines.{text_more}

-- numbers, each with the comma before it
abbrev pub with_commas : List ℕ → List ℕ
with_commas numbers = flat_map (λ n. 44 ∷ decimal n) numbers

pub joined-cons : (first : ℕ) (others : List ℕ) → join_with_byte 44 (map decimal (first ∷ others)) ≡ decimal first ++ with_commas others
joined-cons first [] = sym (append-nil (decimal first))
joined-cons first (n ∷ others) = ap (λ (line : List ℕ). decimal first ++ (44 ∷ line)) (joined-cons n others)

-- the four parts of a header, of which the second and the third are lines
pub header_parts : (old version l1 l2 semantics t1 t2 t3 t4 : List ℕ) → t1 ≡ old ++ version → t2 ≡ t1 ++ text_of_lines (l1 ∷ []) → t3 ≡ t2 ++ text_of_lines (l2 ∷ [])
    → t4 ≡ t3 ++ semantics → t4 ≡ old ++ (version ++ (text_of_lines (l1 ∷ l2 ∷ []) ++ semantics))
header_parts old version l1 l2 semantics t1 t2 t3 t4 e1 e2 e3 e4 =
    let both : t3 ≡ t1 ++ text_of_lines (l1 ∷ l2 ∷ []) = text_more t1 t2 t3 (l1 ∷ []) (l2 ∷ []) e2 e3 in
    three_parts old version (text_of_lines (l1 ∷ l2 ∷ [])) semantics t1 t3 t4 e1 both e4
