-- Texts that are written part by part.
use Rattle.std.proofs.Common.{◌≡◌, List, ℕ, [], ◌∷◌, ◌++◌, ap, ◌∙◌, append_assoc}
use Rattle.aiger_text.specs.CircuitText.{text_of_lines}
use Rattle.aiger_text.proofs.Lines.{text_more}

pub header_parts : (old t1 t2 t3 t4 t5 t6 l1 l2 l3 l4 l5 : List ℕ) (found : List (List ℕ))
    → t1 ≡ old ++ text_of_lines (l1 ∷ []) → t2 ≡ t1 ++ text_of_lines (l2 ∷ []) → t3 ≡ t2 ++ text_of_lines (l3 ∷ []) → t4 ≡ t3 ++ text_of_lines (l4 ∷ [])
    → t5 ≡ t4 ++ text_of_lines (l5 ∷ []) → t6 ≡ t5 ++ text_of_lines found
    → t6 ≡ old ++ (text_of_lines (l1 ∷ l2 ∷ l3 ∷ l4 ∷ l5 ∷ []) ++ text_of_lines found)
header_parts old t1 t2 t3 t4 t5 t6 l1 l2 l3 l4 l5 found e1 e2 e3 e4 e5 e6 =
    let a2 : t2 ≡ old ++ text_of_lines (l1 ∷ l2 ∷ []) = text_more old t1 t2 (l1 ∷ []) (l2 ∷ []) e1 e2 in
    let a3 : t3 ≡ old ++ text_of_lines (l1 ∷ l2 ∷ l3 ∷ []) = text_more old t2 t3 (l1 ∷ l2 ∷ []) (l3 ∷ []) a2 e3 in
    let a4 : t4 ≡ old ++ text_of_lines (l1 ∷ l2 ∷ l3 ∷ l4 ∷ []) = text_more old t3 t4 (l1 ∷ l2 ∷ l3 ∷ []) (l4 ∷ []) a3 e4 in
    let a5 : t5 ≡ old ++ text_of_lines (l1 ∷ l2 ∷ l3 ∷ l4 ∷ l5 ∷ []) = text_more old t4 t5 (l1 ∷ l2 ∷ l3 ∷ l4 ∷ []) (l5 ∷ []) a4 e5 in
    e6 ∙ ap (λ (t : List ℕ). t ++ text_of_lines found) a5 ∙ append_assoc old (text_of_lines (l1 ∷ l2 ∷ l3 ∷ l4 ∷ l5 ∷ [])) (text_of_lines found)
