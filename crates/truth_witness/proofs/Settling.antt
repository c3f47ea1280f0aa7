-- Gates that stand in order have the values of their operands, whatever the variables below them have.
use Rattle.std.proofs.Common.{◌≡◌, ℕ, zero, suc, ◌+◌, ◌*◌, ◌<◌, ◌≤◌, Bool, ◌&&◌, cond, List, [], ◌∷◌, refl, sym, ap, subst, ◌∙◌, arith}
use Rattle.std.specs.Prelude.{nat_eq, slice_get, Some}
use Rattle.std.proofs.lemmas.Bool.{cond-true, cond-false, eq-eqb, ne_eqb}
use Rattle.aiger_text.specs.Circuit.{Valuation, variable_value, literal_value}
use Rattle.truth_witness.specs.declared.witnesses.Operands.{Operands}
use Rattle.truth_witness.proofs.Values.{value_agrees}

-- one variable has another value
abbrev pub put : Valuation → ℕ → Bool → Valuation
put values v b u = cond (nat_eq u v) b (values u)

-- the variables from v on have the values of gates
abbrev pub settled : Valuation → ℕ → List Operands → Valuation
settled values v [] = values
settled values v (gate ∷ gates) = settled (put values v (literal_value values gate.left && literal_value values gate.right)) (suc v) gates

-- each gate's operands are literals of variables below it
abbrev pub AreInOrder : ℕ → List Operands → Type 0
AreInOrder v gates = (k : ℕ) (gate : Operands) → slice_get gates k ≡ Some gate → (gate.left < 2 * (v + k)) × (gate.right < 2 * (v + k))

pub settled_below : (values : Valuation) (v u : ℕ) (gates : List Operands) → u < v → settled values v gates u ≡ values u
settled_below values v u [] h = refl
settled_below values v u (gate ∷ gates) h =
    settled_below (put values v (literal_value values gate.left && literal_value values gate.right)) (suc v) u gates (omega arith)
    ∙ cond-false (nat_eq u v) (literal_value values gate.left && literal_value values gate.right) (values u) (ne_eqb u v (λ (e : u ≡ v). omega arith))

-- literals of variables below the gates keep their values
value_kept : (values : Valuation) (v l : ℕ) (gates : List Operands) → l < 2 * v → literal_value (settled values v gates) l ≡ literal_value values l
value_kept values zero l gates h = absurd (omega arith)
value_kept values (suc v) l gates h = value_agrees (settled values (suc v) gates) values v l (omega arith) same
  where
    same : (u : ℕ) → u ≤ v → variable_value (settled values (suc v) gates) u ≡ variable_value values u
    same zero low = refl
    same (suc u) low = settled_below values (suc v) (suc u) gates (omega arith)

pub settled_gate : (values : Valuation) (v k : ℕ) (gates : List Operands) (gate : Operands) → AreInOrder v gates → slice_get gates k ≡ Some gate
    → settled values v gates (v + k) ≡ (literal_value (settled values v gates) gate.left && literal_value (settled values v gates) gate.right)
settled_gate values v k [] gate order at = absurd (nothing k at)
  where
    nothing : (k : ℕ) → slice_get {X = Operands} [] k ≡ Some gate → ⊥
    nothing k at = cc
settled_gate values v zero (first ∷ gates) gate order at =
    let put_now : Valuation = put values v (literal_value values first.left && literal_value values first.right) in
    let e : v + 0 ≡ v = omega arith in
    let bounds : (first.left < 2 * (v + 0)) × (first.right < 2 * (v + 0)) = order 0 first refl in
    let left : literal_value (settled values v (first ∷ gates)) first.left ≡ literal_value values first.left =
    value_kept values v first.left (first ∷ gates) (let b : first.left < 2 * (v + 0) = bounds.0 in omega arith) in
    let right : literal_value (settled values v (first ∷ gates)) first.right ≡ literal_value values first.right =
    value_kept values v first.right (first ∷ gates) (let b : first.right < 2 * (v + 0) = bounds.1 in omega arith) in
    let same : first ≡ gate = some_same at in
    subst (λ g. settled values v (first ∷ gates) (v + 0) ≡ (literal_value (settled values v (first ∷ gates)) g.left && literal_value (settled values v (first ∷ gates)) g.right)) same
    (ap (settled values v (first ∷ gates)) e
    ∙ settled_below put_now (suc v) v gates (omega arith)
    ∙ cond-true (nat_eq v v) (literal_value values first.left && literal_value values first.right) (values v) (eq-eqb v v refl)
    ∙ (λ i. sym left i && sym right i))
  where
    some_same : Some first ≡ Some gate → first ≡ gate
    some_same e = cc
settled_gate values v (suc k) (first ∷ gates) gate order at =
    let put_now : Valuation = put values v (literal_value values first.left && literal_value values first.right) in
    let e : suc v + k ≡ v + suc k = omega arith in
    subst (λ u. settled put_now (suc v) gates u ≡ (literal_value (settled put_now (suc v) gates) gate.left && literal_value (settled put_now (suc v) gates) gate.right)) e
    (settled_gate put_now (suc v) k gates gate behind at)
  where
    behind : AreInOrder (suc v) gates
    behind j other there =
        let bounds : (other.left < 2 * (v + suc j)) × (other.right < 2 * (v + suc j)) = order (suc j) other there in
        let left : other.left < 2 * (v + suc j) = bounds.0 in
        let right : other.right < 2 * (v + suc j) = bounds.1 in
        (omega arith, omega arith)
