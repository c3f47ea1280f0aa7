use Rattle.std.proofs.Common.{◌≡◌, ◌≢◌, ℕ, zero, suc, ◌+◌, ◌/◌, ◌%◌, ◌<◌, ◌≤◌, Bool, false, not, ◌&&◌, cond, eqb, List, length, get_or, set, refl, sym, ap, subst, ◌∙◌, arith, inl, inr, below_more}
use Rattle.std.specs.Prelude.{map, Contains}
use Rattle.std.proofs.lemmas.Bool.{cond-true, eq-eqb, cases_lt}
use Rattle.std.proofs.lemmas.List.{get_or-set_same, get_or-set_other, length-set, length-map, get_or-map, get_or_default}
use Rattle.aiger_text.specs.declared.circuits.Gate.{Gate}
use Rattle.aiger_text.specs.Circuit.{Valuation, variable_value, literal_value}
use Rattle.aiger_text.specs.CircuitType.{IsOrder, Spares, gate_at}
use Rattle.aiger_text.specs.Values.{AreVariables, HaveRoom, Agrees, Settles, valuation}

-- a variable's value stays where another's is set
variable_value-set : (values : List Bool) (j : ℕ) (b : Bool) (v : ℕ) → v ≢ j → variable_value (valuation (set values j b)) v ≡ variable_value (valuation values) v
variable_value-set values j b zero apart = refl
variable_value-set values j b (suc v) apart = get_or-set_other values j (suc v) b false apart

-- and so does a literal's
pub literal_value-set : (values : List Bool) (j : ℕ) (b : Bool) (l : ℕ) → l / 2 ≢ j → literal_value (valuation (set values j b)) l ≡ literal_value (valuation values) l
literal_value-set values j b l apart =
    ap (λ x. cond (eqb (l % 2) 0) x (not x)) (variable_value-set values j b (l / 2) apart)

-- an even literal is its variable
variable_is : (v : Valuation) (n : ℕ) → 0 < n → variable_value v n ≡ v n
variable_is v zero some = absurd (omega arith)
variable_is v (suc n) some = refl

pub literal_value-even : (v : Valuation) (l : ℕ) → l % 2 ≡ 0 → 0 < l / 2 → literal_value v l ≡ v (l / 2)
literal_value-even v l even some =
    cond-true (eqb (l % 2) 0) (variable_value v (l / 2)) (not (variable_value v (l / 2))) (eq-eqb (l % 2) 0 even) ∙ variable_is v (l / 2) some

-- a gate that isn't there
abbrev pub no_gate : Gate
no_gate = record { literal = 0; left = 0; right = 0 }

-- the gates at the first n places of the order have their values, and each variable that no gate has keeps its own
pub record AreSettled (gates : List Gate) (order : List ℕ) (old new : List Bool) (n : ℕ) : Type 0 where
  pub zero : get_or new 0 false ≡ false
  pub len : length new ≡ length old
  pub agree : (k : ℕ) → k < n → Agrees (valuation new) (gate_at gates (get_or order k 0))
  pub others : (v : ℕ) → ((i : ℕ) → i < length gates → (get_or gates i no_gate).literal / 2 ≢ v) → get_or new v false ≡ get_or old v false

module _ (gates : List Gate) (order : List ℕ) (old new : List Bool) (n : ℕ) (b : Bool) (variables : AreVariables (length old) (map (λ gate. gate.literal) gates))
    (sorted : IsOrder gates order) (h : n < length order) (settled : AreSettled gates order old new n) where
  abbrev here : ℕ
  here = get_or order n 0

  here_is_place : here < length gates
  here_is_place = sorted.places n 0 h

  literal_at : (i : ℕ) → i < length gates → get_or (map (λ (gate : Gate). gate.literal) gates) i 0 ≡ (get_or gates i no_gate).literal
  literal_at i within = get_or-map (λ (gate : Gate). gate.literal) gates i no_gate 0 within

  counted : (i : ℕ) → i < length gates → i < length (map (λ (gate : Gate). gate.literal) gates)
  counted i within = rw length-map within

  pub even_at : (i : ℕ) → i < length gates → (get_or gates i no_gate).literal % 2 ≡ 0
  even_at i within = subst (λ (l : ℕ). l % 2 ≡ 0) (literal_at i within) (variables.even i (counted i within))

  pub some_at : (i : ℕ) → i < length gates → 0 < (get_or gates i no_gate).literal / 2
  some_at i within = subst (λ (l : ℕ). 0 < l / 2) (literal_at i within) (variables.some i (counted i within))

  pub room_at : (i : ℕ) → i < length gates → (get_or gates i no_gate).literal / 2 < length new
  room_at i within = rw settled.len (subst (λ (l : ℕ). l / 2 < length old) (literal_at i within) (variables.room i (counted i within)))

  apart_at : (i k : ℕ) → i < k → k < length gates → (get_or gates i no_gate).literal / 2 ≢ (get_or gates k no_gate).literal / 2
  apart_at i k less within e =
      let first : i < length gates = omega arith in
      variables.apart i k less (counted k within)
      (ap (λ (l : ℕ). l / 2) (literal_at i first) ∙ e ∙ ap (λ (l : ℕ). l / 2) (sym (literal_at k within)))

  different : (i k : ℕ) → i < length gates → k < length gates → i ≢ k → (get_or gates i no_gate).literal / 2 ≢ (get_or gates k no_gate).literal / 2
  different i k hi hk apart e = elim (cases_lt i k) [
    | inl less ↦ apart_at i k less hk e
    | inr more ↦ let greater : k ≤ i = more in apart_at k i (omega arith) hi (sym e)
  ]

  abbrev variable : ℕ
  variable = (get_or gates here no_gate).literal / 2

  -- the gate of an earlier place is as it was
  earlier : (k : ℕ) → k < n → Agrees (valuation (set new variable b)) (gate_at gates (get_or order k 0))
  earlier k before =
      let i : ℕ = get_or order k 0 in
      let place : i < length gates = sorted.places k 0 (omega arith) in
      let own : (gate_at gates i).literal / 2 ≢ variable = different i here place here_is_place (sorted.once k n before h) in
      let spares : Spares (gate_at gates i) variable = sorted.behind k n (omega arith) h in
      literal_value-set new variable b (gate_at gates i).literal own ∙ settled.agree k before
      ∙ sym (ap (λ x. x && literal_value (valuation (set new variable b)) (gate_at gates i).right) (literal_value-set new variable b (gate_at gates i).left spares.left)
      ∙ ap (λ x. literal_value (valuation new) (gate_at gates i).left && x) (literal_value-set new variable b (gate_at gates i).right spares.right))

  -- the gate of this place has its value now
  this : b ≡ (literal_value (valuation new) (gate_at gates here).left && literal_value (valuation new) (gate_at gates here).right)
      → Agrees (valuation (set new variable b)) (gate_at gates here)
  this value =
      let spares : Spares (gate_at gates here) variable = sorted.behind n n (omega arith) h in
      literal_value-even (valuation (set new variable b)) (gate_at gates here).literal (even_at here here_is_place) (some_at here here_is_place)
      ∙ get_or-set_same new variable b false (room_at here here_is_place) ∙ value
      ∙ sym (ap (λ x. x && literal_value (valuation (set new variable b)) (gate_at gates here).right) (literal_value-set new variable b (gate_at gates here).left spares.left)
      ∙ ap (λ x. literal_value (valuation new) (gate_at gates here).left && x) (literal_value-set new variable b (gate_at gates here).right spares.right))

  pub settle_more : b ≡ (literal_value (valuation new) (gate_at gates here).left && literal_value (valuation new) (gate_at gates here).right)
      → AreSettled gates order old (set new variable b) (n + 1)
  settle_more value = record {
    zero = let some : 0 < variable = some_at here here_is_place in get_or-set_other new variable 0 b false (λ e. omega arith) ∙ settled.zero;
    len = length-set new variable b ∙ settled.len;
    agree = below_more (λ k. Agrees (valuation (set new variable b)) (gate_at gates (get_or order k 0))) n earlier (this value);
    others = λ v free. get_or-set_other new variable v b false (λ e. free here here_is_place (sym e)) ∙ settled.others v free;
  }

pub settle_none : (gates : List Gate) (order : List ℕ) (old : List Bool) → get_or old 0 false ≡ false → AreSettled gates order old old 0
settle_none gates order old unset = record { zero = unset; len = refl; agree = λ k h. absurd (omega arith); others = λ v _. refl }

pub settle_done : (gates : List Gate) (order : List ℕ) (old new : List Bool) (n : ℕ) → IsOrder gates order → length order ≤ n → AreSettled gates order old new n → Settles gates old new
settle_done gates order old new n sorted all settled = record {
  agree = λ k d h.
      let found : Contains order k = sorted.all k h in
      let within : found.0 < length order = found.1 in
      let named : get_or order found.0 0 ≡ k = get_or_default order found.0 0 k within ∙ found.2 in
      subst (Agrees (valuation new)) (get_or_default gates k no_gate d h)
      (subst (λ (i : ℕ). Agrees (valuation new) (gate_at gates i)) named (settled.agree found.0 (omega arith)));
  others = settled.others;
}

-- an operand's variable has a place
pub operand_room : (f : Gate → ℕ) (gates : List Gate) (n i : ℕ) → f no_gate ≡ 0 → HaveRoom n (map f gates) → i < length gates → f (get_or gates i no_gate) / 2 < n
operand_room f gates n i none room h =
    let within : i < length (map f gates) = rw length-map h in
    subst (λ (l : ℕ). l / 2 < n) (get_or-map f gates i no_gate 0 h) (room i within)
