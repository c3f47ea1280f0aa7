use Rattle.std.proofs.Common.{◌≡◌, ◌≢◌, ℕ, zero, suc, ◌+◌, ◌*◌, ◌/◌, ◌%◌, ◌<◌, ◌≤◌, Bool, false, not, ◌&&◌, cond, eqb, List, ◌++◌, length, get_or, set, replicate, refl, sym, ap, subst, ◌∙◌, arith, inl, inr, below_more}
use Rattle.std.specs.Prelude.{map, Contains}
use Rattle.std.proofs.lemmas.Bool.{cond-true, eq-eqb, cases_lt}
use Rattle.std.proofs.lemmas.List.{length-set, length-map, get_or-map, length-replicate, get_or-replicate, get_or_default}
use Rattle.std.proofs.lemmas.List.Elements.{Contains-append_cases}
use Rattle.aiger_text.specs.declared.circuits.Latch.{Latch}
use Rattle.aiger_text.specs.declared.circuits.Gate.{Gate}
use Rattle.aiger_text.specs.Circuit.{Circuit, Valuation, variable_value, literal_value}
use Rattle.aiger_text.specs.CircuitType.{IsCircuit, IsOrder, IsDefined, gate_at}
use Rattle.aiger_text.specs.Values.{AreVariables, Puts, Settles, valuation}
use Rattle.aiger_text.specs.Step.{HasValues}
use Rattle.aiger_text.specs.Laws.{ValuationsAgree}
use Rattle.aiger_text.proofs.Putting.{no_latch, IsPut, put_none, put_more, put_done}
use Rattle.aiger_text.proofs.Gates.{no_gate, AreSettled, settle_none, settle_more, settle_done}
use Rattle.aiger_text.proofs.Stepping.{input_variables, latch_variables, gate_variables, zero_kept, settled, left_defined, right_defined}

-- values of variables after some of them were set
pub record HasPut (literals : List ℕ) (bits old : List Bool) (n : ℕ) : Type 0 where
  pub new : List Bool
  pub len : length new ≡ length old
  pub put : IsPut literals bits old new n

put_up_to : (literals : List ℕ) (bits old : List Bool) (n : ℕ) → AreVariables (length old) literals → n ≤ length literals → HasPut literals bits old n
put_up_to literals bits old zero variables h = record { new = old; len = refl; put = put_none literals bits old }
put_up_to literals bits old (suc n) variables h =
    let p : HasPut literals bits old n = put_up_to literals bits old n variables (omega arith) in
    let one : n + 1 ≡ suc n = omega arith in
    record {
      new = set p.new (get_or literals n 0 / 2) (get_or bits n false);
      len = length-set p.new (get_or literals n 0 / 2) (get_or bits n false) ∙ p.len;
      put = subst (IsPut literals bits old (set p.new (get_or literals n 0 / 2) (get_or bits n false))) one
          (put_more literals bits old p.new n variables p.len (omega arith) p.put);
    }

pub record HasSettled (gates : List Gate) (order : List ℕ) (old : List Bool) (n : ℕ) : Type 0 where
  pub new : List Bool
  pub settled : AreSettled gates order old new n

settle_up_to : (gates : List Gate) (order : List ℕ) (old : List Bool) (n : ℕ) → AreVariables (length old) (map (λ gate. gate.literal) gates) → IsOrder gates order
    → get_or old 0 false ≡ false → n ≤ length order → HasSettled gates order old n
settle_up_to gates order old zero variables sorted unset h = record { new = old; settled = settle_none gates order old unset }
settle_up_to gates order old (suc n) variables sorted unset h =
    let p : HasSettled gates order old n = settle_up_to gates order old n variables sorted unset (omega arith) in
    let one : n + 1 ≡ suc n = omega arith in
    let gate : Gate = gate_at gates (get_or order n 0) in
    let b : Bool = literal_value (valuation p.new) gate.left && literal_value (valuation p.new) gate.right in
    record {
      new = set p.new (gate.literal / 2) b;
      settled = subst (AreSettled gates order old (set p.new (gate.literal / 2) b)) one
          (settle_more gates order old p.new n b variables sorted (omega arith) p.settled refl);
    }

-- values of inputs and latches have a valuation
pub record HasValuation (c : Circuit) (inputs latches : List Bool) : Type 0 where
  pub values : Valuation
  pub holds : HasValues c inputs latches values

module _ (c : Circuit) (circuit : IsCircuit c) (order : List ℕ) (sorted : IsOrder c.gates order) where
  abbrev latch_literals : List ℕ
  latch_literals = map (λ (latch : Latch). latch.literal) c.latches

  abbrev gate_literals : List ℕ
  gate_literals = map (λ (gate : Gate). gate.literal) c.gates

  pub valuation_of : (inputs latches : List Bool) → length inputs ≡ length c.inputs → length latches ≡ length c.latches → HasValuation c inputs latches
  valuation_of inputs latches same_inputs same_latches =
      let v0 : List Bool = replicate (c.variables + 1) false in
      let n0 : length v0 ≡ c.variables + 1 = length-replicate (c.variables + 1) false in
      let unset : get_or v0 0 false ≡ false = get_or-replicate (c.variables + 1) 0 false false (omega arith) in
      let room1 : AreVariables (length v0) c.inputs = rw n0 (input_variables c circuit) in
      let p1 : HasPut c.inputs inputs v0 (length c.inputs) = put_up_to c.inputs inputs v0 (length c.inputs) room1 (omega arith) in
      let first : Puts c.inputs inputs v0 p1.new = put_done c.inputs inputs v0 p1.new (length c.inputs) refl p1.put in
      let n1 : length p1.new ≡ c.variables + 1 = p1.len ∙ n0 in
      let room2 : AreVariables (length p1.new) latch_literals = rw n1 (latch_variables c circuit) in
      let p2 : HasPut latch_literals latches p1.new (length latch_literals) = put_up_to latch_literals latches p1.new (length latch_literals) room2 (omega arith) in
      let second : Puts latch_literals latches p1.new p2.new = put_done latch_literals latches p1.new p2.new (length latch_literals) refl p2.put in
      let n2 : length p2.new ≡ c.variables + 1 = p2.len ∙ n1 in
      let room3 : AreVariables (length p2.new) gate_literals = rw n2 (gate_variables c circuit) in
      let still : get_or p2.new 0 false ≡ false =
      zero_kept (c.variables + 1) latch_literals latches p1.new p2.new (latch_variables c circuit) second
      ∙ zero_kept (c.variables + 1) c.inputs inputs v0 p1.new (input_variables c circuit) first ∙ unset in
      let p3 : HasSettled c.gates order p2.new (length order) = settle_up_to c.gates order p2.new (length order) room3 sorted still (omega arith) in
      let third : Settles c.gates p2.new p3.new = settle_done c.gates order p2.new p3.new (length order) sorted (omega arith) p3.settled in
      record {
        values = valuation p3.new;
        holds = settled c circuit inputs latches v0 p1.new p2.new p3.new same_inputs same_latches first second third;
      }

  module _ (inputs latches : List Bool) (v w : Valuation) (in_v : HasValues c inputs latches v) (in_w : HasValues c inputs latches w) where
    -- the valuations agree on a literal where they agree on its variable
    by_variable : (l : ℕ) → variable_value v (l / 2) ≡ variable_value w (l / 2) → literal_value v l ≡ literal_value w l
    by_variable l e = ap (λ x. cond (eqb (l % 2) 0) x (not x)) e

    of_even : (l : ℕ) → l % 2 ≡ 0 → literal_value v l ≡ literal_value w l → variable_value v (l / 2) ≡ variable_value w (l / 2)
    of_even l even e =
        sym (cond-true (eqb (l % 2) 0) (variable_value v (l / 2)) (not (variable_value v (l / 2))) (eq-eqb (l % 2) 0 even)) ∙ e
        ∙ cond-true (eqb (l % 2) 0) (variable_value w (l / 2)) (not (variable_value w (l / 2))) (eq-eqb (l % 2) 0 even)

    agree_input : (i : ℕ) → i < length c.inputs → literal_value v (get_or c.inputs i 0) ≡ literal_value w (get_or c.inputs i 0)
    agree_input i h =
        sym (get_or-map (λ literal. literal_value v literal) c.inputs i 0 false h)
        ∙ ap (λ (bits : List Bool). get_or bits i false) (in_v.reads ∙ sym in_w.reads)
        ∙ get_or-map (λ literal. literal_value w literal) c.inputs i 0 false h

    agree_latch : (i : ℕ) → i < length c.latches → literal_value v (get_or c.latches i no_latch).literal ≡ literal_value w (get_or c.latches i no_latch).literal
    agree_latch i h =
        sym (get_or-map (λ (latch : Latch). literal_value v latch.literal) c.latches i no_latch false h)
        ∙ ap (λ (bits : List Bool). get_or bits i false) (in_v.holds ∙ sym in_w.holds)
        ∙ get_or-map (λ (latch : Latch). literal_value w latch.literal) c.latches i no_latch false h

    -- they agree on the gates at the first n places of the order
    abbrev AgreeUpTo : ℕ → Type 0
    AgreeUpTo n = (k : ℕ) → k < n → literal_value v (gate_at c.gates (get_or order k 0)).literal ≡ literal_value w (gate_at c.gates (get_or order k 0)).literal

    -- and on a defined literal whose variable no gate from place n on has
    agree_on : (n : ℕ) → AgreeUpTo n → (l : ℕ) → IsDefined c l
        → ((k : ℕ) → n ≤ k → k < length order → l / 2 ≢ (gate_at c.gates (get_or order k 0)).literal / 2) → literal_value v l ≡ literal_value w l
    agree_on n before l defined spared = by_variable l (elim defined.defined [
      | inl constant ↦ ap (variable_value v) constant ∙ sym (ap (variable_value w) constant)
      | inr there ↦ elim (Contains-append_cases c.inputs (latch_literals ++ gate_literals) (2 * (l / 2)) there) [
        | inl found ↦
            let same : get_or c.inputs found.0 0 ≡ 2 * (l / 2) = get_or_default c.inputs found.0 0 (2 * (l / 2)) found.1 ∙ found.2 in
            at_even (2 * (l / 2)) refl (subst (λ (x : ℕ). literal_value v x ≡ literal_value w x) same (agree_input found.0 found.1))
        | inr behind ↦ elim (Contains-append_cases latch_literals gate_literals (2 * (l / 2)) behind) [
          | inl found ↦
              let within : found.0 < length c.latches = rw length-map at found.1 in
              let same : (get_or c.latches found.0 no_latch).literal ≡ 2 * (l / 2) =
              sym (get_or-map (λ (latch : Latch). latch.literal) c.latches found.0 no_latch (2 * (l / 2)) within) ∙ found.2 in
              at_even (2 * (l / 2)) refl (subst (λ (x : ℕ). literal_value v x ≡ literal_value w x) same (agree_latch found.0 within))
          | inr found ↦
              let within : found.0 < length c.gates = rw length-map at found.1 in
              let same : (get_or c.gates found.0 no_gate).literal ≡ 2 * (l / 2) =
              sym (get_or-map (λ (gate : Gate). gate.literal) c.gates found.0 no_gate (2 * (l / 2)) within) ∙ found.2 in
              let place : Contains order found.0 = sorted.all found.0 within in
              let k : ℕ = place.0 in
              let named : get_or order k 0 ≡ found.0 = get_or_default order k 0 found.0 place.1 ∙ place.2 in
              let here : (gate_at c.gates (get_or order k 0)).literal ≡ 2 * (l / 2) = ap (λ i. (gate_at c.gates i).literal) named ∙ same in
              elim (cases_lt k n) [
                | inr late ↦ absurd (spared k late place.1 (omega (arith, here)))
                | inl early ↦ at_even (2 * (l / 2)) refl (subst (λ (x : ℕ). literal_value v x ≡ literal_value w x) here (before k early))
              ]
        ]
      ]
    ])
      where
        at_even : (l' : ℕ) → l' ≡ 2 * (l / 2) → literal_value v l' ≡ literal_value w l' → variable_value v (l / 2) ≡ variable_value w (l / 2)
        at_even l' e agreed =
            let half : l' / 2 ≡ l / 2 = omega arith in
            subst (λ x. variable_value v x ≡ variable_value w x) half (of_even l' (omega arith) agreed)

    -- the next gate of the order agrees too
    agree_next : (n : ℕ) → n < length order → AgreeUpTo n
        → literal_value v (gate_at c.gates (get_or order n 0)).literal ≡ literal_value w (gate_at c.gates (get_or order n 0)).literal
    agree_next n h before =
        let i : ℕ = get_or order n 0 in
        let place : i < length c.gates = sorted.places n 0 h in
        let gate : Gate = gate_at c.gates i in
        let left : literal_value v gate.left ≡ literal_value w gate.left =
        agree_on n before gate.left (left_defined c circuit i place) (λ k le within. (sorted.behind n k le within).left) in
        let right : literal_value v gate.right ≡ literal_value w gate.right =
        agree_on n before gate.right (right_defined c circuit i place) (λ k le within. (sorted.behind n k le within).right) in
        in_v.gates i no_gate place
        ∙ ap (λ x. x && literal_value v gate.right) left ∙ ap (λ x. literal_value w gate.left && x) right
        ∙ sym (in_w.gates i no_gate place)

    agree_up_to : (n : ℕ) → n ≤ length order → AgreeUpTo n
    agree_up_to zero h = λ k within. absurd (omega arith)
    agree_up_to (suc n) h =
        let before : AgreeUpTo n = agree_up_to n (omega arith) in
        let more : AgreeUpTo (n + 1) =
        below_more (λ k. literal_value v (gate_at c.gates (get_or order k 0)).literal ≡ literal_value w (gate_at c.gates (get_or order k 0)).literal) n before
        (agree_next n (omega arith) before) in
        λ k within. more k (omega arith)

    pub agree : (l : ℕ) → IsDefined c l → literal_value v l ≡ literal_value w l
    agree l defined = agree_on (length order) (agree_up_to (length order) (omega arith)) l defined (λ k late within. absurd (omega arith))

  pub valuations_agree : ValuationsAgree c
  valuations_agree inputs latches v w in_v in_w l defined = agree inputs latches v w in_v in_w l defined
