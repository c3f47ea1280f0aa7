-- Literals that lead to no input have the same value whatever the inputs are.
use Rattle.std.proofs.Common.{◌≡◌, ◌≢◌, ℕ, zero, suc, ◌+◌, ◌*◌, ◌/◌, ◌%◌, ◌<◌, ◌≤◌, Bool, false, not, ◌&&◌, cond, eqb, List, ◌++◌, length, get_or, map, refl, sym, ap, subst, ◌∙◌, arith, inl, inr, below_more}
use Rattle.std.specs.Prelude.{Contains}
use Rattle.std.proofs.lemmas.Bool.{cond-true, eq-eqb, cases_lt}
use Rattle.std.proofs.lemmas.List.{length-map, get_or-map, get_or_default}
use Rattle.std.proofs.lemmas.List.Elements.{Contains-append_cases, Contains-get_or}
use Rattle.letters_and_lassos.specs.declared.kinds.Kind.{Kind}
use Rattle.letters_and_lassos.specs.declared.kinds.Kind.TheVariants.{Mealy, Moore}
use Rattle.aiger_text.specs.declared.circuits.Latch.{Latch}
use Rattle.aiger_text.specs.declared.circuits.Gate.{Gate}
use Rattle.aiger_text.specs.Circuit.{Circuit, Valuation, GatesAgree, IsCircuitOfKind, latch_values, literal_value, variable_value}
use Rattle.aiger_text.specs.CircuitType.{IsCircuit, IsOrder, IsDefined, gate_at}
use Rattle.aiger_text.proofs.Putting.{no_latch}
use Rattle.aiger_text.proofs.Gates.{no_gate}
use Rattle.aiger_text.proofs.Stepping.{left_defined, output_defined, right_defined}
use Rattle.annot_check.specs.Valid.{LeadsToInput, input, left, right}
use Rattle.annot_check.specs.Causes.{IsOfKind}
use Rattle.annot_check.proofs.Lists.{map-All}

module _ (c : Circuit) (circuit : IsCircuit c) (order : List ℕ) (sorted : IsOrder c.gates order) where
  abbrev latch_literals : List ℕ
  latch_literals = map (λ (latch : Latch). latch.literal) c.latches

  abbrev gate_literals : List ℕ
  gate_literals = map (λ (gate : Gate). gate.literal) c.gates

  -- the literal leads to no input
  abbrev Apart : ℕ → Type 0
  Apart l = LeadsToInput c (l / 2) → ⊥

  module _ (v w : Valuation) (gates_v : GatesAgree c v) (gates_w : GatesAgree c w) (same : latch_values c v ≡ latch_values c w) where
    abbrev Agree : ℕ → Type 0
    Agree l = literal_value v l ≡ literal_value w l

    by_variable : (l : ℕ) → variable_value v (l / 2) ≡ variable_value w (l / 2) → Agree l
    by_variable l e = ap (λ x. cond (eqb (l % 2) 0) x (not x)) e

    of_even : (l : ℕ) → l % 2 ≡ 0 → Agree l → variable_value v (l / 2) ≡ variable_value w (l / 2)
    of_even l even e =
        sym (cond-true (eqb (l % 2) 0) (variable_value v (l / 2)) (not (variable_value v (l / 2))) (eq-eqb (l % 2) 0 even)) ∙ e
        ∙ cond-true (eqb (l % 2) 0) (variable_value w (l / 2)) (not (variable_value w (l / 2))) (eq-eqb (l % 2) 0 even)

    agree_latch : (i : ℕ) → i < length c.latches → Agree (get_or c.latches i no_latch).literal
    agree_latch i h =
        sym (get_or-map (λ (latch : Latch). literal_value v latch.literal) c.latches i no_latch false h)
        ∙ ap (λ (bits : List Bool). get_or bits i false) same
        ∙ get_or-map (λ (latch : Latch). literal_value w latch.literal) c.latches i no_latch false h

    -- they agree on those of the first n gates of the order that lead to no input
    abbrev AgreeUpTo : ℕ → Type 0
    AgreeUpTo n = (k : ℕ) → k < n → Apart (gate_at c.gates (get_or order k 0)).literal → Agree (gate_at c.gates (get_or order k 0)).literal

    -- and on a defined literal that leads to none, whose variable no gate from place n on has
    agree_on : (n : ℕ) → AgreeUpTo n → (l : ℕ) → IsDefined c l → Apart l
        → ((k : ℕ) → n ≤ k → k < length order → l / 2 ≢ (gate_at c.gates (get_or order k 0)).literal / 2) → Agree l
    agree_on n before l defined apart spared = by_variable l (elim defined.defined [
      | inl constant ↦ ap (variable_value v) constant ∙ sym (ap (variable_value w) constant)
      | inr there ↦ elim (Contains-append_cases c.inputs (latch_literals ++ gate_literals) (2 * (l / 2)) there) [
        | inl found ↦ absurd (apart (subst (LeadsToInput c) (half (2 * (l / 2)) refl) (input (2 * (l / 2)) found)))
        | inr behind ↦ elim (Contains-append_cases latch_literals gate_literals (2 * (l / 2)) behind) [
          | inl found ↦
              let within : found.0 < length c.latches = rw length-map at found.1 in
              let here : (get_or c.latches found.0 no_latch).literal ≡ 2 * (l / 2) =
              sym (get_or-map (λ (latch : Latch). latch.literal) c.latches found.0 no_latch (2 * (l / 2)) within) ∙ found.2 in
              at_even (2 * (l / 2)) refl (subst Agree here (agree_latch found.0 within))
          | inr found ↦
              let within : found.0 < length c.gates = rw length-map at found.1 in
              let is : (get_or c.gates found.0 no_gate).literal ≡ 2 * (l / 2) =
              sym (get_or-map (λ (gate : Gate). gate.literal) c.gates found.0 no_gate (2 * (l / 2)) within) ∙ found.2 in
              let place : Contains order found.0 = sorted.all found.0 within in
              let k : ℕ = place.0 in
              let named : get_or order k 0 ≡ found.0 = get_or_default order k 0 found.0 place.1 ∙ place.2 in
              let here : (gate_at c.gates (get_or order k 0)).literal ≡ 2 * (l / 2) = ap (λ i. (gate_at c.gates i).literal) named ∙ is in
              elim (cases_lt k n) [
                | inr late ↦ absurd (spared k late place.1 (omega (arith, here)))
                | inl early ↦ at_even (2 * (l / 2)) refl (subst Agree here (before k early
                    (λ lead. apart (subst (LeadsToInput c) (half (gate_at c.gates (get_or order k 0)).literal here) lead))))
              ]
        ]
      ]
    ])
      where
        half : (l' : ℕ) → l' ≡ 2 * (l / 2) → l' / 2 ≡ l / 2
        half l' e = omega arith

        at_even : (l' : ℕ) → l' ≡ 2 * (l / 2) → Agree l' → variable_value v (l / 2) ≡ variable_value w (l / 2)
        at_even l' e agreed = subst (λ x. variable_value v x ≡ variable_value w x) (half l' e) (of_even l' (omega arith) agreed)

    -- the next gate of the order agrees too
    agree_next : (n : ℕ) → n < length order → AgreeUpTo n → Apart (gate_at c.gates (get_or order n 0)).literal → Agree (gate_at c.gates (get_or order n 0)).literal
    agree_next n h before apart =
        let i : ℕ = get_or order n 0 in
        let place : i < length c.gates = sorted.places n 0 h in
        let gate : Gate = gate_at c.gates i in
        let there : Contains c.gates gate = Contains-get_or c.gates i no_gate place in
        let of_left : Agree gate.left =
        agree_on n before gate.left (left_defined c circuit i place) (λ lead. apart (left gate there lead)) (λ k le within. (sorted.behind n k le within).left) in
        let of_right : Agree gate.right =
        agree_on n before gate.right (right_defined c circuit i place) (λ lead. apart (right gate there lead)) (λ k le within. (sorted.behind n k le within).right) in
        gates_v i no_gate place
        ∙ ap (λ x. x && literal_value v gate.right) of_left ∙ ap (λ x. literal_value w gate.left && x) of_right
        ∙ sym (gates_w i no_gate place)

    agree_up_to : (n : ℕ) → n ≤ length order → AgreeUpTo n
    agree_up_to zero h = λ k within. absurd (omega arith)
    agree_up_to (suc n) h =
        let before : AgreeUpTo n = agree_up_to n (omega arith) in
        let more : AgreeUpTo (n + 1) =
        below_more (λ k. Apart (gate_at c.gates (get_or order k 0)).literal → Agree (gate_at c.gates (get_or order k 0)).literal) n before
        (agree_next n (omega arith) before) in
        λ k within. more k (omega arith)

    pub apart_agree : (l : ℕ) → IsDefined c l → Apart l → Agree l
    apart_agree l defined apart = agree_on (length order) (agree_up_to (length order) (omega arith)) l defined apart (λ k late within. absurd (omega arith))

  pub of_kind : (kind : Kind) → IsOfKind c kind → IsCircuitOfKind kind c
  of_kind Mealy is = tt
  of_kind Moore is = record {
    same_outputs = λ v w in_v in_w i k run_v run_w within_v within_w same.
        map-All (literal_value (in_v i)) (literal_value (in_w k)) c.outputs
        (λ o d within. apart_agree (in_v i) (in_w k) (run_v.gates i within_v) (run_w.gates k within_w) same (get_or c.outputs o d)
        (output_defined c circuit o d within)
        (λ lead. (is refl).outputs o within (subst (λ (l : ℕ). LeadsToInput c (l / 2)) (get_or_default c.outputs o d 0 within) lead)));
  }
