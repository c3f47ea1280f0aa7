use Rattle.std.proofs.Common.{◌≡◌, ◌≢◌, ℕ, zero, suc, ◌+◌, ◌-◌, ◌<◌, Bool, false, eqb, List, length, get_or, refl, sym, ap, subst, ◌∙◌, arith, inl, inr}
use Rattle.std.specs.Prelude.{map}
use Rattle.std.specs.Int.{bit_at}
use Rattle.std.proofs.lemmas.Bool.{cases_eq, cases_lt, eq-eqb, eqb-true}
use Rattle.std.proofs.lemmas.Nat.Bits.{bit_at-lt, same_from_bits_below}
use Rattle.std.proofs.lemmas.List.{length-map, get_or-map, ext_get_or}
use Rattle.letters_and_lassos.specs.declared.kinds.Side.{Side}
use Rattle.letters_and_lassos.specs.declared.kinds.Side.TheVariants.{System, Environment}
use Rattle.letters_and_lassos.specs.declared.letters.Letter.{Letter}
use Rattle.letters_and_lassos.specs.Word.{Word, lasso_len, nth_letter, next, after}
use Rattle.letters_and_lassos.specs.Signals.{has}
use Rattle.letters_and_lassos.proofs.Positions.{after-suc, after_within, letter_below}
use Rattle.aiger_text.specs.declared.circuits.Latch.{Latch}
use Rattle.aiger_text.specs.Circuit.{Circuit, Valuation, literal_value, literal_values, latch_values, first_read, first_written, IsCircuitRun}
use Rattle.aiger_text.specs.CircuitType.{IsCircuit, IsOrder, IsDefined}
use Rattle.aiger_text.specs.Step.{HasValues}
use Rattle.aiger_text.specs.Laws.{ReadsTheSame, RunsAreDetermined}
use Rattle.aiger_text.proofs.Putting.{no_latch}
use Rattle.aiger_text.proofs.Stepping.{next_defined, output_defined}
use Rattle.aiger_text.proofs.Valuations.{agree}

-- two digits of one test are one
same_digit : (x y : ℕ) → x < 2 → y < 2 → eqb x 1 ≡ eqb y 1 → x ≡ y
same_digit x y small_x small_y e = elim (cases_eq x 1) [
  | inl one ↦ one ∙ sym (eqb-true y 1 (sym e ∙ eq-eqb x 1 one))
  | inr not_one ↦ elim (cases_eq y 1) [
    | inl one ↦ absurd (not_one (eqb-true x 1 (e ∙ eq-eqb y 1 one)))
    | inr neither ↦ let apart : x ≢ 1 = not_one in let apart' : y ≢ 1 = neither in omega arith
  ]
]

module _ (c : Circuit) (circuit : IsCircuit c) (order : List ℕ) (sorted : IsOrder c.gates order) (side : Side) (v w : Word) (in_v in_w : ℕ → Valuation)
    (run_v : IsCircuitRun side c v in_v) (run_w : IsCircuitRun side c w in_w) (same : ReadsTheSame side c v w) where
  within_v : (j : ℕ) → after v 0 j < lasso_len v
  within_v j = let ring : 0 < length v.ring = run_v.lasso.ring in after_within v 0 j run_v.lasso.ring (omega arith)

  within_w : (j : ℕ) → after w 0 j < lasso_len w
  within_w j = let ring : 0 < length w.ring = run_w.lasso.ring in after_within w 0 j run_w.lasso.ring (omega arith)

  same_inputs : (j : ℕ) → literal_values (in_v (after v 0 j)) c.inputs ≡ literal_values (in_w (after w 0 j)) c.inputs
  same_inputs j =
      let f : ℕ → Bool = λ literal. literal_value (in_v (after v 0 j)) literal in
      let g : ℕ → Bool = λ literal. literal_value (in_w (after w 0 j)) literal in
      ext_get_or false (map f c.inputs) (map g c.inputs) (length-map c.inputs f ∙ sym (length-map c.inputs g))
      (λ k h.
      let within : k < length c.inputs = rw length-map at h in
      get_or-map f c.inputs k 0 false within ∙ run_v.reads (after v 0 j) (within_v j) k within ∙ same.inputs j k within
      ∙ sym (run_w.reads (after w 0 j) (within_w j) k within) ∙ sym (get_or-map g c.inputs k 0 false within))

  abbrev SameLatches : ℕ → Type 0
  SameLatches j = latch_values c (in_v (after v 0 j)) ≡ latch_values c (in_w (after w 0 j))

  agree_at : (j : ℕ) → SameLatches j → (l : ℕ) → IsDefined c l → literal_value (in_v (after v 0 j)) l ≡ literal_value (in_w (after w 0 j)) l
  agree_at j held l defined =
      let values_v : HasValues c (literal_values (in_w (after w 0 j)) c.inputs) (latch_values c (in_w (after w 0 j))) (in_v (after v 0 j)) =
      record { reads = same_inputs j; holds = held; gates = run_v.gates (after v 0 j) (within_v j) } in
      let values_w : HasValues c (literal_values (in_w (after w 0 j)) c.inputs) (latch_values c (in_w (after w 0 j))) (in_w (after w 0 j)) =
      record { reads = refl; holds = refl; gates = run_w.gates (after w 0 j) (within_w j) } in
      agree c circuit order sorted (literal_values (in_w (after w 0 j)) c.inputs) (latch_values c (in_w (after w 0 j))) (in_v (after v 0 j)) (in_w (after w 0 j)) values_v values_w l defined

  each_latch : (a b : Valuation) → ((k : ℕ) → k < length c.latches → literal_value a (get_or c.latches k no_latch).literal ≡ literal_value b (get_or c.latches k no_latch).literal)
      → latch_values c a ≡ latch_values c b
  each_latch a b each =
      let f : Latch → Bool = λ latch. literal_value a latch.literal in
      let g : Latch → Bool = λ latch. literal_value b latch.literal in
      ext_get_or false (map f c.latches) (map g c.latches) (length-map c.latches f ∙ sym (length-map c.latches g))
      (λ k h.
      let within : k < length c.latches = rw length-map at h in
      get_or-map f c.latches k no_latch false within ∙ each k within ∙ sym (get_or-map g c.latches k no_latch false within))

  same_latches : (j : ℕ) → SameLatches j
  same_latches zero = each_latch (in_v 0) (in_w 0) (λ k h. run_v.resets k no_latch h ∙ sym (run_w.resets k no_latch h))
  same_latches (suc j) =
      let held : SameLatches j = same_latches j in
      ap (λ i. latch_values c (in_v i)) (after-suc v 0 j)
      ∙ each_latch (in_v (next v (after v 0 j))) (in_w (next w (after w 0 j)))
      (λ k h. run_v.steps (after v 0 j) (within_v j) k no_latch h
      ∙ agree_at j held (get_or c.latches k no_latch).next (next_defined c circuit k h)
      ∙ sym (run_w.steps (after w 0 j) (within_w j) k no_latch h))
      ∙ ap (λ i. latch_values c (in_w i)) (sym (after-suc w 0 j))

  written : (j k : ℕ) → k < length c.outputs → has (nth_letter v j).0 (first_written side c + k) ≡ has (nth_letter w j).0 (first_written side c + k)
  written j k h =
      sym (run_v.writes (after v 0 j) (within_v j) k h)
      ∙ agree_at j (same_latches j) (get_or c.outputs k 0) (output_defined c circuit k 0 h)
      ∙ run_w.writes (after w 0 j) (within_w j) k h

-- a test that agrees on the read and on the written signals agrees on all
all_signals : (c : Circuit) (side : Side) (f g : ℕ → Bool) → ((k : ℕ) → k < length c.inputs → f (first_read side c + k) ≡ g (first_read side c + k))
    → ((k : ℕ) → k < length c.outputs → f (first_written side c + k) ≡ g (first_written side c + k)) → (k : ℕ) → k < length c.inputs + length c.outputs → f k ≡ g k
all_signals c System f g reads writes k h = elim (cases_lt k (length c.inputs)) [
  | inl low ↦ let e : 0 + k ≡ k = omega arith in subst (λ (i : ℕ). f i ≡ g i) e (reads k low)
  | inr high ↦
      let e : length c.inputs + (k - length c.inputs) ≡ k = omega arith in
      subst (λ (i : ℕ). f i ≡ g i) e (writes (k - length c.inputs) (omega arith))
]
all_signals c Environment f g reads writes k h = elim (cases_lt k (length c.outputs)) [
  | inl low ↦ let e : 0 + k ≡ k = omega arith in subst (λ (i : ℕ). f i ≡ g i) e (writes k low)
  | inr high ↦
      let e : length c.outputs + (k - length c.outputs) ≡ k = omega arith in
      subst (λ (i : ℕ). f i ≡ g i) e (reads (k - length c.outputs) (omega arith))
]

pub runs_are_determined : (c : Circuit) → IsCircuit c → (order : List ℕ) → IsOrder c.gates order → RunsAreDetermined c
runs_are_determined c circuit order sorted side v w in_v in_w run_v run_w same = record {
  letters = λ j.
      let n : ℕ = length c.inputs + length c.outputs in
      let e : (nth_letter v j).0 ≡ (nth_letter w j).0 =
      same_from_bits_below n (nth_letter v j).0 (nth_letter w j).0 (letter_below n v (after v 0 j) run_v.lasso) (letter_below n w (after w 0 j) run_w.lasso)
      (λ k h. same_digit (bit_at (nth_letter v j).0 k) (bit_at (nth_letter w j).0 k) (bit_at-lt (nth_letter v j).0 k) (bit_at-lt (nth_letter w j).0 k)
      (all_signals c side (has (nth_letter v j).0) (has (nth_letter w j).0) (same.inputs j)
      (written c circuit order sorted side v w in_v in_w run_v run_w same j) k h)) in
      ap (λ (a : ℕ). let l : Letter = record { 0 = a } in l) e;
}
