-- Places and obligations.
use Rattle.std.proofs.Common.{◌≡◌, ℕ, ◌+◌, ◌-◌, ◌*◌, ◌/◌, ◌%◌, ◌<◌, ◌≤◌, cond, List, length, refl, ap, subst, ◌∙◌, arith}
use Rattle.std.specs.Prelude.{◌≢◌, None, nat_eq}
use Rattle.std.proofs.Math.Nat.{div-add-mod, mod-lt}
use Rattle.std.proofs.lemmas.Bool.{cond_both, cond-false, ne_eqb, eqb-false}
use Rattle.refutation_log.specs.Log.{IsClosed}
use Rattle.truth_witness.specs.declared.witnesses.Obligation.{Obligation}
use Rattle.truth_witness.specs.declared.witnesses.Obligation.TheVariants.{Base, Keep, Cover, Enter, Stay, Fall}
use Rattle.truth_witness.specs.Witness.{Witness, Claim}
use Rattle.truth_witness.specs.Obligations.{IsObligationOf, clauses_of, variables_of}
use Rattle.truth_witness.specs.Proved.{IsProved}
use Rattle.truth_witness.specs.Logs.{ObligationLog}
use Rattle.witness_check.specs.Logs.{AllHold, entries_for, log_at}
use Rattle.witness_check.specs.Order.{obligation_at, obligation_count, of_part, place_of}

div_three : (n r : ℕ) → r < 3 → (3 * n + r) / 3 ≡ n
div_three n r h =
    let d : 3 * ((3 * n + r) / 3) + (3 * n + r) % 3 ≡ 3 * n + r = div-add-mod (3 * n + r) 3 in
    let m : (3 * n + r) % 3 < 3 = mod-lt (3 * n + r) (omega arith) in
    omega arith

mod_three : (n r : ℕ) → r < 3 → (3 * n + r) % 3 ≡ r
mod_three n r h =
    let d : 3 * ((3 * n + r) / 3) + (3 * n + r) % 3 ≡ 3 * n + r = div-add-mod (3 * n + r) 3 in
    let m : (3 * n + r) % 3 < 3 = mod-lt (3 * n + r) (omega arith) in
    omega arith

abbrev chosen : ℕ → ℕ → Obligation
chosen r p = cond (nat_eq r 0) (Enter p) (cond (nat_eq r 1) (Stay p) (Fall p))

part_is : (n r : ℕ) → r < 3 → of_part (3 * n + r) ≡ chosen r n
part_is n r h = λ i. chosen (mod_three n r h i) (div_three n r h i)

abbrev among : ℕ → ℕ → Obligation
among k m = cond (nat_eq k 0) Base (cond (nat_eq k 1) Keep (cond (nat_eq k 2) Cover (of_part m)))

late : (k m : ℕ) → 3 ≤ k → among k m ≡ of_part m
late k m h =
    cond-false (nat_eq k 0) Base (cond (nat_eq k 1) Keep (cond (nat_eq k 2) Cover (of_part m))) (ne_eqb k 0 (λ e. omega arith))
    ∙ cond-false (nat_eq k 1) Keep (cond (nat_eq k 2) Cover (of_part m)) (ne_eqb k 1 (λ e. omega arith))
    ∙ cond-false (nat_eq k 2) Cover (of_part m) (ne_eqb k 2 (λ e. omega arith))

later : (n r k : ℕ) → r < 3 → k ≡ 3 * n + r + 3 → obligation_at k ≡ chosen r n
later n r k h e =
    let less : k - 3 ≡ 3 * n + r = omega arith in
    late k (k - 3) (omega arith) ∙ ap of_part less ∙ part_is n r h

-- the obligation at an obligation's place is that one
pub at_place : (o : Obligation) → obligation_at (place_of o) ≡ o
at_place Base = refl
at_place Keep = refl
at_place Cover = refl
at_place (Enter n) = later n 0 (3 * n + 3) (omega arith) (omega arith)
at_place (Stay n) = later n 1 (3 * n + 4) (omega arith) (omega arith)
at_place (Fall n) = later n 2 (3 * n + 5) (omega arith) (omega arith)

place_within : (w : Witness) (o : Obligation) → IsObligationOf w o → place_of o < obligation_count w
place_within w Base is = omega arith
place_within w Keep is = omega arith
place_within w Cover is = omega arith
place_within w (Enter n) is = let h : n < length w.parts = is in omega arith
place_within w (Stay n) is = let h : n < length w.parts = is in omega arith
place_within w (Fall n) is = let h : n < length w.parts = is in omega arith

-- at each place stands an obligation of the witness
pub stands : (w : Witness) (k : ℕ) → k < obligation_count w → IsObligationOf w (obligation_at k)
stands w k h =
    cond_both (nat_eq k 0) Base (cond (nat_eq k 1) Keep (cond (nat_eq k 2) Cover (of_part (k - 3)))) (IsObligationOf w) (λ _. tt)
    (λ a. cond_both (nat_eq k 1) Keep (cond (nat_eq k 2) Cover (of_part (k - 3))) (IsObligationOf w) (λ _. tt)
    (λ b. cond_both (nat_eq k 2) Cover (of_part (k - 3)) (IsObligationOf w) (λ _. tt) (λ c. of_a_part (eqb-false k 0 a) (eqb-false k 1 b) (eqb-false k 2 c))))
  where
    of_a_part : (k ≡ 0 → ⊥) → (k ≡ 1 → ⊥) → (k ≡ 2 → ⊥) → IsObligationOf w (of_part (k - 3))
    of_a_part a b c =
        let d : 3 * ((k - 3) / 3) + (k - 3) % 3 ≡ k - 3 = div-add-mod (k - 3) 3 in
        let n0 : k ≢ 0 = a in
        let n1 : k ≢ 1 = b in
        let n2 : k ≢ 2 = c in
        let few : (k - 3) / 3 < length w.parts = omega arith in
        cond_both (nat_eq ((k - 3) % 3) 0) (Enter ((k - 3) / 3)) (cond (nat_eq ((k - 3) % 3) 1) (Stay ((k - 3) / 3)) (Fall ((k - 3) / 3))) (IsObligationOf w) (λ _. few)
        (λ _. cond_both (nat_eq ((k - 3) % 3) 1) (Stay ((k - 3) / 3)) (Fall ((k - 3) / 3)) (IsObligationOf w) (λ _. few) (λ _. few))

-- where all logs hold the witness is proved
pub all_prove : (x : Claim) (logs : List ObligationLog) → AllHold x logs → IsProved x (entries_for logs)
all_prove x logs all = record {
  closed = λ o is.
      subst (λ p. IsClosed (variables_of x p) (clauses_of x p) None (log_at logs (place_of o)).entries) (at_place o) (all (place_of o) (place_within x.witness o is)).closed;
}
