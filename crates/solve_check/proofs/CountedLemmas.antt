-- Which numbers of states are counted, and whether a circuit reaches one.
use Rattle.std.proofs.Common.{◌≡◌, ℕ, ◌*◌, ◌^◌, ◌<◌, ◌≤◌, Bool, true, false, ◌&&◌, Option, Some, None, sym, ap, ◌∙◌, length, arith, inl, inr}
use Rattle.std.specs.Prelude.{◌↔◌, IsTrue, nat_eq, nat_le, unwrap_or}
use Rattle.std.proofs.lemmas.Bool.{eqb-true, eq-eqb}
use Rattle.std.proofs.lemmas.Bool.Decides.{leb_tells}
use Rattle.std.proofs.Math.Pow.{pow_mono}
use Rattle.std_lemmas.proofs.Booleans.{and_false}
use Rattle.aiger_text.specs.Circuit.{Circuit, HasStates}
use Rattle.named_annotation.specs.NamedText.{most_steps}
use Rattle.solved_text.specs.Header.{is_number_of_states}
use Rattle.solve_check.specs.FirstBad.{NumberFails, another, may_be_counted, right}

-- a number above a bound fails its test
above : (n most : ℕ) → most < n → nat_le n most ≡ false
above n most more = elim (leb_tells n most) [ inl fits ↦ absurd (let le = fits.1 in omega (arith, le, more)) | inr fails ↦ fails.0 ]

pub none_counted : (states inputs : ℕ) → states ≡ 0 → false ≡ may_be_counted states inputs
none_counted states inputs none = sym (ap (λ (n : ℕ). may_be_counted n inputs) none)

pub too_many_counted : (states inputs : ℕ) → 65536 < states → false ≡ may_be_counted states inputs
too_many_counted states inputs many =
    sym (ap (λ (b : Bool). (nat_le 1 states && b) && nat_le (states * 2 ^ inputs) most_steps) (above states 65536 many)
    ∙ ap (λ (b : Bool). b && nat_le (states * 2 ^ inputs) most_steps) (and_false (nat_le 1 states)))

pub too_many_inputs : (states inputs : ℕ) → (states ≡ 0 → ⊥) → 26 < inputs → false ≡ may_be_counted states inputs
too_many_inputs states inputs some many =
    let wide : 2 ^ 27 ≤ 2 ^ inputs = pow_mono {i = 27} {j = inputs} (omega (arith, many)) in
    let one : 1 ≤ states = omega (arith, some) in
    let times : 1 * 2 ^ inputs ≤ states * 2 ^ inputs = mul_right 1 states (2 ^ inputs) one in
    let large : most_steps < states * 2 ^ inputs = omega (arith, wide, times) in
    sym (ap (λ (b : Bool). is_number_of_states states && b) (above (states * 2 ^ inputs) most_steps large) ∙ and_false (is_number_of_states states))
  where
    mul_right : (a b c : ℕ) → a ≤ b → a * c ≤ b * c
    mul_right a b c le = grind arith

-- whether what is counted is the number that is told
module _ (c : Circuit) (said : ℕ) (found : Option ℕ) (number : (n : ℕ) → (found ≡ Some n) ↔ (HasStates c n × (n ≤ said))) where
  pub reaches_some : (reached : ℕ) → found ≡ Some reached → IsTrue (nat_eq reached said) ↔ HasStates c said
  reaches_some reached is = (
    λ same. ((number said).0 (is ∙ ap Some (eqb-true reached said same))).0,
    λ states. eq-eqb reached said (ap (λ (o : Option ℕ). unwrap_or o reached) (sym is ∙ (number said).1 (states, omega arith))),
  )

  pub reaches_none : found ≡ None → IsTrue false ↔ HasStates c said
  reaches_none none =
      (λ never. absurd (cc), λ states. let some : found ≡ Some said = (number said).1 (states, omega arith) in absurd (cc))

-- what the verdict's line is, where so many states are counted
module _ (c : Circuit) (n line : ℕ) (few : may_be_counted n (length c.inputs) ≡ true) (is : Bool) (says : IsTrue is ↔ HasStates c n) where
  pub right_number : is ≡ true → NumberFails c n line None
  right_number same = right few (says.0 same)

  pub other_number : is ≡ false → NumberFails c n line (Some line)
  other_number other = another few (λ states. let same : is ≡ true = says.1 states in absurd (cc))
