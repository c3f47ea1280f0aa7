use Rattle.std.proofs.Common.{◌≡◌, ℕ, zero, suc, ◌<◌, [], ◌∷◌, get_or, refl, sym, ap, subst, ◌∙◌, arith}
use Rattle.std.specs.Prelude.{IsTrue}
use Rattle.letters_and_lassos.specs.declared.letters.Letter.{Letter}
use Rattle.letters_and_lassos.specs.declared.cubes.Cube.{Cube}
use Rattle.letters_and_lassos.specs.Signals.{has}
use Rattle.letters_and_lassos.specs.Cube.{Fits}
use Rattle.letters_and_lassos.proofs.Sets.{has-zero}
use Rattle.letters_and_lassos.specs.Word.{letter_at}
use Rattle.machine_model.specs.Automaton.{HasEdge}
use Rattle.machine_model.specs.Example.{ExampleAccepts, round_on, always}
use Rattle.machine_model.specs.declared.automata.Edge.{Edge}

-- the letter of signal 0 fits
fits_set : (cube : Cube) → cube.must ≡ 1 → cube.not ≡ 0 → Fits cube (record { 0 = 1 })
fits_set cube must none = record {
  must = λ k h. subst (λ s. IsTrue (has s k)) must h;
  none_of = λ k h _. has-zero k (subst (λ s. IsTrue (has s k)) none h);
}

edge_set : (cube : Cube) → cube.must ≡ 1 → cube.not ≡ 0 → HasEdge (round_on cube) (record { 0 = 1 }) 0 0
edge_set cube must none = record { cube = cube; stands = (0, omega arith, refl); fits = fits_set cube must none }

-- an edge wants signal 0
edge_wants : (cube : Cube) → cube.must ≡ 1 → (letter : Letter) (q r : ℕ) → HasEdge (round_on cube) letter q r → IsTrue (has letter.0 0)
edge_wants cube must letter q r edge =
    let e : Edge = record { from = 0; cube = cube; to = 0 } in
    let within : edge.stands.0 < 1 = edge.stands.1 in
    let first : edge.stands.0 ≡ 0 = omega arith in
    let same : e ≡ record { from = q; cube = edge.cube; to = r } =
    ap (λ k. get_or (e ∷ []) k (record { from = q; cube = edge.cube; to = r })) (sym first) ∙ edge.stands.2 in
    let wanted : edge.cube.must ≡ 1 = sym (ap (λ (f : Edge). f.cube.must) same) ∙ must in
    edge.fits.must 0 (subst (λ s. IsTrue (has s 0)) (sym wanted) refl)

-- where no letter has a signal, none does at any position
nothing : (i : ℕ) → (letter_at (always (record { 0 = 0 })) i).0 ≡ 0
nothing zero = refl
nothing (suc i) = refl

pub example_accepts : ExampleAccepts
example_accepts = record {
  set = λ cube must none. record {
    position = 0;
    state = 0;
    steps = 0;
    further = 0;
    path = (refl, refl);
    rejecting = refl;
    cycle = (0, edge_set cube must none, (refl, refl));
  };
  not_set = λ cube must none accepted.
      has-zero 0 (subst (λ s. IsTrue (has s 0)) (nothing accepted.position)
      (edge_wants cube must (letter_at (always (record { 0 = 0 })) accepted.position) accepted.state accepted.cycle.0 accepted.cycle.1));
}
