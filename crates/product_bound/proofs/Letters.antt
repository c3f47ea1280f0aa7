-- Automaton edges and their states; the test of a cube.
use Rattle.std.proofs.Common.{ℕ, ◌<◌, ◌⊎◌, inl, inr}
use Rattle.std.specs.Prelude.{bit_and}
use Rattle.std.proofs.lemmas.Bool.{cases_eq}
use Rattle.std.proofs.lemmas.List.Elements.{All-contains}
use Rattle.letters_and_lassos.specs.declared.cubes.Cube.{Cube}
use Rattle.letters_and_lassos.specs.declared.letters.Letter.{Letter}
use Rattle.letters_and_lassos.specs.Cube.{Fits}
use Rattle.letters_and_lassos.proofs.Sets.{apart, apart_empty, covers, covered}
use Rattle.machine_model.specs.Automaton.{AutomatonModel, HasEdge, IsAutomaton, JoinsStates, states_of}

pub to_within : (a : AutomatonModel) (letter : Letter) (q r : ℕ) → IsAutomaton a → HasEdge a letter q r → r < states_of a
to_within a letter q r made e =
    let joins : JoinsStates (states_of a) (record { from = q; cube = e.cube; to = r }) = All-contains (JoinsStates (states_of a)) a.edges _ made.edges e.stands in
    joins.to

-- whether a letter fits a cube can be decided
pub fits_or_not : (cube : Cube) (letter : Letter) → Fits cube letter ⊎ (Fits cube letter → ⊥)
fits_or_not cube letter =
    elim (cases_eq (bit_and letter.0 cube.must) cube.must) [
      | inr ne ↦ inr (λ fits. ne (covered letter.0 cube.must fits.must))
      | inl must ↦ elim (cases_eq (bit_and letter.0 cube.not) 0) [
        | inl none ↦ inl (record {
          must = covers letter.0 cube.must must;
          none_of = λ k forbidden there. apart letter.0 cube.not none k there forbidden;
        })
        | inr ne ↦ inr (λ fits. ne (apart_empty letter.0 cube.not (λ k there forbidden. fits.none_of k forbidden there)))
      ]
    ]
