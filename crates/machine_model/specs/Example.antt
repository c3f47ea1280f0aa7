use Rattle.std.specs.Prelude.{◌≡◌, true, [], ◌∷◌}
use Rattle.letters_and_lassos.specs.declared.letters.Letter.{Letter}
use Rattle.letters_and_lassos.specs.declared.cubes.Cube.{Cube}
use Rattle.letters_and_lassos.specs.Word.{Word}
use Rattle.machine_model.specs.Automaton.{AutomatonModel}
use Rattle.machine_model.specs.Accepts.{Accepts}

-- a small automaton: one state, which is rejecting, with an edge back to itself on the letters that fit the cube
abbrev pub round_on : Cube → AutomatonModel
round_on cube = record { edges = record { from = 0; cube = cube; to = 0 } ∷ []; rejecting = true ∷ [] }

-- a letter again and again
abbrev pub always : Letter → Word
always letter = record { stem = []; ring = letter ∷ [] }

-- where the cube wants signal 0 and forbids none, the automaton accepts that signal for ever, and not its absence for ever
pub record ExampleAccepts : Type 0 where
  pub set : (cube : Cube) → cube.must ≡ 1 → cube.not ≡ 0 → Accepts (round_on cube) (always (record { 0 = 1 }))
  pub not_set : (cube : Cube) → cube.must ≡ 1 → cube.not ≡ 0 → Accepts (round_on cube) (always (record { 0 = 0 })) → ⊥
