use Rattle.std.specs.Prelude.{ℕ, IsTrue, ◌↔◌, ◌⊎◌}
use Rattle.letters_and_lassos.specs.Signals.{has}
use Rattle.letters_and_lassos.specs.declared.letters.Letter.{Letter}
use Rattle.letters_and_lassos.specs.declared.cubes.Cube.{Cube}

-- the letter has each signal of the cube's `must` and none of its `not` (bounded synthesis of Finkbeiner and Schewe)
pub record Fits (cube : Cube) (letter : Letter) : Type 0 where
  pub must : (k : ℕ) → IsTrue (has cube.must k) → IsTrue (has letter.0 k)
  pub none_of : (k : ℕ) → IsTrue (has cube.not k) → IsTrue (has letter.0 k) → ⊥

-- one cube wants a signal that the other forbids (this project's own)
abbrev pub Clash : Cube → Cube → Type 0
Clash a b = (k : ℕ) × ((IsTrue (has a.must k) × IsTrue (has b.not k)) ⊎ (IsTrue (has a.not k) × IsTrue (has b.must k)))

-- the meet wants and forbids what either cube does (this project's own)
pub record IsMeet (a b meet : Cube) : Type 0 where
  pub must : (k : ℕ) → IsTrue (has meet.must k) ↔ (IsTrue (has a.must k) ⊎ IsTrue (has b.must k))
  pub none_of : (k : ℕ) → IsTrue (has meet.not k) ↔ (IsTrue (has a.not k) ⊎ IsTrue (has b.not k))

-- exactly the letters that fit both cubes fit the third
abbrev pub FitsBoth : Cube → Cube → Cube → Type 0
FitsBoth a b both = (letter : Letter) → Fits both letter ↔ (Fits a letter × Fits b letter)

-- no letter fits both cubes
abbrev pub NoneFitsBoth : Cube → Cube → Type 0
NoneFitsBoth a b = (letter : Letter) → Fits a letter → Fits b letter → ⊥
