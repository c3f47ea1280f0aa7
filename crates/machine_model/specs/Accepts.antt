use Rattle.std.specs.Prelude.{◌≡◌, ℕ, zero, suc, IsTrue}
use Rattle.letters_and_lassos.specs.declared.kinds.Side.{Side}
use Rattle.letters_and_lassos.specs.Word.{Word, next, letter_at}
use Rattle.machine_model.specs.Machine.{MachineModel}
use Rattle.machine_model.specs.Run.{IsRun}
use Rattle.machine_model.specs.Automaton.{AutomatonModel, HasEdge, rejects}

-- a path of n edges from position i and state q to position j and state r, each along an edge whose cube fits the
-- letter of the position that it leaves (bounded synthesis of Finkbeiner and Schewe)
abbrev pub Path : AutomatonModel → Word → ℕ → ℕ → ℕ → ℕ → ℕ → Type 0
Path a w zero i q j r = (i ≡ j) × (q ≡ r)
Path a w (suc n) i q j r = (s : ℕ) × HasEdge a (letter_at w i) q s × Path a w n (next w i) s j r

-- the automaton accepts the lasso: a path from position 0 and state 0 leads to a rejecting state, and a path of
-- at least one edge leads from there back to the same position and state (the same source)
pub record Accepts (a : AutomatonModel) (w : Word) : Type 0 where
  pub position : ℕ
  pub state : ℕ
  pub steps : ℕ
  pub further : ℕ
  pub path : Path a w steps 0 0 position state
  pub rejecting : IsTrue (rejects a state)
  pub cycle : Path a w (suc further) position state position state

-- a side accepts a machine: no run lasso of the machine is an accepted word of the side's automaton (the same source)
abbrev pub SideAccepts : AutomatonModel → Side → MachineModel → Type 0
SideAccepts a side m = (w : Word) → IsRun m side w → Accepts a w → ⊥
