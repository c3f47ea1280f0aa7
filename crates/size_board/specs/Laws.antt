use Rattle.std.specs.Prelude.{◌≡◌, ℕ, ◌<◌, ◌≤◌, ◌↔◌, Some}
use Rattle.text_limits.specs.declared.TheConstants.{SMALL_LIMITS}
use Rattle.letters_and_lassos.specs.declared.kinds.Side.{Side}
use Rattle.machine_model.specs.Machine.{MachineModel, IsMachine, size_of}
use Rattle.machine_model.specs.Accepts.{SideAccepts}
use Rattle.machine_model.specs.Problem.{IsMachineOf, IsProblem, automaton_of, parts_of, sized}
use Rattle.machine_model.specs.declared.problems.Problem.{Problem}
use Rattle.size_board.specs.Names.{Named, IsSoughtMachine, IsSearchable, SideHas, sizes_of, sought_by, sought_of}
use Rattle.size_board.specs.Board.{BoardModel, IsLow, IsSoundBoard, high_of, machine_of}

-- a kept machine of `high` states, which its side accepts
pub record HasHigh (names : Named) (b : BoardModel) (side : Side) : Type 0 where
  pub machine : MachineModel
  pub kept : machine_of b side ≡ Some machine
  pub size : size_of machine ≡ high_of names b side
  pub accepted : SideHas (sought_by names side) (high_of names b side) machine

-- what a side's bounds are worth: no size below `low` has an accepted machine, and where `high` is an allowed size
-- a machine of so many states is kept, which the side accepts
pub record BoundsAreTrueOf (names : Named) (b : BoardModel) (side : Side) (low : ℕ) : Type 0 where
  pub below : (n : ℕ) → 0 < n → n < low → (m : MachineModel) → SideHas (sought_by names side) n m → ⊥
  pub high : high_of names b side ≤ sizes_of names side → HasHigh names b side

-- the bounds of every sound board are true
abbrev pub BoundsAreTrue : Type 0
BoundsAreTrue = (names : Named) (b : BoardModel) (side : Side) (low : ℕ) → IsSoundBoard names b → IsLow b side low → BoundsAreTrueOf names b side low

-- what a problem's side has of the problem's size are the machines of the problem that its side accepts
abbrev pub SoughtOfProblem : Type 0
SoughtOfProblem =
    (p : Problem) (m : MachineModel) → IsSoughtMachine (sought_of p) p.size m ↔ (IsMachine m × IsMachineOf p m × SideAccepts (automaton_of p) p.side m)

-- what is sought with a number of states is the whole problem: a problem is within the limits where what it looks for and
-- its size are, and two that look for the same and have the same size say the same
pub record SoughtIsProblem : Type 0 where
  pub searchable : (p : Problem) → IsProblem p → IsSearchable (sought_of p)
  pub problem : (p : Problem) (n : ℕ) → IsSearchable (sought_of p) → 0 < n → n ≤ SMALL_LIMITS.machine → IsProblem (sized p n)
  pub parts : (p q : Problem) → sought_of p ≡ sought_of q → p.size ≡ q.size → parts_of p ≡ parts_of q
