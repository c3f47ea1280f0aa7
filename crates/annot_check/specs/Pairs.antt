-- Annotations of the product of a circuit and an automaton: a number for each pair of latch values and a state (bounded
-- synthesis of Finkbeiner and Schewe).
use Rattle.std.specs.Prelude.{◌≡◌, ℕ, ◌≤◌, Bool, List, Contains, if◌then◌else◌}
use Rattle.machine_model.specs.Automaton.{AutomatonModel, rejects}
use Rattle.annot_check.specs.declared.pairs.Pair.{Pair}

-- the pairs in their order, and the line of the head of the text that they were read from
pub record Listed : Type 0 where
  pub pairs : List Pair
  pub head_line : ℕ

-- the pair of these latch values and this state stands, with a number of at least `least`
pub record PairStands (pairs : List Pair) (code : List Bool) (state least : ℕ) : Type 0 where
  pub pair : Pair
  pub among : Contains pairs pair
  pub code_is : pair.code ≡ code
  pub state_is : pair.state ≡ state
  pub enough : least ≤ pair.number

-- 1 where the state is rejecting, else 0
abbrev pub weight : AutomatonModel → ℕ → ℕ
weight a state = if rejects a state then 1 else 0
