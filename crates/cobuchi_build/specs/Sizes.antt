use Rattle.std.specs.Prelude.{◌<◌, ◌≤◌, ◌⊎◌, length}
use Rattle.text_limits.specs.declared.AutomatonLimits.{AutomatonLimits}
use Rattle.cobuchi_build.specs.Explored.{Explored}

-- what was found is within the limits on states and edges
pub record HasRoom (limits : AutomatonLimits) (found : Explored) : Type 0 where
  pub states : length found.states ≤ limits.states
  pub edges : length found.edges ≤ limits.edges

-- what was found passes the limit on states or that on edges
abbrev pub HasTooMany : AutomatonLimits → Explored → Type 0
HasTooMany limits found = (limits.states < length found.states) ⊎ (limits.edges < length found.edges)
