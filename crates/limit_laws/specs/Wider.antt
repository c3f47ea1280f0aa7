-- Limits, some wider than others (this project's own).
use Rattle.std.specs.Prelude.{◌≤◌}
use Rattle.text_limits.specs.declared.Limits.{Limits}

-- the large limits allow all signals and nodes that the small ones do; limits of automata play no part before a text's forms are made
pub record AreWider (small large : Limits) : Type 0 where
  pub signals : small.signals ≤ large.signals
  pub all_signals : small.all_signals ≤ large.all_signals
  pub nodes : small.nodes ≤ large.nodes
