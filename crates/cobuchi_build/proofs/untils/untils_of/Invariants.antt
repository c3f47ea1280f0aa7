use Rattle.std.proofs.Common.{◌≡◌, filter, take}
use Rattle.ltl_formula.specs.Nodes.{node_at}
use Rattle.obligation_sets.specs.Ids.{ids_of}
use Rattle.cobuchi_build.specs.Occurring.{is_until}
use Rattle.cobuchi_build.proofs.untils.untils_of.Given as goal

abbrev pub invariant-loop-place : goal.invariant-loop-place
invariant-loop-place l = l.untils.items ≡ filter (λ g. is_until (node_at l.formulas g.0)) (ids_of (take l.place l.occurs-items))
