use Rattle.std.proofs.Common.{◌-◌, suc}
use Rattle.cobuchi_build.specs.CoverTable.{IsTableOf}
use Rattle.cobuchi_build.proofs.Along.{IsAlong}
use Rattle.cobuchi_build.proofs.building.explore.Given as goal

abbrev pub invariant-loop-state : goal.invariant-loop-state
invariant-loop-state l = IsAlong l.covering l.limits l.formulas l.untils l.fn.f l.number l.found × IsTableOf l.covering l.formulas l.table

abbrev pub decreases-loop-state : goal.decreases-loop-state
decreases-loop-state l = suc l.limits.states - l.number
