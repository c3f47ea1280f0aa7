use Rattle.std.proofs.Common.{◌≤◌, reverse}
use Rattle.obligation_sets.specs.declared.cover_search.TheConstants.{MAX_LEAVES}
use Rattle.obligation_sets.specs.Search.{SearchAlong, weight}
use Rattle.obligation_sets.proofs.cover_search.covers.Given as goal

abbrev pub invariant-loop-frame : goal.invariant-loop-frame
invariant-loop-frame l = record {
  along : SearchAlong l.covering l.formulas l.set (reverse l.search.frames.items) l.search;
  few : l.search.leaves ≤ MAX_LEAVES;
}

abbrev pub decreases-loop-frame : goal.decreases-loop-frame
decreases-loop-frame l = weight (reverse l.search.frames.items)
