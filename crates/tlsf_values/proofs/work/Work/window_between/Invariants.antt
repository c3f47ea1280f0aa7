use Rattle.std.proofs.Common.{◌≡◌, ◌≤◌, ◌-◌, ◌+◌}
use Rattle.ltl_formula.specs.Nodes.{Grows}
use Rattle.tlsf_values.specs.Counts.{window_between, window_more}
use Rattle.tlsf_values.proofs.work.Work.window_between.Given as goal

abbrev pub invariant-loop-count : goal.invariant-loop-count
invariant-loop-count l =
    (l.count ≤ l.last) × (window_between l.place l.pairing l.first l.last l.fn.part l.fn.self ≡ window_more l.place l.pairing l.part (l.count + 1) (l.last - l.count) l.joined l.self) × Grows l.fn.self.formulas l.self.formulas

abbrev pub decreases-loop-count : goal.decreases-loop-count
decreases-loop-count l = l.last - l.count
