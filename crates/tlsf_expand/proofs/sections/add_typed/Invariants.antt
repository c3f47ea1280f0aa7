use Rattle.std.proofs.Common.{◌≡◌, ◌++◌, map, drop}
use Rattle.tlsf_values.specs.Outcomes.{gives, go_on}
use Rattle.tlsf_expand.specs.Sections.{added_value}
use Rattle.tlsf_expand.specs.SignalsSeen.{typed_seen}
use Rattle.tlsf_expand.proofs.sections.add_typed.Given as goal

abbrev pub invariant-loop-signal : goal.invariant-loop-signal
invariant-loop-signal l =
    go_on (added_value (map typed_seen l.fn.signals) l.fn.work) (λ more w. gives (l.fn.ids.items ++ more) w)
    ≡ go_on (added_value (map typed_seen (drop l.signal-index l.signals)) l.work) (λ more w. gives (l.ids.items ++ more) w)
