use Rattle.std.proofs.Common.{ℕ, ◌<◌, ◌≤◌, length, get_or, List, sym, subst}
use Rattle.text_limits.specs.declared.TheConstants.{LARGE_LIMITS}
use Rattle.machine_model.specs.Components.{AreComponentsOf}
use Rattle.machine_model.specs.Named.{AreSums}
use Rattle.machine_model.specs.declared.components.Tables.{Tables}
use Rattle.machine_model.proofs.Naming.{components_all, counts_small}
use Rattle.machine_model.proofs.components.Components.of.Goals as goal

pub sums-requires-clause-small : goal.sums-requires-clause-small
sums-requires-clause-small c =
    subst (λ (xs : List ℕ). (k d : ℕ) → k < length xs → get_or xs k d ≤ LARGE_LIMITS.automaton.states) (sym c.deref-4.ensures.value)
    (counts_small c.args.automaton.now c.in_ok-counts.counts.items c.in_ok-counts.ensures c.requires)

pub returns : goal.returns
returns c =
    subst (λ (tables : Tables). AreComponentsOf c.args.automaton.now (record { names = tables.names.items; counts = tables.counts.items; before = tables.before.items })) (sym c.in_ok-new.ensures.ok)
    (components_all c.args.automaton.now c.in_ok-names.names.items c.in_ok-counts.counts.items c.in_ok-before.before.items
    c.in_ok-names.ensures c.in_ok-counts.ensures
    (subst (λ xs. AreSums xs c.in_ok-before.before.items) c.deref-4.ensures.value c.in_ok-before.ensures))
