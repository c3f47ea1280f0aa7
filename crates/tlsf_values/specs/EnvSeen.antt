-- What stands around an expression: bound names, and the numbers of signals.
use Rattle.std.specs.Prelude.{ℕ, List, [], ◌∷◌, map, reverse}
use Rattle.text_limits.specs.declared.Limits.{Limits}
use Rattle.ltl_formula.specs.declared.nodes.Node.{Node}
use Rattle.tlsf_syntax.specs.declared.spec.SpecTree.{SpecTree}
use Rattle.tlsf_values.specs.declared.value.Value.{Value}
use Rattle.tlsf_values.specs.declared.text_value.Env.{Env}
use Rattle.tlsf_values.specs.declared.work.Work.{Work}
use Rattle.tlsf_values.specs.Outcomes.{Outcome, gives, fails}
use Rattle.tlsf_values.specs.Names.{Names, Binding, with_signal, with_bus, with_definitions, without_names}
use Rattle.tlsf_syntax.specs.Seen.{definition_seen}

abbrev pub signals_named : Names → List (List ℕ × ℕ) → Names
signals_named names [] = names
signals_named names (s ∷ ss) = signals_named (with_signal names s.0 s.1) ss

abbrev pub buses_named : Names → List (List ℕ × ℕ × ℕ) → Names
buses_named names [] = names
buses_named names (b ∷ bs) = buses_named (with_bus names b.0 b.1 b.2) bs

-- the names of a text, after its definitions those of signals and buses
abbrev pub env_names : SpecTree → Env → Names
env_names tree env = buses_named (signals_named (with_definitions without_names (map definition_seen tree.definitions.items)) env.signals.items) env.buses.items

abbrev pub binding_of : List ℕ × Value → Binding
binding_of b = record { name = b.0; value = b.1 }

-- the latest binding stands first
abbrev pub env_bound : Env → List Binding
env_bound env = reverse (map binding_of env.bound.items)

abbrev pub work_of : Limits → ℕ → List Node → Work
work_of limits done nodes = record { limits = limits; done = done; formulas = nodes }

-- what comes of an evaluation, told by the evaluations done and the list after it
abbrev pub metered : {A : Type 0} → Limits → Outcome A → Outcome A
metered limits (gives a w) = gives a (work_of limits w.done w.formulas)
metered limits (fails code place) = fails code place
