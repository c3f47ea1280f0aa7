-- What a document is checked against: the names of a text, and the problems of its two sides (this project's own).
use Rattle.std.specs.Prelude.{◌==◌, ℕ, zero, suc, Bool, not, Option, Some, List, [], ◌∷◌, ◌++◌, min, option_map, if◌then◌else◌}
use Rattle.std.specs.Option.{option_map_or}
use Rattle.letters_and_lassos.specs.declared.kinds.Kind.{Kind}
use Rattle.letters_and_lassos.specs.declared.kinds.Side.{Side}
use Rattle.letters_and_lassos.specs.declared.kinds.Side.TheVariants.{System, Environment}
use Rattle.letters_and_lassos.specs.Kinds.{other_kind}
use Rattle.machine_model.specs.Automaton.{AutomatonModel}
use Rattle.machine_model.specs.Components.{components_of}
use Rattle.machine_model.specs.Problem.{automaton_of}
use Rattle.machine_model.specs.declared.counting.Counting.{Counting}
use Rattle.machine_model.specs.declared.counting.Counting.TheVariants.{AllRejecting, ByComponent}
use Rattle.machine_model.specs.declared.counting.Counts.{Counts}
use Rattle.machine_model.specs.declared.counting.Counts.TheVariants.{Local, Whole}
use Rattle.machine_model.specs.declared.problems.Problem.{Problem}
use Rattle.annotation_encode.specs.Count.{allowed_sizes}
use Rattle.document_text.specs.declared.documents.Verdict.{Verdict}
use Rattle.document_text.specs.declared.order.Order.{Order}
use Rattle.document_text.specs.declared.order.Order.TheVariants.{UpTo, AnyUpTo}
use Rattle.circuit_names.specs.Names.{Names}
use Rattle.document_text.specs.declared.order.Place.{Place}
use Rattle.document_text.specs.Order.{machine_of, place}

-- The names of the inputs and outputs, and the problem of the system and of the environment, if it has one. Their kinds, sizes and
-- what their numbers count aren't looked at: those are the document's.
pub record Facts : Type 0 where
  pub inputs : List (List ℕ)
  pub outputs : List (List ℕ)
  pub system : Problem
  pub environment : Option Problem

-- the names alone
abbrev pub names_in : Facts → Names
names_in facts = record { inputs = facts.inputs; outputs = facts.outputs }

-- what numbers count in the base clauses of a document's version: in version 5 they count by component, in the others all rejecting
-- states
abbrev pub counts_for : ℕ → Counts
counts_for version = if version == 5 then Local else Whole

-- numbers that count so, where these are those that count by component
abbrev pub counting_from : Counts → Bool → Counting → Counting
counting_from Whole numbered by_component = AllRejecting numbered
counting_from Local numbered by_component = by_component

-- what they count in an automaton; the states of machines are numbered but in version 1
abbrev pub counting_for : ℕ → AutomatonModel → Counting
counting_for version a = counting_from (counts_for version) (not (version == 1)) (ByComponent (components_of a))

-- the problem of one size of one side, for a document of this kind and version
abbrev pub problem_at : Facts → Kind → ℕ → Side → ℕ → Option Problem
problem_at facts kind version System size = Some (record facts.system { kind = kind; size = size; counting = counting_for version (automaton_of facts.system) })
problem_at facts kind version Environment size =
    option_map (λ (p : Problem). record p { kind = other_kind kind; size = size; counting = counting_for version (automaton_of p) }) facts.environment

-- the number of a side's allowed sizes
abbrev pub allowed_at : Facts → Kind → ℕ → ℕ → Side → ℕ
allowed_at facts kind version max side = option_map_or (λ (p : Problem). allowed_sizes p max) (problem_at facts kind version side 1) 0

-- of a number for each side, that of this side
abbrev pub for_side : Side → ℕ → ℕ → ℕ
for_side System system environment = system
for_side Environment system environment = environment

-- the sizes of a side from 1 up to a number
abbrev pub sizes_to : Side → ℕ → List Place
sizes_to side zero = []
sizes_to side (suc n) = sizes_to side n ++ place side (suc n) ∷ []

-- Of which sizes logs are wanted, where a document wants them in this order and so many sizes of each side are allowed: by rising size,
-- the system's first.
abbrev pub wanted_sizes : Order → ℕ → ℕ → List Place
wanted_sizes (UpTo side count) system environment = sizes_to side (min count (for_side side system environment))
wanted_sizes (AnyUpTo max) system environment = sizes_to System system ++ sizes_to Environment environment

-- the side of a document's circuit
abbrev pub circuit_side : Verdict → Side
circuit_side verdict = option_map_or (λ (machine : Place). machine.side) (machine_of verdict) System
