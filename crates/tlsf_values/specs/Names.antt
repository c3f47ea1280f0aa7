-- What names mean in a text: its signals, buses, definitions and members of enumerations share one set of names, and bound
-- names hide them. This project's profile of TLSF 1.1.
use Rattle.std.specs.Prelude.{ℕ, Bool, true, false, nat_eq, if◌then◌else◌, List, [], ◌∷◌, ◌++◌, length, slice_index_or, slice_get, Option, None, Some, find}
use Rattle.std.specs.Cmp.Lexicographic.{pointwise}
use Rattle.tlsf_syntax.specs.Tree.{Named, Body, plain, Definition, parameter, function, enumeration, Member, Pattern}
use Rattle.tlsf_values.specs.declared.value.Value.{Value}
use Rattle.tlsf_values.specs.declared.value.Value.TheVariants.{Bus, EnumValue}

-- what a name stands for
pub data Meaning : Type 0 where
  known : Value → Meaning
  a_signal : ℕ → Meaning
  -- a parameter or a function, with its arguments
  a_definition : List Named → Body → Meaning
  an_enumeration : Meaning
  undeclared : Meaning

-- a bus, by its first signal and its width
pub record BusRange : Type 0 where
  pub first : ℕ
  pub width : ℕ

-- what a whole text declares: what each name means, the buses, and the members of all enumerations in the order written
pub record Names : Type 0 where
  pub means : List ℕ → Meaning
  pub buses : List BusRange
  pub members : List Member

pub record Binding : Type 0 where
  pub name : List ℕ
  pub value : Value

abbrev pub same_name : List ℕ → List ℕ → Bool
same_name = pointwise nat_eq

-- a bus by its place, and a bus without bits past the end
abbrev pub bus_at : Names → ℕ → BusRange
bus_at names k = slice_index_or names.buses k (record { first = 0; width = 0 })

abbrev pub values_of : Option Member → List Pattern
values_of None = []
values_of (Some m) = m.values

-- the values of a member, by its place among all members
abbrev pub patterns_at : Names → ℕ → List Pattern
patterns_at names k = values_of (slice_get names.members k)

abbrev pub known_or : Option Binding → Meaning → Meaning
known_or (Some b) m = known b.value
known_or None m = m

-- the latest binding stands first, and hides all else
abbrev pub look_up : Names → List Binding → List ℕ → Meaning
look_up names bound name = known_or (find (λ b. same_name b.name name) bound) (names.means name)

-- ---- what may stand where a type is wanted

abbrev pub is_enumeration : Meaning → Bool
is_enumeration an_enumeration = true
is_enumeration _ = false

abbrev pub is_declared : Meaning → Bool
is_declared undeclared = false
is_declared _ = true

-- ---- what declarations add, one after the other: of two equal names, which no text has that is read, the last counts

abbrev pub also : (List ℕ → Meaning) → List ℕ → Meaning → List ℕ → Meaning
also means name m q = if same_name name q then m else means q

abbrev pub with_member : Names → Member → Names
with_member names m = record {
  means = also names.means m.word.name (known (EnumValue (length names.members)));
  buses = names.buses;
  members = names.members ++ m ∷ [];
}

abbrev pub with_members : Names → List Member → Names
with_members names [] = names
with_members names (m ∷ ms) = with_members (with_member names m) ms

abbrev pub with_meaning : Names → List ℕ → Meaning → Names
with_meaning names name m = record { means = also names.means name m; buses = names.buses; members = names.members }

abbrev pub with_definition : Names → Definition → Names
with_definition names (parameter word t) = with_meaning names word.name (a_definition [] (plain t))
with_definition names (function word arguments body) = with_meaning names word.name (a_definition arguments body)
with_definition names (enumeration word ms) = with_members (with_meaning names word.name an_enumeration) ms

abbrev pub with_signal : Names → List ℕ → ℕ → Names
with_signal names name k = with_meaning names name (a_signal k)

abbrev pub with_bus : Names → List ℕ → ℕ → ℕ → Names
with_bus names name first width = record {
  means = also names.means name (known (Bus (length names.buses)));
  buses = names.buses ++ record { first = first; width = width } ∷ [];
  members = names.members;
}

abbrev pub without_names : Names
without_names = record { means = λ q. undeclared; buses = []; members = [] }

abbrev pub with_definitions : Names → List Definition → Names
with_definitions names [] = names
with_definitions names (d ∷ ds) = with_definitions (with_definition names d) ds
