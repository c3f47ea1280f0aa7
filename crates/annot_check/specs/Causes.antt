-- Why a list of pairs isn't valid: of the causes the first that applies (this project's own).
use Rattle.std.specs.Prelude.{◌≡◌, ℕ, ◌+◌, ◌/◌, ◌<◌, Bool, List, length, All, slice_index, slice_index_or}
use Rattle.letters_and_lassos.specs.declared.kinds.Kind.{Kind}
use Rattle.letters_and_lassos.specs.declared.kinds.Kind.TheVariants.{Moore}
use Rattle.letters_and_lassos.specs.declared.kinds.Side.{Side}
use Rattle.letters_and_lassos.specs.declared.letters.Letter.{Letter}
use Rattle.machine_model.specs.Automaton.{AutomatonModel, HasEdge}
use Rattle.aiger_text.specs.Circuit.{Circuit}
use Rattle.annot_check.specs.declared.pairs.Pair.{Pair}
use Rattle.annot_check.specs.declared.faults.AnnotFault.{AnnotFault}
use Rattle.annot_check.specs.declared.faults.AnnotFault.TheVariants.{NoMemory, BadLine, NoStart, NotMoore, Broken}
use Rattle.annot_check.specs.Pairs.{PairStands, weight}
use Rattle.annot_check.specs.Valid.{Goes, KeepsRule, LeadsToInput, StartStands, WritesByLatches}

-- the circuit and the automaton go from the pair to one that doesn't stand, or with too small a number
pub record BreaksRule (side : Side) (c : Circuit) (a : AutomatonModel) (pairs : List Pair) (pair : Pair) : Type 0 where
  pub letter : Letter
  pub next : List Bool
  pub state : ℕ
  pub goes : Goes side c pair.code letter next
  pub edge : HasEdge a letter pair.state state
  pub missing : PairStands pairs next state (pair.number + weight a state) → ⊥

-- the first output whose literal leads to an input
pub record IsFirstByInput (c : Circuit) (o : ℕ) : Type 0 where
  pub output : o < length c.outputs
  pub leads : LeadsToInput c (slice_index c.outputs o / 2)
  pub first : (k : ℕ) → k < o → LeadsToInput c (slice_index c.outputs k / 2) → ⊥

-- the first pair that breaks the rule
pub record IsFirstBroken (side : Side) (c : Circuit) (a : AutomatonModel) (pairs : List Pair) (j : ℕ) : Type 0 where
  pub pair : Pair
  pub within : j < length pairs
  pub at : slice_index_or pairs j pair ≡ pair
  pub breaks : BreaksRule side c a pairs pair
  pub first : (k : ℕ) (d : Pair) → k < j → KeepsRule side c a pairs (slice_index_or pairs k d)

-- it is of the kind as far as its outputs' literals show
abbrev pub IsOfKind : Circuit → Kind → Type 0
IsOfKind c kind = kind ≡ Moore → WritesByLatches c

abbrev pub IsCause : Side → Circuit → Kind → AutomatonModel → List Pair → AnnotFault → Type 0
IsCause side c kind a pairs NoMemory = Unit {0}
IsCause side c kind a pairs (BadLine n) = ⊥
IsCause side c kind a pairs NoStart = StartStands c a pairs → ⊥
IsCause side c kind a pairs (NotMoore o) = StartStands c a pairs × (kind ≡ Moore) × IsFirstByInput c o
IsCause side c kind a pairs (Broken j) = StartStands c a pairs × IsOfKind c kind × IsFirstBroken side c a pairs j

-- the conditions on which a list of pairs is checked
pub record CanBeChecked (c : Circuit) (inputs : ℕ) (pairs : List Pair) : Type 0 where
  pub reads : length c.inputs ≡ inputs
  pub few_inputs : inputs < 17
  pub few_outputs : length c.outputs < 17
  pub codes : All (λ (pair : Pair). length pair.code ≡ length c.latches) pairs
