-- What the checker finds out of one step and of the edges of one state (this project's own).
use Rattle.std.specs.Prelude.{◌≡◌, ℕ, ◌*◌, ◌/◌, ◌%◌, ◌^◌, ◌<◌, Bool, true, false, List, ◌+◌, Contains, Option, Some, None, min, length, slice_index_or}
use Rattle.letters_and_lassos.specs.declared.kinds.Side.{Side}
use Rattle.letters_and_lassos.specs.declared.kinds.Side.TheVariants.{System, Environment}
use Rattle.letters_and_lassos.specs.declared.letters.Letter.{Letter}
use Rattle.letters_and_lassos.specs.Cube.{Fits}
use Rattle.letters_and_lassos.specs.Signals.{has}
use Rattle.machine_model.specs.declared.automata.Edge.{Edge}
use Rattle.aiger_text.specs.Circuit.{Circuit}
use Rattle.aiger_text.specs.Step.{StateModel}
use Rattle.machine_model.specs.Automaton.{AutomatonModel}
use Rattle.annot_check.specs.declared.pairs.Pair.{Pair}
use Rattle.annot_check.specs.declared.numbers.Numbers.{Numbers}
use Rattle.annot_check.specs.declared.steps.Reaction.{Reaction}
use Rattle.annot_check.specs.declared.steps.Reactions.{Reactions}
use Rattle.annot_check.specs.Causes.{BreaksRule}
use Rattle.annot_check.specs.Numbers.{AtLeast, Knows, greatest_at}
use Rattle.annot_check.specs.Pairs.{weight}
use Rattle.annot_check.specs.Valid.{Goes, KeepsRule, StartStands}

-- the letter in which the circuit, which plays this side, reads and writes these numbers
abbrev pub whole_of : Side → Circuit → ℕ → ℕ → ℕ
whole_of System c read written = written * 2 ^ length c.inputs + read
whole_of Environment c read written = read * 2 ^ length c.outputs + written

-- what such a circuit reads of a letter
abbrev pub read_of : Side → Circuit → ℕ → ℕ
read_of System c letter = letter % 2 ^ length c.inputs
read_of Environment c letter = letter / 2 ^ length c.outputs

-- the circuit goes with this letter to these values, and with no other letter that reads the same
pub record IsReaction (side : Side) (c : Circuit) (code : List Bool) (read : ℕ) (letter : Letter) (next : List Bool) : Type 0 where
  pub goes : Goes side c code letter next
  pub only : (other : Letter) (to : List Bool) → Goes side c code other to → read_of side c other.0 ≡ read → (other ≡ letter) × (to ≡ next)

-- what the circuit does from these values, on each letter of inputs in its order
pub record AreReactions (side : Side) (c : Circuit) (r : Reactions) : Type 0 where
  pub count : length r.steps.items ≡ 2 ^ length c.inputs
  pub each : (k : ℕ) (d : Reaction) → k < length r.steps.items → IsReaction side c r.code k (slice_index_or r.steps.items k d).letter (slice_index_or r.steps.items k d).next

-- the inputs are the signals of a letter, and all else is as before
pub record GivesInputs (old new : StateModel) (read : ℕ) : Type 0 where
  pub inputs : (k : ℕ) → k < length old.inputs → slice_index_or new.inputs k false ≡ has read k
  pub same : new ≡ record old { inputs = new.inputs }
  pub count : length new.inputs ≡ length old.inputs

-- the edges of this source are these
pub record AreEdgesFrom (edges from : List Edge) (source : ℕ) : Type 0 where
  pub all : (edge : Edge) → Contains edges edge → edge.from ≡ source → Contains from edge
  pub among : (edge : Edge) → Contains from edge → Contains edges edge × (edge.from ≡ source)

-- both lists have the same edges
pub record HasTheEdges (edges others : List Edge) : Type 0 where
  pub there : (edge : Edge) → Contains edges edge → Contains others edge
  pub back : (edge : Edge) → Contains others edge → Contains edges edge

-- where the edge fits the letter, this holds of the state that it leads to
pub record LeadsOn (letter : Letter) (Lead : ℕ → Type 0) (edge : Edge) : Type 0 where
  pub leads : Fits edge.cube letter → Lead edge.to

-- an edge fits the letter, and it doesn't hold of the state that it leads to
pub record OneFails (letter : Letter) (Lead : ℕ → Type 0) (edges : List Edge) : Type 0 where
  pub edge : Edge
  pub among : Contains edges edge
  pub fits : Fits edge.cube letter
  pub fails : Lead edge.to → ⊥

-- the pair of these values and a state stands, as far as the numbers tell, with a number that is large enough behind this one
abbrev pub IsEnough : Numbers → AutomatonModel → ℕ → List Bool → ℕ → Type 0
IsEnough numbers a number code state = AtLeast (greatest_at numbers (record { code = code; state = state })) (number + weight a state)

-- the answer tells whether a pair keeps the rule, for all pairs that the numbers are of
pub record TellsRule (side : Side) (c : Circuit) (a : AutomatonModel) (numbers : Numbers) (pair : Pair) (keeps : Bool) : Type 0 where
  pub holds : (pairs : List Pair) → Knows (greatest_at numbers) pairs → keeps ≡ true → KeepsRule side c a pairs pair
  pub fails : (pairs : List Pair) → Knows (greatest_at numbers) pairs → keeps ≡ false → BreaksRule side c a pairs pair

-- and so for the start
pub record TellsStart (c : Circuit) (a : AutomatonModel) (numbers : Numbers) (starts : Bool) : Type 0 where
  pub holds : (pairs : List Pair) → Knows (greatest_at numbers) pairs → starts ≡ true → StartStands c a pairs
  pub fails : (pairs : List Pair) → Knows (greatest_at numbers) pairs → starts ≡ false → StartStands c a pairs → ⊥

-- the places of n elements, each there, in some order
pub record ArePlaces (n : ℕ) (places : List ℕ) : Type 0 where
  pub all : (k : ℕ) → k < n → Contains places k
  pub within : (k : ℕ) → Contains places k → k < n

-- the earlier one of a place that was found, if one was, and of this place
abbrev pub earlier_of : Option ℕ → ℕ → Option ℕ
earlier_of None place = Some place
earlier_of (Some found) place = Some (min found place)
