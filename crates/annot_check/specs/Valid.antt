-- Which lists of pairs show that no run lasso of a circuit is an accepted word of an automaton, and that the circuit is of a kind
-- (bounded synthesis of Finkbeiner and Schewe; circuits are those of AIGER 1.9).
use Rattle.std.specs.Prelude.{◌≡◌, ℕ, ◌+◌, ◌/◌, ◌^◌, ◌<◌, Bool, List, length, map, All, Contains, slice_index}
use Rattle.letters_and_lassos.specs.declared.kinds.Kind.{Kind}
use Rattle.letters_and_lassos.specs.declared.kinds.Kind.TheVariants.{Moore}
use Rattle.letters_and_lassos.specs.declared.kinds.Side.{Side}
use Rattle.letters_and_lassos.specs.declared.letters.Letter.{Letter}
use Rattle.machine_model.specs.Automaton.{AutomatonModel, HasEdge}
use Rattle.aiger_text.specs.declared.circuits.Gate.{Gate}
use Rattle.aiger_text.specs.Circuit.{Circuit, Valuation, AreSignals, GatesAgree, first_read, first_written, latch_values, literal_value}
use Rattle.annot_check.specs.declared.pairs.Pair.{Pair}
use Rattle.annot_check.specs.Pairs.{PairStands, weight}

-- With these values of its latches the circuit, which plays this side, reads the letter's signals of its inputs and writes those of its
-- outputs, and the latches then have the values `next`. The letter has no other signal.
pub record Goes (side : Side) (c : Circuit) (code : List Bool) (letter : Letter) (next : List Bool) : Type 0 where
  pub values : Valuation
  pub holds : latch_values c values ≡ code
  pub gates : GatesAgree c values
  pub reads : AreSignals values c.inputs letter.0 (first_read side c)
  pub writes : AreSignals values c.outputs letter.0 (first_written side c)
  pub within : letter.0 < 2 ^ (length c.inputs + length c.outputs)
  pub moves : next ≡ map (λ latch. literal_value values latch.next) c.latches

-- the start: the pair of the resets and of state 0 stands, and its number counts that state where it is rejecting
abbrev pub StartStands : Circuit → AutomatonModel → List Pair → Type 0
StartStands c a pairs = PairStands pairs (map (λ latch. latch.reset) c.latches) 0 (weight a 0)

-- Wherever the circuit and the automaton go from a pair, the pair that they reach stands; its number isn't below the one that they
-- come from, and is above it where the state is rejecting.
pub record KeepsRule (side : Side) (c : Circuit) (a : AutomatonModel) (pairs : List Pair) (pair : Pair) : Type 0 where
  pub rule : (letter : Letter) (next : List Bool) (state : ℕ) → Goes side c pair.code letter next → HasEdge a letter pair.state state
      → PairStands pairs next state (pair.number + weight a state)

-- a variable leads to an input where it is one, or a gate with an operand that leads to one
pub data LeadsToInput (c : Circuit) : ℕ → Type 0 where
  input : (literal : ℕ) → Contains c.inputs literal → LeadsToInput c (literal / 2)
  left : (gate : Gate) → Contains c.gates gate → LeadsToInput c (gate.left / 2) → LeadsToInput c (gate.literal / 2)
  right : (gate : Gate) → Contains c.gates gate → LeadsToInput c (gate.right / 2) → LeadsToInput c (gate.literal / 2)

-- no output's literal leads to an input
pub record WritesByLatches (c : Circuit) : Type 0 where
  pub outputs : (o : ℕ) → o < length c.outputs → LeadsToInput c (slice_index c.outputs o / 2) → ⊥

-- A valid list of pairs of a circuit that plays this side; the kind is the circuit's own. The pairs can't show that a circuit is of kind Moore, as latch values with which no run of the automaton is
-- left aren't listed; so its outputs are asked for that.
pub record IsValidPairList (side : Side) (c : Circuit) (kind : Kind) (a : AutomatonModel) (pairs : List Pair) : Type 0 where
  pub start : StartStands c a pairs
  pub rules : All (KeepsRule side c a pairs) pairs
  pub moore : kind ≡ Moore → WritesByLatches c
