-- Circuits of latches and and-gates, and their runs (AIGER 1.9).
use Rattle.std.specs.Prelude.{◌≡◌, ◌≢◌, ◌==◌, ℕ, zero, suc, ◌+◌, ◌/◌, ◌%◌, ◌<◌, Bool, false, not, ◌&&◌, ⊤, Option, List, map, length, All, Contains, EachIndex, slice_index, slice_index_or, if◌then◌else◌}
use Rattle.letters_and_lassos.specs.declared.kinds.Kind.{Kind}
use Rattle.letters_and_lassos.specs.declared.kinds.Kind.TheVariants.{Mealy, Moore}
use Rattle.letters_and_lassos.specs.declared.kinds.Side.{Side}
use Rattle.letters_and_lassos.specs.declared.kinds.Side.TheVariants.{System, Environment}
use Rattle.letters_and_lassos.specs.Word.{Word, IsLassoOver, lasso_len, letter_at, nth_letter, next}
use Rattle.letters_and_lassos.specs.Signals.{has}
use Rattle.aiger_text.specs.declared.circuits.Latch.{Latch}
use Rattle.aiger_text.specs.declared.circuits.Gate.{Gate}

-- variable v has the literals 2 * v and 2 * v + 1; inputs and outputs are literals
pub record Circuit : Type 0 where
  pub variables : ℕ
  pub inputs : List ℕ
  pub latches : List Latch
  pub outputs : List ℕ
  pub gates : List Gate
  pub input_names : List (Option (List ℕ))
  pub output_names : List (Option (List ℕ))

-- a value for each variable; variable 0 is always false
abbrev pub Valuation : Type 0
Valuation = ℕ → Bool

abbrev pub variable_value : Valuation → ℕ → Bool
variable_value values zero = false
variable_value values (suc v) = values (suc v)

-- the even literal of a variable is its value, the odd one the opposite
abbrev pub literal_value : Valuation → ℕ → Bool
literal_value values literal =
    if literal % 2 == 0 then variable_value values (literal / 2) else not (variable_value values (literal / 2))

abbrev pub literal_values : Valuation → List ℕ → List Bool
literal_values values literals = map (λ literal. literal_value values literal) literals

abbrev pub latch_values : Circuit → Valuation → List Bool
latch_values c values = map (λ latch. literal_value values latch.literal) c.latches

abbrev pub output_values : Circuit → Valuation → List Bool
output_values c values = literal_values values c.outputs

-- each gate has the value of its operands' and
abbrev pub GatesAgree : Circuit → Valuation → Type 0
GatesAgree c values =
    All (λ gate. literal_value values gate.literal ≡ (literal_value values gate.left && literal_value values gate.right)) c.gates

-- The signals of a letter: the system's circuit reads the first ones and writes those behind them; the
-- environment's reads the last ones and writes those before them.
abbrev pub first_read : Side → Circuit → ℕ
first_read System c = 0
first_read Environment c = length c.outputs

abbrev pub first_written : Side → Circuit → ℕ
first_written System c = length c.inputs
first_written Environment c = 0

-- these literals have the values of the letter's signals from number `first` on
abbrev pub AreSignals : Valuation → List ℕ → ℕ → ℕ → Type 0
AreSignals values literals signals first =
    EachIndex literals (λ k. literal_value values (slice_index literals k) ≡ has signals (first + k))

-- A run lasso: a valuation at each position of a lasso of letters over inputs and outputs. The latches have
-- their resets at position 0 and at each next position the values that stood at their next literals; the
-- gates are as written; the letter has the inputs' and the outputs' values.
pub record IsCircuitRun (side : Side) (c : Circuit) (w : Word) (values : ℕ → Valuation) : Type 0 where
  pub lasso : IsLassoOver (length c.inputs + length c.outputs) w
  pub resets : All (λ latch. literal_value (values 0) latch.literal ≡ latch.reset) c.latches
  pub steps : (i : ℕ) → i < lasso_len w →
      All (λ latch. literal_value (values (next w i)) latch.literal ≡ literal_value (values i) latch.next) c.latches
  pub gates : (i : ℕ) → i < lasso_len w → GatesAgree c (values i)
  pub reads : (i : ℕ) → i < lasso_len w → AreSignals (values i) c.inputs (letter_at w i).0 (first_read side c)
  pub writes : (i : ℕ) → i < lasso_len w → AreSignals (values i) c.outputs (letter_at w i).0 (first_written side c)

-- the circuit has a run lasso that reads, letter by letter, this word of input letters
pub record RunsOn (side : Side) (c : Circuit) (reads : Word) : Type 0 where
  pub word : Word
  pub values : ℕ → Valuation
  pub run : IsCircuitRun side c word values
  pub reads_it : (j k : ℕ) → k < length c.inputs →
      has (nth_letter word j).0 (first_read side c + k) ≡ has (nth_letter reads j).0 k

-- it has one on every lasso of input letters
abbrev pub RunsOnEveryInput : Side → Circuit → Type 0
RunsOnEveryInput side c = (reads : Word) → IsLassoOver (length c.inputs) reads → RunsOn side c reads

-- the latches have these values at some position of some run lasso of the circuit that plays this side
pub record OccursFor (side : Side) (c : Circuit) (latches : List Bool) : Type 0 where
  pub word : Word
  pub values : ℕ → Valuation
  pub run : IsCircuitRun side c word values
  pub at : ℕ
  pub within : at < lasso_len word
  pub latches_are : latch_values c (values at) ≡ latches

-- that many valuations of the latches occur in its run lassos
pub record HasStatesFor (side : Side) (c : Circuit) (n : ℕ) : Type 0 where
  pub states : List (List Bool)
  pub count : length states ≡ n
  pub different : (i k : ℕ) (d : List Bool) → i < k → k < length states → slice_index_or states i d ≢ slice_index_or states k d
  pub each_occurs : All (OccursFor side c) states
  pub all_there : (latches : List Bool) → OccursFor side c latches → Contains states latches

-- both as the system's circuit: by a law it makes no difference which side the circuit plays
abbrev pub Occurs : Circuit → List Bool → Type 0
Occurs c latches = OccursFor System c latches

-- the circuit's number of states
abbrev pub HasStates : Circuit → ℕ → Type 0
HasStates c n = HasStatesFor System c n

-- where the latches have the same values the outputs do, whatever the input letter is
pub record IsMooreCircuit (c : Circuit) : Type 0 where
  pub same_outputs : (v w : Word) (in_v in_w : ℕ → Valuation) (i k : ℕ) →
      IsCircuitRun System c v in_v → IsCircuitRun System c w in_w → i < lasso_len v → k < lasso_len w →
      latch_values c (in_v i) ≡ latch_values c (in_w k) → output_values c (in_v i) ≡ output_values c (in_w k)

-- every circuit is of kind Mealy
abbrev pub IsCircuitOfKind : Kind → Circuit → Type 0
IsCircuitOfKind Mealy c = ⊤
IsCircuitOfKind Moore c = IsMooreCircuit c
