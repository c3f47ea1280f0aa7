-- The variables of a witness's clauses: those of a frame, which is one position of a run, then those of the next frame, then those
-- that compare ranks (this project's own).
use Rattle.std.specs.Prelude.{ℕ, zero, suc, ◌+◌, ◌*◌, Bool, List, [], ◌∷◌, ◌++◌, length, nat_eq, nat_lt, slice_index_or, if◌then◌else◌}
use Rattle.std.specs.List.{list_any}
use Rattle.letters_and_lassos.specs.declared.kinds.Side.{Side}
use Rattle.letters_and_lassos.specs.declared.kinds.Side.TheVariants.{System, Environment}
use Rattle.ltl_formula.specs.declared.nodes.FormulaId.{FormulaId}
use Rattle.ltl_formula.specs.declared.nodes.Node.{Node}
use Rattle.ltl_formula.specs.declared.nodes.Node.TheVariants.{True, False, Signal, Not, Next, Finally, Globally, And, Or, Implies, Equiv, Until, Release, WeakUntil}
use Rattle.ltl_formula.specs.Nodes.{node_at}
use Rattle.aiger_text.specs.Circuit.{Circuit}
use Rattle.truth_witness.specs.Witness.{Claim}

-- the ids of a node's parts
abbrev pub parts_of : Node → List ℕ
parts_of True = []
parts_of False = []
parts_of (Signal s) = []
parts_of (Not a) = a.0 ∷ []
parts_of (Next a) = a.0 ∷ []
parts_of (Finally a) = a.0 ∷ []
parts_of (Globally a) = a.0 ∷ []
parts_of (And a b) = a.0 ∷ b.0 ∷ []
parts_of (Or a b) = a.0 ∷ b.0 ∷ []
parts_of (Implies a b) = a.0 ∷ b.0 ∷ []
parts_of (Equiv a b) = a.0 ∷ b.0 ∷ []
parts_of (Until a b) = a.0 ∷ b.0 ∷ []
parts_of (Release a b) = a.0 ∷ b.0 ∷ []
parts_of (WeakUntil a b) = a.0 ∷ b.0 ∷ []

-- the id is a part of one of these
abbrev pub is_part_of_one : List Node → List ℕ → ℕ → Bool
is_part_of_one nodes ids id = list_any (λ g. list_any (nat_eq id) (parts_of (node_at nodes g))) ids

-- these ids, and before them those below n that are parts of what stands: parts have smaller ids, so they are met going down
abbrev pub with_parts : List Node → ℕ → List ℕ → List ℕ
with_parts nodes zero ids = ids
with_parts nodes (suc n) ids = with_parts nodes n (if is_part_of_one nodes ids n then (n ∷ ids) else ids)

-- the ids that occur in a formula, rising: its own, and parts of what occurs
abbrev pub occurring : List Node → FormulaId → List ℕ
occurring nodes f = with_parts nodes f.0 (f.0 ∷ [])

-- how many stand before the number in a list
abbrev pub place_of : ℕ → List ℕ → ℕ
place_of n [] = 0
place_of n (m ∷ ms) = if nat_eq n m then 0 else suc (place_of n ms)

-- the ids whose truth has a variable
abbrev pub ids : Claim → List ℕ
ids x = occurring x.nodes x.form

-- the variables of the circuit come first, then the truth of each id that occurs, then the witness's latches, then its gates
abbrev pub ids_end : Claim → ℕ
ids_end x = x.circuit.variables + length (ids x)

abbrev pub latches_end : Claim → ℕ
latches_end x = ids_end x + length x.witness.latches

-- the number of variables of a frame
abbrev pub frame_size : Claim → ℕ
frame_size x = latches_end x + length x.witness.gates

-- the literal that says that the formula of an id that occurs is true
abbrev pub truth_literal : Claim → FormulaId → ℕ
truth_literal x g = 2 * (x.circuit.variables + 1 + place_of g.0 (ids x))

-- the literals of the witness's latch and gate with this number
abbrev pub latch_literal : Claim → ℕ → ℕ
latch_literal x k = 2 * (ids_end x + 1 + k)

abbrev pub gate_literal : Claim → ℕ → ℕ
gate_literal x k = 2 * (latches_end x + 1 + k)

-- the greatest literal of a frame
abbrev pub top_literal : Claim → ℕ
top_literal x = 2 * frame_size x + 1

-- the literal of the next position: a constant is itself
abbrev pub shifted : Claim → ℕ → ℕ
shifted x l = if nat_lt l 2 then l else (l + 2 * frame_size x)

-- the literal that compares ranks by their lowest bits, so many of them
abbrev pub rise_literal : Claim → ℕ → ℕ
rise_literal x i = 2 * (2 * frame_size x + 1 + i)

-- The circuit's literals for signals, in the order of these: as the system's it reads the first ones and writes those behind them,
-- as the environment's the other way round.
abbrev pub signal_literals : Side → Circuit → List ℕ
signal_literals System c = c.inputs ++ c.outputs
signal_literals Environment c = c.outputs ++ c.inputs

-- the literal of a signal: a signal that the circuit doesn't have is false
abbrev pub signal_literal : Claim → ℕ → ℕ
signal_literal x s = slice_index_or (signal_literals x.side x.circuit) s 0
