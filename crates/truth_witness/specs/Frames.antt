-- What holds of one position of a run, of the first, and of two that follow each other, as clauses over AIGER's literals (the
-- circuit's part is AIGER 1.9; that of the formula is its tester, Kesten and Pnueli).
use Rattle.std.specs.Prelude.{ℕ, suc, List, [], ◌∷◌, ◌++◌, map, if◌then◌else◌}
use Rattle.std.specs.List.{flat_map}
use Rattle.ltl_formula.specs.declared.nodes.FormulaId.{FormulaId}
use Rattle.ltl_formula.specs.declared.nodes.Node.{Node}
use Rattle.ltl_formula.specs.declared.nodes.Node.TheVariants.{True, False, Signal, Not, Next, And, Or, Until, Release}
use Rattle.ltl_formula.specs.Nodes.{node_at}
use Rattle.truth_witness.specs.Clauses.{opposite, equal, conjoined}
use Rattle.truth_witness.specs.Witness.{Claim}
use Rattle.truth_witness.specs.Variables.{ids, truth_literal, latch_literal, gate_literal, signal_literal, shifted}

-- the clauses of each element and its number, from n on
abbrev pub numbered : {A : Type 0} → (ℕ → A → List (List ℕ)) → ℕ → List A → List (List ℕ)
numbered clauses n [] = []
numbered clauses n (a ∷ more) = clauses n a ++ numbered clauses (suc n) more

-- an id as one of the list's formulas
abbrev pub as_id : ℕ → FormulaId
as_id g = record { 0 = g }

-- What the truth v of a node owes to that of its parts at the same position. Until and release owe one half of what they unfold to
-- here, and the other half to the next position.
abbrev pub node_here : Claim → ℕ → Node → List (List ℕ)
node_here x v True = (v ∷ []) ∷ []
node_here x v False = (opposite v ∷ []) ∷ []
node_here x v (Signal s) = equal v (signal_literal x s)
node_here x v (Not a) = equal v (opposite (truth_literal x a))
node_here x v (And a b) = conjoined v (truth_literal x a) (truth_literal x b)
node_here x v (Or a b) =
    (v ∷ opposite (truth_literal x a) ∷ []) ∷ (v ∷ opposite (truth_literal x b) ∷ [])
    ∷ (opposite v ∷ truth_literal x a ∷ truth_literal x b ∷ []) ∷ []
node_here x v (Until a b) = (v ∷ opposite (truth_literal x b) ∷ []) ∷ (opposite v ∷ truth_literal x a ∷ truth_literal x b ∷ []) ∷ []
node_here x v (Release a b) =
    (opposite v ∷ truth_literal x b ∷ []) ∷ (v ∷ opposite (truth_literal x a) ∷ opposite (truth_literal x b) ∷ []) ∷ []
node_here x v _ = []

-- what the truth v of a node owes to the next position
abbrev pub node_ahead : Claim → ℕ → Node → List (List ℕ)
node_ahead x v (Next a) = equal v (shifted x (truth_literal x a))
node_ahead x v (Until a b) =
    (opposite v ∷ truth_literal x b ∷ shifted x v ∷ []) ∷ (v ∷ opposite (truth_literal x a) ∷ opposite (shifted x v) ∷ []) ∷ []
node_ahead x v (Release a b) =
    (opposite v ∷ truth_literal x a ∷ shifted x v ∷ []) ∷ (v ∷ opposite (truth_literal x b) ∷ opposite (shifted x v) ∷ []) ∷ []
node_ahead x v _ = []

-- a position: the circuit's gates are as written, so is the truth of each node that occurs, and so are the witness's gates
abbrev pub frame : Claim → List (List ℕ)
frame x =
    flat_map (λ gate. conjoined gate.literal gate.left gate.right) x.circuit.gates
    ++ flat_map (λ g. node_here x (truth_literal x (as_id g)) (node_at x.nodes g)) (ids x)
    ++ numbered (λ k operands. conjoined (gate_literal x k) operands.left operands.right) 0 x.witness.gates

-- the same of the next position
abbrev pub next_frame : Claim → List (List ℕ)
next_frame x = map (map (shifted x)) (frame x)

-- position 0: the circuit's latches have their resets, the witness's are false, and the formula is true
abbrev pub start : Claim → List (List ℕ)
start x =
    map (λ latch. (if latch.reset then latch.literal else opposite latch.literal) ∷ []) x.circuit.latches
    ++ numbered (λ k _. (opposite (latch_literal x k) ∷ []) ∷ []) 0 x.witness.latches
    ++ (truth_literal x x.form ∷ []) ∷ []

-- a position and the next: the latches of both move, and the truth of each node is as it unfolds
abbrev pub step : Claim → List (List ℕ)
step x =
    flat_map (λ latch. equal (shifted x latch.literal) latch.next) x.circuit.latches
    ++ flat_map (λ g. node_ahead x (truth_literal x (as_id g)) (node_at x.nodes g)) (ids x)
    ++ numbered (λ k next. equal (shifted x (latch_literal x k)) next) 0 x.witness.latches
