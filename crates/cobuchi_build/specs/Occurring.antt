use Rattle.std.specs.Prelude.{◌↔◌, ℕ, zero, suc, Bool, true, false, List, [], ◌∷◌, Contains, IsTrue, filter, fold, if◌then◌else◌, length, replicate, slice_index_or}
use Rattle.ltl_formula.specs.declared.nodes.FormulaId.{FormulaId}
use Rattle.ltl_formula.specs.declared.nodes.Node.{Node}
use Rattle.ltl_formula.specs.declared.nodes.Node.TheVariants.{True, False, Signal, Not, Next, Finally, Globally, And, Or, Implies, Equiv, Until, Release, WeakUntil}
use Rattle.ltl_formula.specs.Nodes.{node_at}
use Rattle.obligation_sets.specs.Ids.{IdsRise, ids_of, with_id}

-- the parts of a formula
abbrev pub operands_of : Node → List FormulaId
operands_of True = []
operands_of False = []
operands_of (Signal k) = []
operands_of (Not g) = g ∷ []
operands_of (Next g) = g ∷ []
operands_of (Finally g) = g ∷ []
operands_of (Globally g) = g ∷ []
operands_of (And g h) = g ∷ h ∷ []
operands_of (Or g h) = g ∷ h ∷ []
operands_of (Implies g h) = g ∷ h ∷ []
operands_of (Equiv g h) = g ∷ h ∷ []
operands_of (Until g h) = g ∷ h ∷ []
operands_of (Release g h) = g ∷ h ∷ []
operands_of (WeakUntil g h) = g ∷ h ∷ []

-- a formula occurs in f: it is f, or a part of one that does
pub data OccursIn (ns : List Node) (f : FormulaId) : FormulaId → Type 0 where
  itself : OccursIn ns f f
  part : (g h : FormulaId) → OccursIn ns f g → Contains (operands_of (node_at ns g.0)) h → OccursIn ns f h

-- the flags with those of a formula's parts
abbrev pub with_parts : List Bool → Node → List Bool
with_parts flags node = fold with_id flags (operands_of node)

-- the flags with those of the parts of each formula below n that has one, from n down: parts stand before wholes
abbrev pub marked_down : List Node → ℕ → List Bool → List Bool
marked_down ns zero flags = flags
marked_down ns (suc n) flags = marked_down ns n (if slice_index_or flags n false then with_parts flags (node_at ns n) else flags)

-- the flags of the formulas that occur in f
abbrev pub occurring : List Node → FormulaId → List Bool
occurring ns f = marked_down ns (length ns) (with_id (replicate (length ns) false) f)

-- the node is an until
abbrev pub is_until : Node → Bool
is_until (Until g h) = true
is_until _ = false

-- the until formulas that occur in f, by rising id; an until's number is its place here
abbrev pub untils_of : List Node → FormulaId → List FormulaId
untils_of ns f = filter (λ g. is_until (node_at ns g.0)) (ids_of (occurring ns f))

-- the list of these untils is what its name says
pub record ListsUntils (ns : List Node) (f : FormulaId) (untils : List FormulaId) : Type 0 where
  pub rise : IdsRise untils
  pub exact : (g : FormulaId) → Contains untils g ↔ (OccursIn ns f g × IsTrue (is_until (node_at ns g.0)))
