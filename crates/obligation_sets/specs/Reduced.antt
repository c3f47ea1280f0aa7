use Rattle.std.specs.Prelude.{◌==◌, ◌↔◌, ◌≡◌, ℕ, zero, suc, Bool, false, not, ◌&&◌, ◌||◌, List, [], ◌∷◌, Contains, bit_and, filter, fold, if◌then◌else◌, length, replicate, slice_index_or}
use Rattle.std.specs.List.{list_any}
use Rattle.indexmap.specs.IndexSet.{insert_all}
use Rattle.ltl_formula.specs.declared.nodes.FormulaId.{FormulaId}
use Rattle.ltl_formula.specs.declared.nodes.Node.{Node}
use Rattle.ltl_formula.specs.declared.nodes.Node.TheVariants.{And, Release}
use Rattle.ltl_formula.specs.Nodes.{IsNodeList, node_at}
use Rattle.obligation_sets.specs.declared.sets.Covering.{Covering}
use Rattle.obligation_sets.specs.declared.sets.Cover.{Cover}
use Rattle.obligation_sets.specs.Branch.{Branch}
use Rattle.obligation_sets.specs.Covers.{alive, covers_of, set_leaves}
use Rattle.obligation_sets.specs.Ids.{all_among, ids_of, with_id}

-- the parts of a formula that hold wherever it does: both parts of a conjunction, the second part of a release
abbrev pub implied_parts : Node → List FormulaId
implied_parts (And g h) = g ∷ h ∷ []
implied_parts (Release g h) = h ∷ []
implied_parts _ = []

-- a formula implies another at once: that is such a part of it, or of one that it implies at once (this project's own)
pub data ImpliesAtOnce (ns : List Node) (f : FormulaId) : FormulaId → Type 0 where
  direct : (g : FormulaId) → Contains (implied_parts (node_at ns f.0)) g → ImpliesAtOnce ns f g
  further : (g h : FormulaId) → ImpliesAtOnce ns f g → Contains (implied_parts (node_at ns g.0)) h → ImpliesAtOnce ns f h

-- the flags with those of the implied parts of each formula below n that is left over or has one, from n down: parts
-- stand before wholes
abbrev pub implied_down : List Node → List Bool → ℕ → List Bool → List Bool
implied_down ns left zero implied = implied
implied_down ns left (suc n) implied =
    implied_down ns left n
    (if slice_index_or left n false || slice_index_or implied n false then fold with_id implied (implied_parts (node_at ns n)) else implied)

-- the flags of the formulas that some formula left over implies at once
abbrev pub implied_by : List Node → List Bool → List Bool
implied_by ns left = implied_down ns left (length ns) (replicate (length ns) false)

-- the flags of a set without the formulas of another
abbrev pub without : List Bool → List Bool → List Bool
without [] others = []
without (flag ∷ flags) [] = flag ∷ flags
without (flag ∷ flags) (other ∷ others) = (flag && not other) ∷ without flags others

-- what is left over, without what some formula left over implies at once
abbrev pub cut : List Node → List Bool → List Bool
cut ns left = without left (implied_by ns left)

-- of what is left over exactly those formulas go that some formula left over implies at once
abbrev pub CutsAreExact : Type 0
CutsAreExact =
    (ns : List Node) (left : List Bool) (f : FormulaId) → IsNodeList ns → length left ≡ length ns
    → Contains (ids_of (cut ns left)) f ↔ (Contains (ids_of left) f × ((g : FormulaId) → Contains (ids_of left) g → ImpliesAtOnce ns g f → ⊥))

-- each signal of a set is in another
abbrev pub is_part : ℕ → ℕ → Bool
is_part a b = bit_and a b == a

-- a cover asks no more than another: its cube's signals, what it leaves and what it puts off are in the other's
abbrev pub asks_no_more : Cover → Cover → Bool
asks_no_more c d = is_part c.cube.must d.cube.must && is_part c.cube.not d.cube.not && all_among c.next d.next && all_among c.postponed d.postponed

-- two covers have the same cube, leave the same and put off the same
abbrev pub asks_the_same : Cover → Cover → Bool
asks_the_same c d = asks_no_more c d && asks_no_more d c

-- a cover asks no more than another, and they aren't the same
abbrev pub asks_less : Cover → Cover → Bool
asks_less c d = asks_no_more c d && not (asks_no_more d c)

-- the minimal covers of a list, in its order: each different one at its first place, where no other one asks less
abbrev pub minimal : List Cover → List Cover
minimal covers = filter (λ c. not (list_any (λ d. asks_less d c) covers)) (insert_all asks_the_same [] covers)

-- what a cover leaves of what its leaf leaves
abbrev pub left_by : Covering → List Node → List Bool → List Bool
left_by Covering.Plain ns left = left
left_by Covering.Reduced ns left = cut ns left

-- the cover that a leaf is
abbrev pub cover_by : Covering → List Node → Branch → Cover
cover_by covering ns leaf = record { cube = leaf.cube; next = ids_of (left_by covering ns leaf.next); postponed = ids_of leaf.postponed }

-- the reduced covers of a set of obligations: of its leaves that aren't dead, with what they leave cut, the minimal ones
-- (this project's own)
abbrev pub reduced_covers_of : List Node → List FormulaId → List Cover
reduced_covers_of ns set = minimal (alive (cover_by Covering.Reduced ns) (set_leaves ns set))

-- the covers of a set of obligations, plain or reduced
abbrev pub covers_by : Covering → List Node → List FormulaId → List Cover
covers_by Covering.Plain ns set = covers_of ns set
covers_by Covering.Reduced ns set = reduced_covers_of ns set
