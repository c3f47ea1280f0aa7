use Rattle.std.specs.Prelude.{ℕ, zero, suc, Bool, false, List, [], ◌∷◌, ◌++◌, Option, Some, None, length, replicate}
use Rattle.ltl_formula.specs.declared.nodes.FormulaId.{FormulaId}
use Rattle.ltl_formula.specs.declared.nodes.Node.{Node}
use Rattle.indexmap.specs.IndexSet.{insert_all}
use Rattle.obligation_sets.specs.declared.branches.Step.{Step}
use Rattle.obligation_sets.specs.declared.branches.Step.TheVariants.{Leaf, Dead, On, Split}
use Rattle.obligation_sets.specs.contracts.sets.CoverPartialEq.TheImpl.{ghosts as cover_ghosts}
use Rattle.obligation_sets.specs.declared.sets.Cover.{Cover}
use Rattle.obligation_sets.specs.Ids.{ids_of}
use Rattle.obligation_sets.specs.Cubes.{free_cube}
use Rattle.obligation_sets.specs.Branch.{Branch}
use Rattle.obligation_sets.specs.Steps.{step, undone}

-- the leaves of a branch after its first step, where `below` gives those of the branches that come of it
abbrev pub leaves_below : (Branch → List (Option Branch)) → Step → List (Option Branch)
leaves_below below (Leaf leaf) = Some leaf ∷ []
leaves_below below Dead = None ∷ []
leaves_below below (On b) = below b
leaves_below below (Split first second) = below first ++ below second

-- the leaves that are reached in so many steps
abbrev pub leaves_within : ℕ → List Node → Branch → List (Option Branch)
leaves_within zero ns b = []
leaves_within (suc n) ns b = leaves_below (leaves_within n ns) (step ns b)

-- the leaves of a branch, None for a dead one, in the order of branches: the first one wholly before the second.
-- Each step but the last marks one more formula done, so that these steps reach them all.
abbrev pub leaves_of : List Node → Branch → List (Option Branch)
leaves_of ns b = leaves_within (suc (undone b.done)) ns b

-- the branch that begins with a set of obligations: nothing done, any letter, nothing left over
abbrev pub start_branch : List Node → List FormulaId → Branch
start_branch ns set = record {
  work = set;
  done = replicate (length ns) false;
  cube = free_cube;
  next = replicate (length ns) false;
  postponed = replicate (length ns) false;
}

-- the leaves of a set of obligations, dead ones too
abbrev pub set_leaves : List Node → List FormulaId → List (Option Branch)
set_leaves ns set = leaves_of ns (start_branch ns set)

-- the cover that a leaf is
abbrev pub cover_of : Branch → Cover
cover_of leaf = record { cube = leaf.cube; next = ids_of leaf.next; postponed = ids_of leaf.postponed }

-- the covers of the leaves that aren't dead, where `cover` gives that of a leaf
abbrev pub alive : (Branch → Cover) → List (Option Branch) → List Cover
alive cover [] = []
alive cover (None ∷ leaves) = alive cover leaves
alive cover (Some leaf ∷ leaves) = cover leaf ∷ alive cover leaves

-- whether two covers are the same, as it is derived: by their cubes and their ids
abbrev pub same_cover : Cover → Cover → Bool
same_cover = cover_ghosts.eq

-- the covers of a set of obligations: its leaves that aren't dead, each different one once, at its first place
-- (bounded synthesis of Finkbeiner and Schewe; the order is this project's own)
abbrev pub covers_of : List Node → List FormulaId → List Cover
covers_of ns set = insert_all same_cover [] (alive cover_of (set_leaves ns set))
