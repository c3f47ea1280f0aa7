use Rattle.std.specs.Prelude.{◌≡◌, ◌≤◌, ◌^◌, ◌<◌, ◌+◌, ◌*◌, ℕ, List, [], ◌∷◌, ◌++◌, Option, Some, Contains, fold, length, reverse}
use Rattle.ltl_formula.specs.declared.nodes.FormulaId.{FormulaId}
use Rattle.ltl_formula.specs.declared.nodes.Node.{Node}
use Rattle.obligation_sets.specs.declared.branches.Fork.{Fork}
use Rattle.obligation_sets.specs.declared.branches.Step.{Step}
use Rattle.obligation_sets.specs.declared.branches.Step.TheVariants.{Leaf, Dead, On, Split}
use Rattle.obligation_sets.specs.declared.cover_search.Frame.{Frame}
use Rattle.obligation_sets.specs.declared.cover_search.Frame.TheVariants.{Open, Close}
use Rattle.obligation_sets.specs.declared.cover_search.Search.{Search}
use Rattle.obligation_sets.specs.declared.cover_search.TheConstants.{MAX_LEAVES}
use Rattle.obligation_sets.specs.declared.sets.Cover.{Cover}
use Rattle.obligation_sets.specs.declared.sets.Covering.{Covering}
use Rattle.obligation_sets.specs.Branch.{Branch}
use Rattle.obligation_sets.specs.Covers.{alive, leaves_of, set_leaves}
use Rattle.obligation_sets.specs.Forks.{branch_of, leaves_in}
use Rattle.obligation_sets.specs.Gathered.{gather}
use Rattle.obligation_sets.specs.Reduced.{cover_by}
use Rattle.obligation_sets.specs.Steps.{HasPlaces, undone}

-- a leaf is one over n formulas, and its flags fit ids of 32 bits
abbrev pub HasLeafPlaces : ℕ → Step → Type 0
HasLeafPlaces n (Leaf leaf) = HasPlaces n leaf × (length leaf.next < 2 ^ 32)
HasLeafPlaces n Dead = Unit {0}
HasLeafPlaces n (On b) = Unit {0}
HasLeafPlaces n (Split first second) = Unit {0}

-- the stack, its top first, the covers found and the number of leaves met after a step of the branch that was on top
abbrev pub AfterStep : Covering → List Node → Step → List Frame → List Frame → List Cover → List Cover → ℕ → Type 0
AfterStep covering ns (Leaf leaf) old new had found met = (new ≡ old) × (found ≡ gather covering had (cover_by covering ns leaf)) × (met ≡ 1)
AfterStep covering ns Dead old new had found met = (new ≡ old) × (found ≡ had) × (met ≡ 1)
AfterStep covering ns (On b) old new had found met = (new ≡ Open b ∷ old) × (found ≡ had) × (met ≡ 0)
AfterStep covering ns (Split first second) old new had found met = (new ≡ Open first ∷ Open second ∷ old) × (found ≡ had) × (met ≡ 0)

-- the branch of a frame, if it has one, is one over n formulas
abbrev pub FramePlaces : ℕ → Frame → Type 0
FramePlaces n (Open b) = HasPlaces n b
FramePlaces n (Close fork before) = Unit {0}

-- the leaves of a branch are the last ones met, behind so many
pub record EndsWith (ns : List Node) (b : Branch) (before : ℕ) (seen : List (Option Branch)) : Type 0 where
  pub first : List (Option Branch)
  pub is : seen ≡ first ++ leaves_of ns b
  pub count : before ≡ length first

-- the leaves met and those below a stack, its top first, are all; where the end of a fork comes, its leaves are the last ones then
abbrev pub LeadsTo : List Node → List (Option Branch) → List (Option Branch) → List Frame → Type 0
LeadsTo ns all seen [] = all ≡ seen
LeadsTo ns all seen (Open b ∷ stack) = HasPlaces (length ns) b × LeadsTo ns all (seen ++ leaves_of ns b) stack
LeadsTo ns all seen (Close fork before ∷ stack) = EndsWith ns (branch_of fork) before seen × LeadsTo ns all seen stack

-- a branch has so many leaves, and all of them were met
pub record IsFollowed (ns : List Node) (seen : List (Option Branch)) (b : Branch) (n : ℕ) : Type 0 where
  pub count : n ≡ length (leaves_of ns b)
  pub few : n ≤ MAX_LEAVES
  pub all : (leaf : Option Branch) → Contains (leaves_of ns b) leaf → Contains seen leaf

-- how far the search for covers is, with this stack
pub record IsAlong (covering : Covering) (ns : List Node) (set : List FormulaId) (stack : List Frame) (found : List Cover) (leaves : ℕ) (known : Fork → Option ℕ) : Type 0 where
  pub seen : List (Option Branch)
  pub leads : LeadsTo ns (set_leaves ns set) seen stack
  pub covers : found ≡ fold (gather covering) [] (alive (cover_by covering ns) seen)
  pub count : leaves ≡ length seen
  pub known_met : (fork : Fork) (n : ℕ) → known fork ≡ Some n → IsFollowed ns seen (branch_of fork) n

abbrev pub SearchAlong : Covering → List Node → List FormulaId → List Frame → Search → Type 0
SearchAlong covering ns set stack search = IsAlong covering ns set stack search.found.keys search.leaves (leaves_in search.known)

-- the work that is left below a stack
abbrev pub weight : List Frame → ℕ
weight [] = 0
weight (Open b ∷ stack) = 3 * 3 ^ undone b.done + weight stack
weight (Close fork before ∷ stack) = 1 + weight stack

-- the search goes on from a stack: it stays along each set, and there is less work left, by so much
pub record Advances (covering : Covering) (ns : List Node) (stack : List Frame) (old new : Search) (less : ℕ) : Type 0 where
  pub along : (set : List FormulaId) → SearchAlong covering ns set stack old → SearchAlong covering ns set (reverse new.frames.items) new
  pub falls : weight (reverse new.frames.items) + less ≤ weight stack
