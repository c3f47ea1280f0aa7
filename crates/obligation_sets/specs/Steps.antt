use Rattle.std.specs.Prelude.{◌≡◌, ◌<◌, ℕ, suc, Bool, true, false, List, [], ◌∷◌, ◌++◌, Option, Some, None, All, length}
use Rattle.letters_and_lassos.specs.declared.cubes.Cube.{Cube}
use Rattle.ltl_formula.specs.declared.nodes.FormulaId.{FormulaId}
use Rattle.ltl_formula.specs.declared.nodes.Node.{Node}
use Rattle.ltl_formula.specs.declared.nodes.Node.TheVariants.{True, False, Signal, Not, Next, Finally, Globally, And, Or, Implies, Equiv, Until, Release, WeakUntil}
use Rattle.ltl_formula.specs.Nodes.{node_at}
use Rattle.obligation_sets.specs.declared.branches.Step.{Step}
use Rattle.obligation_sets.specs.declared.branches.Step.TheVariants.{Leaf, Dead, On, Split}
use Rattle.obligation_sets.specs.Ids.{with_id}
use Rattle.obligation_sets.specs.Cubes.{wanting, forbidding}
use Rattle.obligation_sets.specs.OpenWork.{open_work}
use Rattle.obligation_sets.specs.Branch.{Branch}

-- the branch with these formulas at the front of its work list
abbrev pub in_front : List FormulaId → Branch → Branch
in_front fs b = record b { work = fs ++ b.work }

-- the branch that leaves a formula to the next position
abbrev pub leaving : FormulaId → Branch → Branch
leaving f b = record b { next = with_id b.next f }

-- the branch that puts an until off to the next position
abbrev pub postponing : FormulaId → Branch → Branch
postponing f b = record b { next = with_id b.next f; postponed = with_id b.postponed f }

-- a literal joins the cube; the branch is dead where its opposite stands there
abbrev pub joining : Branch → Option Cube → Step
joining b None = Dead
joining b (Some cube) = On (record b { cube = cube })

-- the opposite of a signal joins the cube
abbrev pub opposing : Branch → Node → Step
opposing b (Signal k) = joining b (forbidding b.cube k)
opposing b _ = Dead

-- what comes of a formula that was taken off the work list; a formula that is in no normal form
-- leaves the branch dead
abbrev pub expanding : List Node → Branch → FormulaId → Node → Step
expanding ns b f True = On b
expanding ns b f False = Dead
expanding ns b f (Signal k) = joining b (wanting b.cube k)
expanding ns b f (Not g) = opposing b (node_at ns g.0)
expanding ns b f (Next g) = On (leaving g b)
expanding ns b f (And g h) = On (in_front (g ∷ h ∷ []) b)
expanding ns b f (Or g h) = Split (in_front (g ∷ []) b) (in_front (h ∷ []) b)
expanding ns b f (Until g h) = Split (in_front (h ∷ []) b) (in_front (g ∷ []) (postponing f b))
expanding ns b f (Release g h) = Split (in_front (g ∷ h ∷ []) b) (in_front (h ∷ []) (leaving f b))
expanding ns b f (Finally g) = Dead
expanding ns b f (Globally g) = Dead
expanding ns b f (Implies g h) = Dead
expanding ns b f (Equiv g h) = Dead
expanding ns b f (WeakUntil g h) = Dead

-- the branch with its first open formula taken off the work list and marked done
abbrev pub taking : Branch → FormulaId → List FormulaId → Branch
taking b f rest = record b { work = rest; done = with_id b.done f }

abbrev pub step_on : List Node → Branch → List FormulaId → Step
step_on ns b [] = Leaf (record b { work = [] })
step_on ns b (f ∷ rest) = expanding ns (taking b f rest) f (node_at ns f.0)

-- what comes of the first formula of the work list that isn't done; a branch with none is a leaf
abbrev pub step : List Node → Branch → Step
step ns b = step_on ns b (open_work b.done b.work)

-- the branch with its work list from the first formula on that isn't done
abbrev pub settled : Branch → Branch
settled b = record b { work = open_work b.done b.work }

-- how many formulas aren't done
abbrev pub undone : List Bool → ℕ
undone [] = 0
undone (true ∷ done) = undone done
undone (false ∷ done) = suc (undone done)

-- the branch is one over n formulas: it has a flag for each, and its work list names no others
pub record HasPlaces (n : ℕ) (b : Branch) : Type 0 where
  pub work : All (λ f. f.0 < n) b.work
  pub done : length b.done ≡ n
  pub next : length b.next ≡ n
  pub postponed : length b.postponed ≡ n
