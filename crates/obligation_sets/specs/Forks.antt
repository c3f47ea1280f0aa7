use Rattle.std.specs.Prelude.{◌≡◌, ◌⊎◌, ℕ, Option, Some, reverse}
use Rattle.std.specs.HashMap.{get}
use Rattle.obligation_sets.specs.declared.branches.Fork.{Fork}
use Rattle.obligation_sets.specs.declared.forks.KnownForks.{KnownForks}
use Rattle.obligation_sets.specs.Branch.{Branch}
use Rattle.obligation_sets.specs.ForkLaws.{same_fork}
use Rattle.obligation_sets.specs.Marks.{done_of, next_of, postponed_of}

-- the branch that has these parts
abbrev pub branch_of : Fork → Branch
branch_of fork = record { work = reverse fork.work.items; done = done_of fork.marks.items; cube = fork.cube; next = next_of fork.marks.items; postponed = postponed_of fork.marks.items }

-- how many leaves a fork has, as far as it is known
abbrev pub leaves_in : KnownForks → Fork → Option ℕ
leaves_in known fork = get same_fork known.leaves fork

-- no more is known than before, but for the leaves of one branch
abbrev pub Learns : (Fork → Option ℕ) → (Fork → Option ℕ) → Branch → ℕ → Type 0
Learns old new b leaves = (fork : Fork) (n : ℕ) → new fork ≡ Some n → (old fork ≡ Some n) ⊎ ((b ≡ branch_of fork) × (n ≡ leaves))
