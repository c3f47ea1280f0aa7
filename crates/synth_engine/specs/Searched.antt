use Rattle.std.specs.Prelude.{◌≡◌, ℕ, Option}
use Rattle.std.specs.Option.{option_map_or}
use Rattle.letters_and_lassos.specs.declared.kinds.Side.{Side}
use Rattle.machine_model.specs.Counting.{IsCountedAs}
use Rattle.machine_model.specs.Problem.{IsProblem, automaton_of}
use Rattle.machine_model.specs.declared.counting.Counts.{Counts}
use Rattle.machine_model.specs.declared.problems.Problem.{Problem}
use Rattle.annotation_encode.specs.Count.{allowed_sizes}

-- A problem of this side whose sizes are searched, over base clauses whose numbers count so (this project's own).
pub record IsSearched (counts : Counts) (side : Side) (p : Problem) : Type 0 where
  pub within : IsProblem p
  pub of_side : p.side ≡ side
  pub counted : IsCountedAs counts (automaton_of p) p.counting

-- the number of allowed sizes of a side, none where it has no problem
abbrev pub allowed_of : ℕ → Option Problem → ℕ
allowed_of max problem = option_map_or (λ p. allowed_sizes p max) problem 0
