-- The base clauses of each size over any list of letters, as a search takes them (this project's own).
use Rattle.std.specs.Prelude.{◌≡◌, ℕ, ◌&&◌, Bool, true, List, Option, Some, None, is_some, if◌then◌else◌}
use Rattle.propositional_logic.specs.declared.formula.Cnf.{Cnf}
use Rattle.machine_model.specs.Problem.{reads_of}
use Rattle.machine_model.specs.declared.problems.Problem.{Problem}
use Rattle.letter_clauses.specs.BaseClauses.{base_clauses}
use Rattle.letter_clauses.specs.Count.{count_of}
use Rattle.letter_clauses.specs.Variables.{variables_of}
use Rattle.size_refutations.specs.Ground.{HasNoAutomaton, IsSizeOf, LogGround}
use Rattle.size_refutations.specs.Heads.{is_list, is_number_of_states}

-- whether a problem has so many states as a size that is refuted may have, and these are letters that its machines read
abbrev pub may_be_counted : Problem → List ℕ → Bool
may_be_counted p letters = is_number_of_states p.size && is_list (reads_of p) letters

-- the number of its base clauses over these letters, where they are allowed
abbrev pub clause_count : Problem → List ℕ → Option ℕ
clause_count p letters = if may_be_counted p letters then count_of p letters else None

-- the number of a size's base clauses; none where the side has no automaton or the clauses aren't allowed
pub data IsCountOf (g : LogGround) (size : ℕ) (letters : List ℕ) : Option ℕ → Type 0 where
  no_automaton : HasNoAutomaton g → IsCountOf g size letters None
  over_problem : (p : Problem) (count : Option ℕ) → IsSizeOf g size p → count ≡ clause_count p letters → IsCountOf g size letters count

-- these are the base clauses of a problem over letters
pub record AreClausesOf (p : Problem) (letters : List ℕ) (c : Cnf) : Type 0 where
  pub vars : c.vars ≡ variables_of p letters
  pub clauses : c.clauses.items ≡ base_clauses p letters

-- the base clauses of a problem over letters, exactly where they are counted
abbrev pub AreClausesOver : Problem → List ℕ → Option Cnf → Type 0
AreClausesOver p letters None = clause_count p letters ≡ None
AreClausesOver p letters (Some c) = (is_some (clause_count p letters) ≡ true) × AreClausesOf p letters c

-- the base clauses of a size; none where there are none
pub data AreClausesAt (g : LogGround) (size : ℕ) (letters : List ℕ) : Option Cnf → Type 0 where
  no_clauses : IsCountOf g size letters None → AreClausesAt g size letters None
  its_clauses : (p : Problem) (count : ℕ) (c : Cnf) → IsSizeOf g size p → clause_count p letters ≡ Some count → AreClausesOf p letters c
      → AreClausesAt g size letters (Some c)
