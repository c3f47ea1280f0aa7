use Rattle.std.specs.Prelude.{◌≡◌, ◌≢◌, true, ℕ, ◌*◌, ◌^◌, ◌<◌, ◌≤◌, List, [], All, AllPairs, slice_index}
use Rattle.text_limits.specs.declared.TheConstants.{LARGE_LIMITS}
use Rattle.machine_model.specs.Automaton.{states_of}
use Rattle.machine_model.specs.Problem.{IsProblemIn, automaton_of, counts_locally, reads_of}
use Rattle.machine_model.specs.declared.problems.Problem.{Problem}
use Rattle.annotation_encode.specs.Variables.{counted_before}

-- Base clauses of version 4 speak of some of the letters that a machine reads, and count as those of version 3 do (this
-- project's own).

-- a list of letters of so many read signals: some, each by its number, by rising number
pub record IsLetterList (signals : ℕ) (letters : List ℕ) : Type 0 where
  pub some : letters ≢ []
  pub below : All (λ letter. letter < 2 ^ signals) letters
  pub rising : AllPairs (λ letter later. letter < later) letters

-- the letter at a place of the list
abbrev pub letter_at : List ℕ → ℕ → ℕ
letter_at letters k = slice_index letters k

-- the search for a machine of one size over some letters, within the limits of version 4, with numbers that count by component
-- (this project's own)
pub record IsLetterProblem (p : Problem) (letters : List ℕ) : Type 0 where
  pub within : IsProblemIn LARGE_LIMITS p
  pub local : counts_locally p ≡ true
  pub list : IsLetterList (reads_of p) letters

-- and so few numbers that each variable has one of 32 bits, as where the clauses are few enough
pub record IsSmallSize (p : Problem) (letters : List ℕ) : Type 0 where
  pub problem : IsLetterProblem p letters
  pub few : p.size * (p.size * counted_before p (states_of (automaton_of p))) ≤ 4000000
