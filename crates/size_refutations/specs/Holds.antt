-- When a log of a document of version 6 holds (this project's own).
use Rattle.std.specs.Prelude.{◌≡◌, ◌≢◌, ℕ, ◌≤◌, ◌^◌, ⊤, true, List, None, length}
use Rattle.text_limits.specs.declared.TheConstants.{LARGE_LIMITS}
use Rattle.machine_model.specs.Problem.{reads_of}
use Rattle.machine_model.specs.declared.problems.Problem.{Problem}
use Rattle.refutation_log.specs.Log.{IsClosed}
use Rattle.letter_clauses.specs.Count.{is_allowed, most_letters}
use Rattle.letter_clauses.specs.Letters.{IsLetterList}
use Rattle.solved_text.specs.declared.letters.Letters.{Letters}
use Rattle.solved_text.specs.declared.letters.Letters.TheVariants.{All, Few}
use Rattle.solved_text.specs.Parts.{SizeLog}
use Rattle.size_refutations.specs.Ground.{IsSizeOf, LogGround}
use Rattle.size_refutations.specs.Heads.{clauses_for, letters_for, variables_for}

-- a list of some letters of so many signals, few and not all of them
pub record AreFewLetters (signals : ℕ) (letters : List ℕ) : Type 0 where
  pub list : IsLetterList signals letters
  pub few : length letters ≤ most_letters
  pub not_all : length letters ≢ 2 ^ signals

-- what a head names is all letters, or such a list
abbrev pub AreLetters : ℕ → Letters → Type 0
AreLetters signals All = ⊤
AreLetters signals (Few letters) = AreFewLetters signals letters

-- The log is over the base clauses of its side's problem of its size, over letters with which that is allowed, and it is closed: each entry
-- follows, and the last one is the empty clause.
pub record LogHolds (g : LogGround) (l : SizeLog) : Type 0 where
  pub problem : Problem
  pub is_size : IsSizeOf g l.size problem
  pub some : 1 ≤ l.size
  pub few : l.size ≤ LARGE_LIMITS.machine
  pub letters : AreLetters (reads_of problem) l.letters
  pub allowed : is_allowed problem (letters_for problem l) ≡ true
  pub vars : l.vars ≡ variables_for problem l
  pub base : l.base ≡ length (clauses_for problem l)
  pub closed : IsClosed (variables_for problem l) (clauses_for problem l) None l.entries
