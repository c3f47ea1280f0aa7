-- The head of a log: the letters that it names, and the numbers of its size's base clauses (this project's own).
use Rattle.std.specs.Prelude.{ℕ, ◌+◌, ◌==◌, ◌^◌, Bool, true, false, not, ◌&&◌, List, [], ◌∷◌, length, nat_le, nat_lt}
use Rattle.std.specs.List.{range_with_len}
use Rattle.std.specs.Option.{option_map_or}
use Rattle.text_limits.specs.declared.TheConstants.{LARGE_LIMITS}
use Rattle.propositional_logic.specs.Literal.{Literal}
use Rattle.machine_model.specs.Problem.{reads_of}
use Rattle.machine_model.specs.declared.problems.Problem.{Problem}
use Rattle.letter_clauses.specs.BaseClauses.{base_clauses}
use Rattle.letter_clauses.specs.Count.{count_of, most_letters}
use Rattle.letter_clauses.specs.Variables.{variables_of}
use Rattle.solved_text.specs.declared.letters.Letters.{Letters}
use Rattle.solved_text.specs.declared.letters.Letters.TheVariants.{All, Few}
use Rattle.solved_text.specs.Parts.{SizeLog}

-- whether a machine of a size that is refuted may have so many states
abbrev pub is_number_of_states : ℕ → Bool
is_number_of_states size = nat_le 1 size && nat_le size LARGE_LIMITS.machine

-- numbers rise from `least` on, and each is below `all`
abbrev pub rise_below : ℕ → ℕ → List ℕ → Bool
rise_below all least [] = true
rise_below all least (letter ∷ letters) = nat_le least letter && (nat_lt letter all && rise_below all (letter + 1) letters)

abbrev pub has_some : List ℕ → Bool
has_some [] = false
has_some (letter ∷ letters) = true

-- whether these are letters of so many signals, some, by rising number
abbrev pub is_list : ℕ → List ℕ → Bool
is_list signals letters = has_some letters && rise_below (2 ^ signals) 0 letters

-- the same of few and not all of them
abbrev pub are_few : ℕ → List ℕ → Bool
are_few signals letters = nat_le (length letters) most_letters && (not (length letters == 2 ^ signals) && is_list signals letters)

-- whether a head's letters are written as they have to be: a list of letters isn't that of all
abbrev pub are_letters : ℕ → Letters → Bool
are_letters signals All = true
are_letters signals (Few letters) = are_few signals letters

-- the letters that it names, of so many signals
abbrev pub letters_named : ℕ → Letters → List ℕ
letters_named signals All = range_with_len 0 (2 ^ signals)
letters_named signals (Few letters) = letters

-- the letters over which a log of this problem is, with its variables and base clauses
abbrev pub letters_for : Problem → SizeLog → List ℕ
letters_for p l = letters_named (reads_of p) l.letters

abbrev pub variables_for : Problem → SizeLog → ℕ
variables_for p l = variables_of p (letters_for p l)

abbrev pub clauses_for : Problem → SizeLog → List (List Literal)
clauses_for p l = base_clauses p (letters_for p l)

-- whether a size is allowed over some letters, and has these numbers of base clauses and of variables
abbrev pub has_numbers : Problem → List ℕ → SizeLog → Bool
has_numbers p letters l = option_map_or (λ n. l.base == n) (count_of p letters) false && (l.vars == variables_of p letters)

-- whether a log's size and letters are such as a head of this problem has
abbrev pub has_letters : Problem → SizeLog → Bool
has_letters p l = is_number_of_states l.size && are_letters (reads_of p) l.letters
