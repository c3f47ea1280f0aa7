-- The logs of a document of version 6, read one after the other (this project's own).
use Rattle.std.specs.Prelude.{◌≡◌, ◌==◌, ℕ, ◌+◌, ◌-◌, ◌^◌, ◌<◌, Option, Some, None, List, [], ◌∷◌, ◌++◌, length, codes, option_map, option_and_then, if◌then◌else◌}
use Rattle.std.specs.List.{slice_split}
use Rattle.std.specs.Option.{option_map_or}
use Rattle.std.specs.Str.{bytes_eq}
use Rattle.refutation_log.specs.declared.entries.Entry.{Entry}
use Rattle.aiger_text.specs.Words.{cut_at, is_byte, number_within}
use Rattle.document_text.specs.Header.{behind, front, in_range}
use Rattle.document_text.specs.Logs.{AreFirstEntries}
use Rattle.solved_text.specs.declared.heads.Head.{Head}
use Rattle.solved_text.specs.declared.heads.HeadNumbers.{HeadNumbers}
use Rattle.solved_text.specs.declared.letters.Letters.{Letters}
use Rattle.solved_text.specs.declared.letters.Letters.TheVariants.{All, Few}
use Rattle.solved_text.specs.Parts.{SizeLog}

-- == letters ==

-- the greatest number of a letter: a side reads at most 16 signals
abbrev pub most_letter : ℕ
most_letter = 65535

-- what stands between commas
abbrev pub parts_of : List ℕ → List (List ℕ)
parts_of word = slice_split (is_byte 44) word

-- these numbers, and those that words write, where each is a letter's from `least` on and above the one before it
abbrev pub numbers_from : List ℕ → ℕ → List (List ℕ) → Option (List ℕ)
numbers_from done least [] = Some done
numbers_from done least (word ∷ words) =
    option_map_or (λ n. numbers_from (done ++ n ∷ []) (n + 1) words) (in_range least most_letter word) None

abbrev pub numbers_in : List ℕ → Option (List ℕ)
numbers_in word = numbers_from [] 0 (parts_of word)

abbrev pub letters_in : List ℕ → Option Letters
letters_in word = if bytes_eq word (codes "all") then Some All else option_map Few (numbers_in word)

-- == heads ==

-- the numbers of a head behind its first word, and its letters' word
abbrev pub numbers_of : List ℕ → Option (HeadNumbers × List ℕ)
numbers_of text =
    option_and_then (λ first. option_and_then (λ second. option_and_then (λ third. option_and_then (λ fourth.
    option_and_then (λ size. option_and_then (λ vars. option_and_then (λ base.
    option_map (λ count. (record { size = size; vars = vars; base = base; count = count }, second.0))
    (number_within (2 ^ 64 - 1) fourth.1)) (number_within (2 ^ 64 - 1) fourth.0)) (number_within (2 ^ 32 - 1) third.0)) (number_within (2 ^ 32 - 1) first.0))
    (cut_at 32 third.1)) (cut_at 32 second.1)) (cut_at 32 first.1)) (cut_at 32 text)

-- the same where the head is that of this size
abbrev pub numbers_for : ℕ → List ℕ → Option (HeadNumbers × List ℕ)
numbers_for size line =
    option_and_then (λ read. if read.0.size == size then Some read else None) (option_and_then numbers_of (behind (codes "log ") line))

abbrev pub head_of : HeadNumbers → Letters → Head
head_of numbers letters = record { size = numbers.size; letters = letters; vars = numbers.vars; base = numbers.base; count = numbers.count }

-- what the head of this size's log states
abbrev pub head_in : ℕ → List ℕ → Option Head
head_in size line = option_and_then (λ read. option_map (head_of read.0) (letters_in read.1)) (numbers_for size line)

-- == the logs in order ==

-- the log with this head in line n, as far as it has these entries
abbrev pub log_of : Head → List Entry → ℕ → SizeLog
log_of head entries n = record { size = head.size; letters = head.letters; vars = head.vars; base = head.base; entries = entries; line = n }

-- What was read of the logs, the line behind that, and the bytes from there on, where all logs were read; else the line is bad.
pub record LogsRead : Type 0 where
  pub logs : List SizeLog
  pub line : ℕ
  pub rest : Option (List ℕ)

-- What the lines from line n on state behind the log of the size `last`, where the sizes from 1 to `refuted` are refuted. Of a log
-- that has fewer entries than its head says those before the first bad line are read.
pub data ReadsLogs (refuted : ℕ) : ℕ → ℕ → List ℕ → LogsRead → Type 0 where
  ended : (last n : ℕ) (bytes : List ℕ)
      → last ≡ refuted
      → ReadsLogs refuted last n bytes (record { logs = []; line = n; rest = Some bytes })
  no_head : (last n : ℕ) (bytes : List ℕ)
      → last < refuted → front (head_in (last + 1)) bytes ≡ None
      → ReadsLogs refuted last n bytes (record { logs = []; line = n; rest = None })
  stopped : (last n : ℕ) (bytes : List ℕ) (head : Head) (tail : List ℕ) (entries : List Entry) (rest : List ℕ)
      → last < refuted → front (head_in (last + 1)) bytes ≡ Some (head, tail)
      → AreFirstEntries head.vars head.count tail entries rest → length entries < head.count
      → ReadsLogs refuted last n bytes (record { logs = log_of head entries n ∷ []; line = n + 1 + length entries; rest = None })
  whole : (last n : ℕ) (bytes : List ℕ) (head : Head) (tail : List ℕ) (entries : List Entry) (rest : List ℕ) (more : LogsRead)
      → last < refuted → front (head_in (last + 1)) bytes ≡ Some (head, tail)
      → AreFirstEntries head.vars head.count tail entries rest → length entries ≡ head.count
      → ReadsLogs refuted (last + 1) (n + 1 + length entries) rest more
      → ReadsLogs refuted last n bytes (record { logs = log_of head entries n ∷ more.logs; line = more.line; rest = more.rest })
