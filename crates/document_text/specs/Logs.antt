-- The logs of a document and the line that ends it, read one after the other (this project's own).
use Rattle.std.specs.Prelude.{◌≡◌, ℕ, ◌+◌, ◌-◌, ◌^◌, ◌<◌, ◌≤◌, Option, Some, None, List, [], ◌∷◌, length, option_map, option_and_then, if◌then◌else◌}
use Rattle.std.specs.Option.{option_map_or}
use Rattle.letters_and_lassos.specs.declared.kinds.Side.{Side}
use Rattle.letters_and_lassos.specs.declared.kinds.Side.TheVariants.{System, Environment}
use Rattle.refutation_log.specs.declared.entries.Entry.{Entry}
use Rattle.refutation_log.specs.Read.{StatesEntry, StatesEntries}
use Rattle.aiger_text.specs.Words.{cut_at, number_within}
use Rattle.document_text.specs.declared.logs.Head.{Head}
use Rattle.document_text.specs.declared.order.Order.{Order}
use Rattle.document_text.specs.declared.order.Place.{Place}
use Rattle.document_text.specs.Parts.{LogPart}
use Rattle.document_text.specs.Lines.{log_words, end_text}
use Rattle.document_text.specs.Order.{place, may_follow, may_end}
use Rattle.document_text.specs.Header.{behind, front}

-- what a head states behind the words `log` and its side
abbrev pub head_behind : Side → List ℕ → Option Head
head_behind side text =
    option_and_then (λ first. option_and_then (λ second. option_and_then (λ third.
    option_and_then (λ size. option_and_then (λ vars. option_and_then (λ base.
    option_map (λ count. record { side = side; size = size; vars = vars; base = base; count = count })
    (number_within (2 ^ 64 - 1) third.1)) (number_within (2 ^ 64 - 1) third.0)) (number_within (2 ^ 32 - 1) second.0)) (number_within (2 ^ 32 - 1) first.0))
    (cut_at 32 second.1)) (cut_at 32 first.1)) (cut_at 32 text)

abbrev pub head_in : List ℕ → Option Head
head_in line =
    option_map_or (head_behind System) (behind (log_words System) line) (option_and_then (head_behind Environment) (behind (log_words Environment) line))

-- the head, where its log may come next
abbrev pub next_head : Order → Place → List ℕ → Option Head
next_head order last line =
    option_and_then (λ head. if may_follow order last (place head.side head.size) then Some head else None) (head_in line)

-- what follows the line `end`, where it may stand here and does
abbrev pub behind_end : Order → Place → List ℕ → Option (List ℕ)
behind_end order last bytes = if may_end order last then behind end_text bytes else None

-- the log with this head in line n, as far as it has these entries
abbrev pub part_of : Head → List Entry → ℕ → LogPart
part_of head entries n = record { side = head.side; size = head.size; vars = head.vars; base = head.base; entries = entries; line = n }

-- what was read of the logs, and the first bad line of them
pub record LogsRead : Type 0 where
  pub logs : List LogPart
  pub bad : Option ℕ

-- the line behind line n is bad where something stands there
abbrev pub bad_behind : ℕ → List ℕ → Option ℕ
bad_behind n [] = None
bad_behind n (_ ∷ _) = Some (n + 1)

-- no entry's line comes next
abbrev pub NoEntry : ℕ → List ℕ → Type 0
NoEntry vars bytes = (e : Entry) (rest : List ℕ) → StatesEntry vars bytes e rest → ⊥

-- These entries are the first that the bytes state, at most `count`, and where they are fewer no entry's line comes next.
pub record AreFirstEntries (vars count : ℕ) (bytes : List ℕ) (entries : List Entry) (rest : List ℕ) : Type 0 where
  pub stated : StatesEntries vars bytes entries rest
  pub at_most : length entries ≤ count
  pub stop : length entries < count → NoEntry vars rest

-- What the lines from line n on state behind the log at the place `last`. Nothing stands behind the line `end`. Of a log that has
-- fewer entries than its head says those before the first bad line are read.
pub data ReadsLogs (order : Order) : Place → ℕ → List ℕ → LogsRead → Type 0 where
  ended : (last : Place) (n : ℕ) (bytes rest : List ℕ)
      → behind_end order last bytes ≡ Some rest
      → ReadsLogs order last n bytes (record { logs = []; bad = bad_behind n rest })
  no_head : (last : Place) (n : ℕ) (bytes : List ℕ)
      → behind_end order last bytes ≡ None → front (next_head order last) bytes ≡ None
      → ReadsLogs order last n bytes (record { logs = []; bad = Some n })
  stopped : (last : Place) (n : ℕ) (bytes : List ℕ) (head : Head) (tail : List ℕ) (entries : List Entry) (rest : List ℕ)
      → behind_end order last bytes ≡ None → front (next_head order last) bytes ≡ Some (head, tail)
      → AreFirstEntries head.vars head.count tail entries rest → length entries < head.count
      → ReadsLogs order last n bytes (record { logs = part_of head entries n ∷ []; bad = Some (n + 1 + length entries) })
  whole : (last : Place) (n : ℕ) (bytes : List ℕ) (head : Head) (tail : List ℕ) (entries : List Entry) (rest : List ℕ) (more : LogsRead)
      → behind_end order last bytes ≡ None → front (next_head order last) bytes ≡ Some (head, tail)
      → AreFirstEntries head.vars head.count tail entries rest → length entries ≡ head.count
      → ReadsLogs order (place head.side head.size) (n + 1 + length entries) rest more
      → ReadsLogs order last n bytes (record { logs = part_of head entries n ∷ more.logs; bad = more.bad })
