-- The proofs of a witness's obligations, read one after the other (this project's own).
use Rattle.std.specs.Prelude.{◌≡◌, ℕ, suc, ◌+◌, ◌<◌, Option, Some, None, List, [], ◌∷◌, length}
use Rattle.refutation_log.specs.declared.entries.Entry.{Entry}
use Rattle.document_text.specs.Header.{front}
use Rattle.document_text.specs.Logs.{AreFirstEntries}
use Rattle.truth_witness.specs.Logs.{ObligationLog}
use Rattle.witness_text.specs.declared.logs.ProofHead.{ProofHead}
use Rattle.witness_text.specs.Forms.{head_in}

-- the log with this head, as far as it has these entries
abbrev pub log_of : ProofHead → List Entry → ObligationLog
log_of head entries = record { vars = head.vars; base = head.base; entries = entries }

-- What was read of the proofs: their logs, how many of these have all entries, the line behind that, and the bytes from there on,
-- where all proofs were read; else the line is bad.
pub record LogsRead : Type 0 where
  pub logs : List ObligationLog
  pub whole : ℕ
  pub line : ℕ
  pub rest : Option (List ℕ)

-- What the lines from line n on state behind the proofs at the places before k, where `count` are wanted. Of a proof that has fewer
-- entries than its head says those before the first bad line are read.
pub data ReadsLogs (count : ℕ) : ℕ → ℕ → List ℕ → LogsRead → Type 0 where
  ended : (k n : ℕ) (bytes : List ℕ)
      → k ≡ count
      → ReadsLogs count k n bytes (record { logs = []; whole = 0; line = n; rest = Some bytes })
  no_head : (k n : ℕ) (bytes : List ℕ)
      → k < count → front (head_in k) bytes ≡ None
      → ReadsLogs count k n bytes (record { logs = []; whole = 0; line = n; rest = None })
  stopped : (k n : ℕ) (bytes : List ℕ) (head : ProofHead) (tail : List ℕ) (entries : List Entry) (rest : List ℕ)
      → k < count → front (head_in k) bytes ≡ Some (head, tail)
      → AreFirstEntries head.vars head.count tail entries rest → length entries < head.count
      → ReadsLogs count k n bytes (record { logs = log_of head entries ∷ []; whole = 0; line = n + 1 + length entries; rest = None })
  whole : (k n : ℕ) (bytes : List ℕ) (head : ProofHead) (tail : List ℕ) (entries : List Entry) (rest : List ℕ) (more : LogsRead)
      → k < count → front (head_in k) bytes ≡ Some (head, tail)
      → AreFirstEntries head.vars head.count tail entries rest → length entries ≡ head.count
      → ReadsLogs count (k + 1) (n + 1 + length entries) rest more
      → ReadsLogs count k n bytes (record { logs = log_of head entries ∷ more.logs; whole = suc more.whole; line = more.line; rest = more.rest })
