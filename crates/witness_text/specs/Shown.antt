-- What the reader has of a witness's lines (this project's own).
use Rattle.std.specs.Prelude.{◌≡◌, ℕ, List, ◌∷◌, decimal, flat_map}
use Rattle.std.specs.Option.{option_copied}
use Rattle.document_text.specs.Logs.{AreFirstEntries}
use Rattle.truth_witness.specs.Logs.{ObligationLog}
use Rattle.witness_text.specs.declared.logs.LogsRead.{LogsRead}
use Rattle.witness_text.specs.declared.logs.ProofHead.{ProofHead}
use Rattle.witness_text.specs.declared.statement.Statement.{Statement}
use Rattle.witness_text.specs.Logs.{log_of}
use Rattle.witness_text.specs.Logs as logs
use Rattle.witness_text.specs.Statement as statement

abbrev pub shown_statement : Statement → statement.Statement
shown_statement s = record {
  counts = s.counts;
  latches = s.latches.items;
  gates = s.gates.items;
  always = s.always;
  parts = s.parts.items;
  rest = option_copied s.rest;
}

abbrev pub shown_logs : LogsRead → logs.LogsRead
shown_logs r = record { logs = r.logs.items; whole = r.whole; line = r.line; rest = option_copied r.rest }

-- What was read of a log behind its head: the first entries of the bytes, as many as the head says at most.
pub record IsLogAt (head : ProofHead) (bytes : List ℕ) (log : ObligationLog) (rest : List ℕ) : Type 0 where
  pub entries : AreFirstEntries head.vars head.count bytes log.entries rest
  pub log_is : log ≡ log_of head log.entries

-- numbers, with a space before each
abbrev pub with_spaces : List ℕ → List ℕ
with_spaces numbers = flat_map (λ n. 32 ∷ decimal n) numbers
