use Rattle.std.proofs.Common.{◌≡◌, ℕ, ◌+◌, ◌*◌, Some, None, length, ap, subst, arith, rules}
use Rattle.std.specs.Option.{option_copied}
use Rattle.witness_text.specs.Logs.{ReadsLogs}
use Rattle.witness_text.specs.Shown.{shown_logs, shown_statement}
use Rattle.witness_text.specs.Statement.{lines_of}
use Rattle.witness_text.proofs.ReadLemmas.{logs_line, read_none, read_some, room, statement_lines, text_lines}
use Rattle.witness_text.proofs.reading.read_lines.Goals as goal

pub overflow_add-line : goal.overflow_add-line
overflow_add-line c =
    let fits = statement_lines c.args.bytes.now (shown_statement c.in_ok-statement.statement) c.in_ok-statement.ensures in
    let lines = c.lines.ensures in
    let small = c.requires in
    omega (arith, fits, lines, small)

pub returns-in_default : goal.returns-in_default
returns-in_default c =
    read_none c.args.following c.args.first c.args.bytes.now (shown_statement c.in_ok-statement.statement) c.in_ok-statement.ensures (shown_logs c.none-read.result)
    (c.args.first + c.lines.result) c.with.result (ap option_copied c.in_default.is) (ap (λ (n : ℕ). c.args.first + n) c.lines.ensures) c.none-read.ensures c.with.ensures

pub read_logs-requires : goal.read_logs-requires
read_logs-requires c =
    let fits = text_lines c.args.bytes.now c.in-Some.text.now (shown_statement c.in_ok-statement.statement) c.in_ok-statement.ensures (ap option_copied c.in-Some.is) in
    let lines = c.lines.ensures in
    let small = c.requires in
    omega (arith, fits, lines, small)

pub bad_behind_logs-bad-requires : goal.bad_behind_logs-bad-requires
bad_behind_logs-bad-requires c =
    let fits = text_lines c.args.bytes.now c.in-Some.text.now (shown_statement c.in_ok-statement.statement) c.in_ok-statement.ensures (ap option_copied c.in-Some.is) in
    let line = logs_line (3 + 3 * c.len.result) (c.args.first + c.lines.result) c.in-Some.text.now (shown_logs c.in_ok-read.read) c.in_ok-read.ensures in
    let lines = c.lines.ensures in
    let small = c.requires in
    room c.in_ok-read.read.line c.in_ok-read.read.rest (omega (arith, fits, line, lines, small))

pub returns : goal.returns
returns c =
    let parts : c.len.result ≡ length c.in_ok-statement.statement.parts.items = search rules in
    let reads : ReadsLogs (3 + 3 * length c.in_ok-statement.statement.parts.items) 0 (c.args.first + lines_of (shown_statement c.in_ok-statement.statement)) c.in-Some.text.now (shown_logs c.in_ok-read.read) =
    subst (λ (n : ℕ). ReadsLogs (3 + 3 * n) 0 (c.args.first + lines_of (shown_statement c.in_ok-statement.statement)) c.in-Some.text.now (shown_logs c.in_ok-read.read)) parts
    (subst (λ (n : ℕ). ReadsLogs (3 + 3 * c.len.result) 0 (c.args.first + n) c.in-Some.text.now (shown_logs c.in_ok-read.read)) c.lines.ensures c.in_ok-read.ensures) in
    read_some c.args.following c.args.first c.args.bytes.now (shown_statement c.in_ok-statement.statement) c.in_ok-statement.ensures c.in-Some.text.now (shown_logs c.in_ok-read.read)
    c.bad_behind_logs-bad.result c.with-2.result (ap option_copied c.in-Some.is) reads c.bad_behind_logs-bad.ensures c.with-2.ensures
