use Rattle.std.proofs.Common.{◌≡◌, true, false, sym, arith, rules}
use Rattle.std.specs.Prelude.{is_some}
use Rattle.document_text.specs.Shown.{shown_header, shown_logs}
use Rattle.document_text.proofs.BodyLemmas.{bad_header, rest_fits, good_logs_behind}
use Rattle.document_text.proofs.reading.read_body.Goals as goal

pub returns-then-is_some : goal.returns-then-is_some
returns-then-is_some c =
    let some : is_some c.read_header-read.result.header.bad ≡ true = search rules in
    rw c.new.ensures.items
    (bad_header c.args.circuit c.args.first c.args.bytes.now (shown_header c.read_header-read.result) (sym c.read_header-read.ensures) some)

pub read_logs-requires : goal.read_logs-requires
read_logs-requires c =
    let none : is_some c.read_header-read.result.header.bad ≡ false = search rules in
    let fits = rest_fits c.args.circuit c.args.first c.args.bytes.now (shown_header c.read_header-read.result) (sym c.read_header-read.ensures) none in
    let lines = c.lines.ensures.few in
    let req = c.requires in
    omega (arith, fits, lines, req)

pub returns : goal.returns
returns c =
    let none : is_some c.read_header-read.result.header.bad ≡ false = search rules in
    good_logs_behind c.args.circuit c.args.first c.args.bytes.now (shown_header c.read_header-read.result) (sym c.read_header-read.ensures)
    c.order-order.result c.lines.result (shown_logs c.in_ok-logs.logs) none c.order-order.ensures c.lines.ensures.count c.in_ok-logs.ensures
