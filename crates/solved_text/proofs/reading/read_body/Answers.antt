use Rattle.std.proofs.Common.{◌≡◌, None, sym, arith, rules}
use Rattle.solved_text.specs.Shown.{shown_header, shown_rest}
use Rattle.solved_text.proofs.BodyLemmas.{header_fits}
use Rattle.solved_text.proofs.ReadingLemmas.{bad_body, body_reads}
use Rattle.solved_text.proofs.reading.read_body.Goals as goal

pub returns-in-Some : goal.returns-in-Some
returns-in-Some c =
    rw c.none.ensures
    (bad_body c.args.circuit c.args.first c.args.bytes.now (shown_header c.read_header-read.result) c.in-Some.n (sym c.read_header-read.ensures) c.in-Some.is)

pub read_rest-requires : goal.read_rest-requires
read_rest-requires c =
    let none : c.read_header-read.result.header.bad ≡ None = search rules in
    let fits = header_fits c.args.circuit c.args.first c.args.bytes.now (shown_header c.read_header-read.result) (sym c.read_header-read.ensures) none in
    let req = c.requires in
    omega (arith, fits, req)

pub returns : goal.returns
returns c =
    let none : c.read_header-read.result.header.bad ≡ None = search rules in
    body_reads c.args.circuit c.args.first c.args.bytes.now (shown_header c.read_header-read.result) (shown_rest c.in_ok-rest.rest) (sym c.read_header-read.ensures) none c.in_ok-rest.ensures
