use Rattle.std.proofs.Common.{◌≡◌, ◌^◌, ◌<◌, List, length, sym, subst, rules}
use Rattle.std.specs.Prelude.{All}
use Rattle.document_text.specs.Parts.{LogPart}
use Rattle.document_check.specs.Shown.{IsReadable}
use Rattle.document_check.proofs.ReadFacts.{reads_fit}
use Rattle.document_check.proofs.check.logs_in.Goals as goal

pub end_line-requires-clause-verdict : goal.end_line-requires-clause-verdict
end_line-requires-clause-verdict g c =
    let small : length c.args.bytes.now < 2 ^ 63 = search rules in
    (reads_fit c.args.bytes.now c.args.lines.now small c.requires.lines).verdict_line

pub end_line-requires-clause-logs : goal.end_line-requires-clause-logs
end_line-requires-clause-logs g c =
    let small : length c.args.bytes.now < 2 ^ 63 = search rules in
    (reads_fit c.args.bytes.now c.args.lines.now small c.requires.lines).logs

pub logs_line-requires-clause-logs : goal.logs_line-requires-clause-logs
logs_line-requires-clause-logs g c lives outlives =
    let small : length c.args.bytes.now < 2 ^ 63 = search rules in
    let logs : c.deref-2.result.now ≡ c.args.lines.now.logs = search rules in
    subst (λ (xs : List LogPart). All IsReadable xs) (sym logs) (reads_fit c.args.bytes.now c.args.lines.now small c.requires.lines).logs
