use Rattle.std.proofs.Common.{◌≡◌, length, ap, arith, rules}
use Rattle.witness_text.specs.Places.{lines_of_logs}
use Rattle.witness_text.proofs.LogLemmas.{lines_of_first}
use Rattle.witness_text.proofs.lines.WitnessLines.log_line.Goals as goal

pub lines_of-requires : goal.lines_of-requires
lines_of-requires c =
    let logs : c.deref.result.now ≡ c.args.self.now.logs = search rules in
    let same : lines_of_logs c.deref.result.now ≡ lines_of_logs c.args.self.now.logs = ap lines_of_logs logs in
    let first = lines_of_first c.args.log c.deref.result.now in
    let small = c.requires.numbered in
    omega (arith, same, first, small)

pub overflow_add-result-3 : goal.overflow_add-result-3
overflow_add-result-3 c =
    let logs : c.deref.result.now ≡ c.args.self.now.logs = search rules in
    let same : lines_of_logs c.deref.result.now ≡ lines_of_logs c.args.self.now.logs = ap lines_of_logs logs in
    let first = lines_of_first c.args.log c.deref.result.now in
    let parts : c.len.result ≡ length c.args.self.now.parts = search rules in
    let small = c.requires.numbered in
    let always = c.always_line.ensures in
    let lines = c.lines_of.ensures in
    omega (arith, same, first, parts, small, always, lines)
