use Rattle.std.proofs.Common.{◌<◌, ◌^◌, length, rules}
use Rattle.size_refutations.proofs.ReadLogs.{logs_are_read}
use Rattle.solve_check.proofs.checking.check_solved.Goals as goal

pub test_lines-requires-clause-logs : goal.test_lines-requires-clause-logs
test_lines-requires-clause-logs c =
    let small : length c.args.bytes.now < 2 ^ 63 = search rules in
    logs_are_read c.args.bytes.now c.in_ok-lines.lines small c.in_ok-lines.ensures.reads
