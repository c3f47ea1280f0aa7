use Rattle.std.proofs.Common.{codes}
use Rattle.std.proofs.lemmas.Result.{IfOk-weaker}
use Rattle.program_words.proofs.Building.{program_started, with_command}
use Rattle.program_words.proofs.command_line.program.Goals as goal

pub returns : goal.returns
returns c =
    let start = program_started c.new.result c.disable_help_flag.result c.disable_help_subcommand.result c.subcommand_required-program.result
    (codes "boundsyn") c.new.ensures.app c.disable_help_flag.ensures c.disable_help_subcommand.ensures c.subcommand_required-program.ensures in
    let one = with_command _ _ _ _ _ start c.in_ok-subcommand.ensures c.in_ok-searching.ensures in
    let two = with_command _ _ _ _ _ one c.in_ok-subcommand-2.ensures c.in_ok-check.ensures in
    let three = with_command _ _ _ _ _ two c.in_ok-subcommand-3.ensures c.in_ok-expand.ensures in
    let four = with_command _ _ _ _ _ three c.in_ok-subcommand-4.ensures c.in_ok-lasso.ensures in
    let five = with_command _ _ _ _ _ four c.in_ok-subcommand-5.ensures c.in_ok-generate.ensures in
    let six = with_command _ _ _ _ _ five c.in_ok-subcommand-6.ensures c.in_ok-bench.ensures in
    let seven = with_command _ _ _ _ _ six c.in_ok-subcommand-7.ensures c.in_ok-verify.ensures in
    let eight = with_command _ _ _ _ _ seven c.in_ok-subcommand-8.ensures c.in_ok-searching-2.ensures in
    let nine = with_command _ _ _ _ _ eight c.in_ok-subcommand-9.ensures c.in_ok-batch.ensures in
    IfOk-weaker c.subcommand-10.result _ _ (λ new adds. with_command _ _ _ _ _ nine adds c.in_ok-solve.ensures) c.subcommand-10.ensures
