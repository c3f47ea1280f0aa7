use Rattle.std.specs.Prelude.{string_bytes}
use Rattle.std.proofs.Common.{map}
use Rattle.std.proofs.lemmas.Result.{IfOk-weaker}
use Rattle.program_words.specs.Settings.{asked_by}
use Rattle.boundsyn_top.proofs.ReplyLemmas.{output_by, unasked_output, untaken_by, whole_is}
use Rattle.boundsyn_top.proofs.replies.reply_to.Goals as goal

pub returns-in-Ok-clause-output : goal.returns-in-Ok-clause-output
returns-in-Ok-clause-output g c =
    IfOk-weaker c.obey.result _ _
    (λ o output. output_by (map string_bytes c.args.words.now) _ (asked_by c.in-Ok.settings) o c.in-Ok.ensures.settings output)
    c.obey.ensures.output

pub returns-in-Ok-clause-other_files : goal.returns-in-Ok-clause-other_files
returns-in-Ok-clause-other_files g c = λ name foreign.
    c.obey.ensures.other_files name (untaken_by (map string_bytes c.args.words.now) _ (asked_by c.in-Ok.settings) name c.in-Ok.ensures.settings foreign)

pub returns-in-Err-Refused-clause-output : goal.returns-in-Err-Refused-clause-output
returns-in-Err-Refused-clause-output g c =
    whole_is _ c.words_refused.result c.whole_output.result c.whole_output.ensures
    (IfOk-weaker c.words_refused.result _ _
    (λ r is. unasked_output (map string_bytes c.args.words.now) _ r (c.in-Err-Refused.ensures.refused (cc)) is.0 is.1)
    c.words_refused.ensures)
