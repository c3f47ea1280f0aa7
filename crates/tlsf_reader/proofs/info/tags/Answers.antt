use Rattle.std.proofs.Common.{sym}
use Rattle.tlsf_reader.proofs.Descending.{read_stop}
use Rattle.tlsf_reader.proofs.Climbing.{read_exit}
use Rattle.tlsf_reader.proofs.InfoDescending.{read_tags}
use Rattle.tlsf_reader.proofs.info.tags.Goals as goal

pub returns-in_err-words-clause-read : goal.returns-in_err-words-clause-read
returns-in_err-words-clause-read c = read_exit _ c.from_residual.ensures.1 (read_tags c.args.ahead.now (sym c.if-begins.ensures) (read_stop _ c.in_err-words.ensures.read))
