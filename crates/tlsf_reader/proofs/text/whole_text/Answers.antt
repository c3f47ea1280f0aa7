use Rattle.std.proofs.Common.{map, sym, ap, arith}
use Rattle.tlsf_syntax.specs.TextReading.{text_read}
use Rattle.tlsf_reader.specs.Seen.{seen}
use Rattle.tlsf_reader.proofs.Descending.{read_same}
use Rattle.tlsf_reader.proofs.WholeTexts.{text_refused, text_longer, text_whole}
use Rattle.tlsf_reader.proofs.text.whole_text.Goals as goal

pub returns-in_err-written : goal.returns-in_err-written
returns-in_err-written c =
    text_refused (map seen c.args.lexemes.now) _ c.from_residual.ensures.1 (read_same (λ d. text_read d (map seen c.args.lexemes.now)) (λ d. ap (text_read d) (sym c.new-ahead.ensures)) c.in_err-written.ensures)

pub returns-then-left-gt0 : goal.returns-then-left-gt0
returns-then-left-gt0 c =
    text_longer (map seen c.args.lexemes.now) c.text.new.ahead (omega (arith, c.left.ensures, c.if-left-gt0.true)) c.refusal.ensures
    (read_same (λ d. text_read d (map seen c.args.lexemes.now)) (λ d. ap (text_read d) (sym c.new-ahead.ensures)) c.in_ok-written.ensures)

pub returns : goal.returns
returns c =
    text_whole (map seen c.args.lexemes.now) c.text.new.ahead (omega (arith, c.left.ensures, c.if-left-gt0.false))
    (read_same (λ d. text_read d (map seen c.args.lexemes.now)) (λ d. ap (text_read d) (sym c.new-ahead.ensures)) c.in_ok-written.ensures)
