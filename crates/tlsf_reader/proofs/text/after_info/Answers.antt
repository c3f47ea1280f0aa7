use Rattle.std.proofs.Common.{◌≡◌, List, [], map, ap, subst}
use Rattle.tlsf_syntax.specs.Tree as plain
use Rattle.tlsf_syntax.specs.TextReading.{main_read}
use Rattle.tlsf_reader.specs.TextView.{block_view, written_view, each, field_view}
use Rattle.tlsf_reader.specs.Descent.{IsRead}
use Rattle.tlsf_reader.proofs.Descending.{read_stop, read_go, read_expected, read_unexpected, read_next, read_other}
use Rattle.tlsf_reader.proofs.Climbing.{read_exit}
use Rattle.tlsf_reader.proofs.WholeTexts.{main_alone}
use Rattle.tlsf_reader.proofs.text.after_info.Goals as goal

pub returns-in_err-expect : goal.returns-in_err-expect
returns-in_err-expect c = read_exit _ c.from_residual.ensures.1 (read_next _ _ c.in-Some.ensures.next (read_unexpected _ c.in_err-expect.ensures.next))

pub returns-in_err-blocks : goal.returns-in_err-blocks
returns-in_err-blocks c =
    read_exit _ c.from_residual-in_err-blocks.ensures.1 (read_next _ _ c.in-Some.ensures.next (read_expected _ c.in_ok-expect.ensures.next (read_stop _ c.in_err-blocks.ensures.read)))

pub returns-in_err-expect-2 : goal.returns-in_err-expect-2
returns-in_err-expect-2 c =
    read_exit _ c.from_residual-in_err-expect-2.ensures.1
    (read_next _ _ c.in-Some.ensures.next (read_expected _ c.in_ok-expect.ensures.next (read_go _ c.in_ok-blocks.ensures.read (read_unexpected _ c.in_err-expect-2.ensures.next))))

pub returns-in-Some : goal.returns-in-Some
returns-in-Some c =
    read_next _ _ c.in-Some.ensures.next (read_expected _ c.in_ok-expect.ensures.next (read_go _ c.in_ok-blocks.ensures.read (read_expected _ c.in_ok-expect-2.ensures.next c.main_part.ensures)))

pub returns : goal.returns
returns c =
    let none : map block_view c.new.result.items ≡ [] = ap (map block_view) c.new.ensures.items in
    read_other _ (main_alone (each field_view c.args.fields)) c.in_default.ensures.next
    (subst (λ (bs : List plain.Block). IsRead written_view (λ d. main_read d (each field_view c.args.fields) bs c.next_if.new.self) c.main_part-2.new.ahead c.main_part-2.result) none c.main_part-2.ensures)
