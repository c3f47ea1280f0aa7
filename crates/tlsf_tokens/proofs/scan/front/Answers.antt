use Rattle.std.proofs.Common.{sym, ◌∙◌}
use Rattle.tlsf_tokens.proofs.Longest.{word_found, number_found, longest_blank}
use Rattle.tlsf_tokens.proofs.Comment.{line_found}
use Rattle.std.proofs.lemmas.Bool.{ne_eqb}
use Rattle.tlsf_tokens.proofs.scan.front.Goals as goal

pub returns-then-is_name_start : goal.returns-then-is_name_start
returns-then-is_name_start c = word_found _ _ _ (sym c.is_name_start.ensures ∙ c.if-is_name_start.true) c.name_len-len.ensures c.word_piece.ensures

pub returns-then-is_ascii_digit : goal.returns-then-is_ascii_digit
returns-then-is_ascii_digit c =
    number_found _ _ (sym c.is_name_start.ensures ∙ c.if-is_name_start.false) (sym c.is_ascii_digit.ensures.value ∙ c.if-is_ascii_digit.true) c.digits_len.ensures

pub returns-then-is_blank : goal.returns-then-is_blank
returns-then-is_blank c =
    longest_blank _ (sym c.is_name_start.ensures ∙ c.if-is_name_start.false) (sym c.is_ascii_digit.ensures.value ∙ c.if-is_ascii_digit.false) (ne_eqb _ _ c.if-first-eq34.false)
    (sym c.is_blank.ensures ∙ c.if-is_blank.true)

pub returns-then-starts_with : goal.returns-then-starts_with
returns-then-starts_with c = line_found _ _ (sym c.starts_with.ensures.value ∙ c.if-starts_with.true) c.len_before.ensures
