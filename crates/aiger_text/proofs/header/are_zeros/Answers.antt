use Rattle.std.proofs.Common.{◌≡◌, ◌<◌, List, ℕ, [], None, Bor, length, get_or, true, ap, sym, ◌∙◌, arith}
use Rattle.std.specs.Prelude.{map, ◌==◌}
use Rattle.std.proofs.lemmas.List.{get_or-map, length-map}
use Rattle.names_and_numbers.specs.Numerals.{decimal_value}
use Rattle.aiger_text.specs.Words.{is_numeral, number_within}
use Rattle.aiger_text.proofs.HeaderLemmas.{holds_at, fails_at, not_zero}
use Rattle.aiger_text.proofs.header.are_zeros.Goals as goal

pub returns-in-None : goal.returns-in-None
returns-in-None c =
    let d : Bor (List ℕ) = record { ref_ptr = (0, 0); now = [] } in
    let words : List (List ℕ) = map (λ word. word.now) c.args.words.now in
    let within : c.loop-word.word-index < length c.args.words.now = omega arith in
    let inside : c.loop-word.word-index < length words = rw length-map within in
    let same : get_or words c.loop-word.word-index [] ≡ (get_or c.args.words.now c.loop-word.word-index d).now = get_or-map (λ word. word.now) c.args.words.now c.loop-word.word-index d [] within in
    let numeral : is_numeral (get_or words c.loop-word.word-index []) ≡ true = holds_at is_numeral words c.loop-word.word-index [] inside c.requires in
    let none : number_within 0 (get_or words c.loop-word.word-index []) ≡ None = ap (number_within 0) same ∙ sym c.in-None.ensures.number in
    sym (fails_at (λ n. n == 0) decimal_value words c.loop-word.word-index [] inside (not_zero (get_or words c.loop-word.word-index []) numeral none))
