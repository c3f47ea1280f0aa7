use Rattle.std.proofs.Common.{◌≡◌, List, ℕ, [], get_or, true, subst}
use Rattle.std.specs.List.{list_all}
use Rattle.std.specs.Char.{is_ascii_digit}
use Rattle.std.specs.Prelude.{map}
use Rattle.std.proofs.lemmas.List.{get_or-map, length-map}
use Rattle.aiger_text.specs.Words.{is_numeral}
use Rattle.aiger_text.proofs.HeaderLemmas.{holds_at, digits_of}
use Rattle.aiger_text.proofs.header.word_at.Goals as goal

pub returns-clause-numeral : goal.returns-clause-numeral
returns-clause-numeral c =
    subst (λ (w : List ℕ). is_numeral w ≡ true) (get_or-map (λ word. word.now) c.args.words.now c.args.place _ [] c.requires.place)
    (holds_at is_numeral (map (λ word. word.now) c.args.words.now) c.args.place [] (rw length-map c.requires.place) c.requires.numerals)

pub returns-clause-digits : goal.returns-clause-digits
returns-clause-digits c =
    let words : List (List ℕ) = map (λ word. word.now) c.args.words.now in
    subst (λ (w : List ℕ). list_all is_ascii_digit w ≡ true) (get_or-map (λ word. word.now) c.args.words.now c.args.place _ [] c.requires.place)
    (digits_of (get_or words c.args.place []) (holds_at is_numeral words c.args.place [] (rw length-map c.requires.place) c.requires.numerals))
