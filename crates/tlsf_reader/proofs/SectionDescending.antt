-- What the descent for MAIN reads, step by step.
use Rattle.std.proofs.Common.{◌≡◌, ℕ, suc, true, false, cond, List, [], ◌∷◌, Result, refl, sym, ap, ◌∙◌}
use Rattle.tlsf_tokens.specs.declared.symbol.Symbol.{Symbol}
use Rattle.tlsf_tokens.specs.declared.symbol.Symbol.TheVariants as symbol
use Rattle.tlsf_syntax.specs.Tree as plain
use Rattle.tlsf_syntax.specs.Lexemes.{Lexeme, word_of}
use Rattle.tlsf_syntax.specs.Reading.{Answer, taken, go_on, begins, expect, if_next}
use Rattle.tlsf_syntax.specs.TextReading.{expression_read, declaration_read, declarations_read, formulas_read, part_by, parts_read}
use Rattle.tlsf_reader.specs.declared.rest.Refusal.{Refusal}
use Rattle.tlsf_reader.specs.Descent.{IsRead}
use Rattle.tlsf_reader.specs.TextDescent.{part_at, formula_read}
use Rattle.tlsf_reader.proofs.Descending.{read_same}
use Rattle.tlsf_reader.proofs.TextDescending.{go_expect, go_go, go_same, Until}

pub read_part : {Y : Type 0} {view : Y → plain.Part} {after : List Lexeme} {r : Result Y Refusal} (before rest : List Lexeme) (l : Lexeme) (s : Symbol) → before ≡ l ∷ rest → l.symbol ≡ s
    → IsRead view (λ d. part_by d s rest) after r → IsRead view (λ d. part_at d before) after r
read_part before rest l s e i h = read_same _ (λ d. ap (part_at d) e ∙ ap (λ x. part_by d x rest) i) h

pub parts_until : Until parts_read part_at
parts_until = record { ends = ends; goes = goes_on }
  where
    ends : (d : ℕ) (ls : List Lexeme) → begins symbol.CloseBrace ls ≡ true → parts_read (suc d) ls ≡ taken [] ls
    ends d [] e = absurd (cc)
    ends d (l ∷ ls) e = ap (λ b. cond b (taken [] (l ∷ ls)) (go_on (part_by d l.symbol ls) (λ f rest. go_on (parts_read d rest) (λ fs after. taken (f ∷ fs) after)))) e

    goes_on : (d : ℕ) (ls : List Lexeme) → begins symbol.CloseBrace ls ≡ false → parts_read (suc d) ls ≡ go_on (part_at d ls) (λ f rest. go_on (parts_read d rest) (λ fs after. taken (f ∷ fs) after))
    goes_on d [] e = refl
    goes_on d (l ∷ ls) e = ap (λ b. cond b (taken [] (l ∷ ls)) (go_on (part_by d l.symbol ls) (λ f rest. go_on (parts_read d rest) (λ fs after. taken (f ∷ fs) after)))) e

pub declarations_until : Until declarations_read declaration_read
declarations_until = record {
  ends = λ d ls e. ap (λ b. cond b (taken [] ls) (go_on (declaration_read d ls) (λ x rest. go_on (declarations_read d rest) (λ xs after. taken (x ∷ xs) after)))) e;
  goes = λ d ls e. ap (λ b. cond b (taken [] ls) (go_on (declaration_read d ls) (λ x rest. go_on (declarations_read d rest) (λ xs after. taken (x ∷ xs) after)))) e;
}

abbrev more_formulas : ℕ → plain.Tree → List Lexeme → Answer (List plain.Tree)
more_formulas d x rest = go_on (formulas_read d rest) (λ xs after. taken (x ∷ xs) after)

abbrev formula_with : ℕ → List Lexeme → Answer (List plain.Tree)
formula_with d ls = go_on (expression_read false d ls) (λ t rest. expect symbol.Semicolon rest (λ _ after. more_formulas d t after))

formula_split : (d : ℕ) (ls : List Lexeme) → formula_with d ls ≡ go_on (formula_read d ls) (more_formulas d)
formula_split d ls = sym (
    go_go (expression_read false d ls) (λ t rest. expect symbol.Semicolon rest (λ _ after. taken t after)) (more_formulas d)
    ∙ go_same (expression_read false d ls) (λ t rest. go_on (expect symbol.Semicolon rest (λ _ after. taken t after)) (more_formulas d)) (λ t rest. expect symbol.Semicolon rest (λ _ after. more_formulas d t after)) (λ t rest.
    go_expect symbol.Semicolon rest (λ _ after. taken t after) (more_formulas d)))

pub formulas_until : Until formulas_read formula_read
formulas_until = record {
  ends = λ d ls e. ap (λ b. cond b (taken [] ls) (formula_with d ls)) e;
  goes = λ d ls e. ap (λ b. cond b (taken [] ls) (formula_with d ls)) e ∙ formula_split d ls;
}

-- what a declaration is, where no semicolon stands after its first name

abbrev pub typed_declaration : Lexeme → ℕ → List Lexeme → Answer plain.Declaration
typed_declaration l d next = expect symbol.Ident next (λ n rest. expect symbol.Semicolon rest (λ _ after. taken (record { word = word_of n; shape = plain.typed (word_of l) }) after))

abbrev pub wide_declaration : Lexeme → ℕ → List Lexeme → Answer plain.Declaration
wide_declaration l d next =
    if_next symbol.OpenBracket next (λ _ inner. go_on (expression_read false d inner) (λ t rest. expect symbol.CloseBracket rest (λ _ semicolon_at. expect symbol.Semicolon semicolon_at (λ _ after.
    taken (record { word = word_of l; shape = plain.bus t }) after)))) (typed_declaration l d next)
