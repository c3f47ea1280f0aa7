-- What the descent for INFO reads, step by step.
use Rattle.std.proofs.Common.{◌≡◌, ℕ, suc, true, false, cond, List, [], ◌∷◌, length, Result, Err, refl, sym, ap, ◌∙◌, subst}
use Rattle.tlsf_tokens.specs.declared.symbol.Symbol.{Symbol}
use Rattle.tlsf_tokens.specs.declared.symbol.Symbol.TheVariants as symbol
use Rattle.tlsf_syntax.specs.Tree as plain
use Rattle.tlsf_syntax.specs.Lexemes.{Lexeme, word_of}
use Rattle.tlsf_syntax.specs.Reading.{Answer, taken, refused, go_on, begins, expect, if_next}
use Rattle.tlsf_syntax.specs.TextReading.{names_read, tags_read, field_by, fields_read}
use Rattle.tlsf_reader.specs.declared.rest.Refusal.{Refusal}
use Rattle.tlsf_reader.specs.Descent.{Eventually, IsRead, Passes, Lacks, Unexpected, Builds}
use Rattle.tlsf_reader.specs.TextDescent.{field_at, in_front}
use Rattle.tlsf_reader.proofs.Descending.{at_once, goes, stops, read_same, next_passes, next_other, expect_refused, expect_passes}
use Rattle.tlsf_reader.proofs.TextDescending.{deeper, Until}

-- names

abbrev names_step : ℕ → Lexeme → List Lexeme → Answer (List plain.Named)
names_step d l rest = if_next symbol.Comma rest (λ _ inner. go_on (names_read d inner) (λ ws after. taken (word_of l ∷ ws) after)) (taken (word_of l ∷ []) rest)

pub names_more : {W : Type 0} {view : W → plain.Named} {before rest inner : List Lexeme} {l comma : Lexeme} {w : W} → Passes symbol.Ident before l rest → Passes symbol.Comma rest comma inner → view w ≡ word_of l
    → Builds (in_front view) (λ d. names_read d before) (w ∷ []) (λ d. names_read d inner)
names_more {view = view} {before = before} {rest = rest} {inner = inner} {l = l} {w = w} p q is = record {
  ok = λ ws after on. subst (λ x. Eventually (λ d. names_read d before) (taken (x ∷ ws) after)) (sym is)
      (deeper (λ d. names_read d before) (λ d. go_on (names_read d inner) (put d)) _ passed (goes put on (at_once _ _ (λ d. refl))));
  err = λ k on. deeper (λ d. names_read d before) (λ d. go_on (names_read d inner) (put d)) _ passed (stops put on);
}
  where
    put : ℕ → List plain.Named → List Lexeme → Answer (List plain.Named)
    put d ws after = taken (word_of l ∷ ws) after

    passed : (d : ℕ) → names_read (suc d) before ≡ go_on (names_read d inner) (put d)
    passed d = expect_passes (names_step d) p ∙ next_passes (λ _ i. go_on (names_read d i) (put d)) (taken (word_of l ∷ []) rest) q

pub names_last : {W : Type 0} {before rest after : List Lexeme} {l : Lexeme} (view : W → plain.Named) (w : W) → Passes symbol.Ident before l rest → Lacks symbol.Comma rest after → view w ≡ word_of l
    → Eventually (λ d. names_read d before) (taken (view w ∷ []) after)
names_last {before = before} {rest = rest} {after = after} {l = l} view w p q is =
    deeper (λ d. names_read d before) (λ d. taken (view w ∷ []) after) _ passed (at_once _ _ (λ d. refl))
  where
    passed : (d : ℕ) → names_read (suc d) before ≡ taken (view w ∷ []) after
    passed d = expect_passes (names_step d) p ∙ next_other (λ _ i. go_on (names_read d i) (λ ws end. taken (word_of l ∷ ws) end)) (λ r. taken (word_of l ∷ []) r) q ∙ ap (λ x. taken (x ∷ []) after) (sym is)

pub names_refused : {Y : Type 0} {view : Y → List plain.Named} {before after : List Lexeme} {e : Refusal} → Unexpected symbol.Ident before e → IsRead view (λ d. names_read d before) after (Err e)
names_refused {before = before} {e = e} u = record {
  ok = λ y is. absurd (cc);
  err = λ k is. let here : length before ≡ k = cc (u.is) in
      deeper (λ d. names_read d before) (λ d. expect symbol.Ident before (names_step d)) _ (λ d. refl) (at_once _ _ (λ d. expect_refused symbol.Ident before (names_step d) u.other ∙ ap refused here));
}

-- tags

abbrev tags_with : List plain.Named → List Lexeme → Answer plain.Field
tags_with ws after = taken (plain.tags ws) after

pub read_tags : {Y : Type 0} {view : Y → plain.Field} {after : List Lexeme} {r : Result Y Refusal} (before : List Lexeme) → begins symbol.Ident before ≡ true → IsRead view (λ d. go_on (names_read d before) tags_with) after r
    → IsRead view (λ d. tags_read d before) after r
read_tags before e h = read_same _ (λ d. ap (λ b. cond b (go_on (names_read d before) tags_with) (taken (plain.tags []) before)) e) h

-- fields and parts by their words

pub read_field : {Y : Type 0} {view : Y → plain.Field} {after : List Lexeme} {r : Result Y Refusal} (before rest : List Lexeme) (l : Lexeme) (s : Symbol) → before ≡ l ∷ rest → l.symbol ≡ s
    → IsRead view (λ d. field_by d s rest) after r → IsRead view (λ d. field_at d before) after r
read_field before rest l s e i h = read_same _ (λ d. ap (field_at d) e ∙ ap (λ x. field_by d x rest) i) h

pub fields_until : Until fields_read field_at
fields_until = record { ends = ends; goes = goes_on }
  where
    ends : (d : ℕ) (ls : List Lexeme) → begins symbol.CloseBrace ls ≡ true → fields_read (suc d) ls ≡ taken [] ls
    ends d [] e = absurd (cc)
    ends d (l ∷ ls) e = ap (λ b. cond b (taken [] (l ∷ ls)) (go_on (field_by d l.symbol ls) (λ f rest. go_on (fields_read d rest) (λ fs after. taken (f ∷ fs) after)))) e

    goes_on : (d : ℕ) (ls : List Lexeme) → begins symbol.CloseBrace ls ≡ false → fields_read (suc d) ls ≡ go_on (field_at d ls) (λ f rest. go_on (fields_read d rest) (λ fs after. taken (f ∷ fs) after))
    goes_on d [] e = refl
    goes_on d (l ∷ ls) e = ap (λ b. cond b (taken [] (l ∷ ls)) (go_on (field_by d l.symbol ls) (λ f rest. go_on (fields_read d rest) (λ fs after. taken (f ∷ fs) after)))) e
