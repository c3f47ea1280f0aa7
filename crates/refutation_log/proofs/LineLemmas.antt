-- How the parts of an entry line are read.
use Rattle.std.proofs.Common.{◌≡◌, ◌≢◌, ℕ, ◌-◌, ◌^◌, Bool, true, false, List, [], ◌∷◌, ◌++◌, decimal, append_assoc, refl, sym, subst, ap, ◌∙◌, true≢false, arith}
use Rattle.std.specs.Prelude.{All, if◌then◌else◌}
use Rattle.std.specs.Bool.{OnTrue}
use Rattle.std.specs.List.{flat_map}
use Rattle.std.proofs.lemmas.List.{append_cancel_left}
use Rattle.std.proofs.lemmas.List.Elements.{All-push}
use Rattle.std.proofs.lemmas.Grind.{flat_map-append}
use Rattle.propositional_logic.specs.Literal.{Literal}
use Rattle.propositional_logic.specs.Clause.{IsClause, IsClauseOf, IsWithinVariables, clause_eq}
use Rattle.propositional_logic.specs.Equality.{Decides-clause_eq}
use Rattle.propositional_logic.proofs.Rising.{rising_one}
use Rattle.refutation_log.specs.declared.entries.Entry.{Entry}
use Rattle.refutation_log.specs.Text.{literal_word, hint_word, entry_line, IsWritable}
use Rattle.refutation_log.specs.Read.{StatesEntry, StatesEntries, StatesNumber, IsLiteral, StatesLiteral, StatesLiterals, IsHint, StatesHint, StatesHints}
use Rattle.refutation_log.proofs.Words.{no_number, literal_bytes, hint_bytes, words_only, literals_same, literal_not_end, hints_same, hint_not_end, Parts, cut, joined, number_parts_same, literal_parts_same, small_var}

-- ---- a literal, a hint

-- a literal is stated exactly where its number is, after its sign
pub number_of_literal : (bytes digits : List ℕ) (positive : Bool) → bytes ≡ (if positive then [] else 45 ∷ []) ++ digits → OnTrue positive ((rest : List ℕ) → bytes ≢ 45 ∷ rest)
    → (l : Literal) (rest : List ℕ) → StatesLiteral bytes l rest → StatesNumber (2 ^ 30) digits l.var rest
number_of_literal bytes digits positive text none l rest h = record { small = h.of_literal.small; text = by positive l.positive text none (h.text ∙ literal_bytes l rest) }
  where
    by : (x y : Bool) → bytes ≡ (if x then [] else 45 ∷ []) ++ digits → OnTrue x ((rest : List ℕ) → bytes ≢ 45 ∷ rest)
        → bytes ≡ (if y then [] else 45 ∷ []) ++ (decimal l.var ++ 32 ∷ rest) → digits ≡ decimal l.var ++ 32 ∷ rest
    by true true t n e = sym t ∙ e
    by false false t n e = append_cancel_left (45 ∷ []) digits (decimal l.var ++ 32 ∷ rest) (sym t ∙ e)
    by true false t n e = absurd (n (decimal l.var ++ 32 ∷ rest) e)
    by false true t n e = absurd (no_number l.var (32 ∷ rest) (45 ∷ digits) (small_var l.var h.of_literal.small) refl refl (sym t ∙ e))

-- no literal has the variable 0
pub no_literal_zero : (bytes digits r : List ℕ) (positive : Bool) → bytes ≡ (if positive then [] else 45 ∷ []) ++ digits → OnTrue positive ((rest : List ℕ) → bytes ≢ 45 ∷ rest)
    → StatesNumber (2 ^ 30) digits 0 r → (l : Literal) (rest : List ℕ) → StatesLiteral bytes l rest → ⊥
no_literal_zero bytes digits r positive text none z l rest h =
    let k = number_parts_same digits r rest 0 l.var (2 ^ 30) (omega arith) z (number_of_literal bytes digits positive text none l rest h) in
    let from = h.of_literal.from_one in
    omega (arith, k.0)

pub number_of_hint : (bytes : List ℕ) (h : ℕ) (rest : List ℕ) → StatesHint bytes h rest → StatesNumber (2 ^ 64 - 1) bytes h rest
number_of_hint bytes h rest s = let small = s.of_hint.small in record { small = omega arith; text = s.text ∙ hint_bytes h rest }

pub no_hint_zero : (bytes r : List ℕ) → StatesNumber (2 ^ 64 - 1) bytes 0 r → (h : ℕ) (rest : List ℕ) → StatesHint bytes h rest → ⊥
no_hint_zero bytes r z h rest s =
    let k = number_parts_same bytes r rest 0 h (2 ^ 64 - 1) (omega arith) z (number_of_hint bytes h rest s) in
    let from = s.of_hint.from_one in
    omega (arith, k.0)

-- ---- words read one by one

-- these words come first, and the rest after them
pub record Reads {X : Type 0} (word : X → List ℕ) (P : X → Type 0) (bytes : List ℕ) (xs : List X) (rest : List ℕ) : Type 0 where
  pub each : All P xs
  pub text : bytes ≡ flat_map word xs ++ rest

pub reads_more : {X : Type 0} (word : X → List ℕ) (P : X → Type 0) (bytes : List ℕ) (xs : List X) (rest after : List ℕ) (x : X)
    → Reads word P bytes xs rest → P x → rest ≡ word x ++ after → Reads word P bytes (xs ++ x ∷ []) after
reads_more word P bytes xs rest after x h p e = record {
  each = All-push P xs x h.each p;
  text = h.text ∙ ap (λ b. flat_map word xs ++ b) e ∙ sym (append_assoc (flat_map word xs) (word x) after)
      ∙ ap (λ b. b ++ after) (sym (flat_map-append word xs (x ∷ []) ∙ ap (λ b. flat_map word xs ++ b) (append_nil (word x))));
}
  where
    append_nil : (ys : List ℕ) → ys ++ [] ≡ ys
    append_nil [] = refl
    append_nil (y ∷ ys) = ap (λ t. y ∷ t) (append_nil ys)

pub no_literals : (bytes : List ℕ) (ls : List Literal) (rest : List ℕ) → Reads literal_word IsLiteral bytes ls rest → ((l : Literal) (r : List ℕ) → StatesLiteral rest l r → ⊥)
    → ((after : List ℕ) → rest ≢ 48 ∷ 32 ∷ after) → (ms : List Literal) (after : List ℕ) → StatesLiterals bytes ms after → ⊥
no_literals bytes ls rest h none end ms after s =
    end after (words_only literal_word IsLiteral (48 ∷ 32 ∷ []) literals_same literal_not_end ls ms rest after h.each s.of_literals (sym h.text ∙ s.text)
    (λ x r p e. none x r (record { of_literal = p; text = e }))).1

pub no_hints : (bytes : List ℕ) (hs : List ℕ) (rest : List ℕ) → Reads hint_word IsHint bytes hs rest → ((x : ℕ) (r : List ℕ) → StatesHint rest x r → ⊥)
    → ((after : List ℕ) → rest ≢ 48 ∷ 10 ∷ after) → (gs : List ℕ) (after : List ℕ) → StatesHints bytes gs after → ⊥
no_hints bytes hs rest h none end gs after s =
    end after (words_only hint_word IsHint (48 ∷ 10 ∷ []) hints_same hint_not_end hs gs rest after h.each s.of_hints (sym h.text ∙ s.text)
    (λ x r p e. none x r (record { of_hint = p; text = e }))).1

-- ---- the clause

pub same_clause : (lits clause : List Literal) → clause_eq clause lits ≡ true → clause ≡ lits
same_clause lits clause e = (Decides-clause_eq clause lits).0 e

pub other_clause : (vars : ℕ) (lits clause : List Literal) → IsClauseOf lits clause → clause_eq clause lits ≡ false → IsClause lits → IsWithinVariables vars lits → ⊥
other_clause vars lits clause of differs sorted within =
    true≢false (sym ((Decides-clause_eq clause lits).1 (rising_one 0 clause lits of.sorted sorted of.same_literals)) ∙ differs)

-- ---- an entry from its parts

module _ (vars : ℕ) (bytes : List ℕ) where
  pub no_entry_by_literals : (by : ℕ) (b : List ℕ) → StatesNumber (2 ^ 32 - 1) bytes by b → ((ls : List Literal) (r : List ℕ) → StatesLiterals b ls r → ⊥)
      → (e : Entry) (rest : List ℕ) → StatesEntry vars bytes e rest → ⊥
  no_entry_by_literals by b worker none e rest h =
      let p = cut vars bytes e rest h in
      let k = number_parts_same bytes b p.after_worker by e.by (2 ^ 32 - 1) (omega arith) worker p.worker in
      none e.clause p.after_literals (subst (λ t. StatesLiterals t e.clause p.after_literals) (sym k.1) p.literals)

  -- the same literals, and the same bytes after them
  after_lits : (by : ℕ) (b d : List ℕ) (ls : List Literal) → StatesNumber (2 ^ 32 - 1) bytes by b → StatesLiterals b ls d
      → (e : Entry) (rest : List ℕ) (p : Parts vars bytes e rest) → (ls ≡ e.clause) × (d ≡ p.after_literals)
  after_lits by b d ls worker literals e rest p =
      let k = number_parts_same bytes b p.after_worker by e.by (2 ^ 32 - 1) (omega arith) worker p.worker in
      literal_parts_same b d p.after_literals ls e.clause literals (subst (λ t. StatesLiterals t e.clause p.after_literals) (sym k.1) p.literals)

  pub no_entry_by_hints : (by : ℕ) (b d : List ℕ) (ls : List Literal) → StatesNumber (2 ^ 32 - 1) bytes by b → StatesLiterals b ls d
      → ((hs : List ℕ) (r : List ℕ) → StatesHints d hs r → ⊥) → (e : Entry) (rest : List ℕ) → StatesEntry vars bytes e rest → ⊥
  no_entry_by_hints by b d ls worker literals none e rest h =
      let p = cut vars bytes e rest h in
      let k = after_lits by b d ls worker literals e rest p in
      none e.hints rest (subst (λ t. StatesHints t e.hints rest) (sym k.1) p.hinted)

  pub no_entry_by_clause : (by : ℕ) (b d : List ℕ) (ls : List Literal) → StatesNumber (2 ^ 32 - 1) bytes by b → StatesLiterals b ls d
      → (IsClause ls → IsWithinVariables vars ls → ⊥) → (e : Entry) (rest : List ℕ) → StatesEntry vars bytes e rest → ⊥
  no_entry_by_clause by b d ls worker literals none e rest h =
      let p = cut vars bytes e rest h in
      let k = after_lits by b d ls worker literals e rest p in
      none (subst (λ (c : List Literal). IsClause c) (sym k.0) p.sorted) (subst (λ (c : List Literal). IsWithinVariables vars c) (sym k.0) p.within)

  pub entry_of_parts : (by : ℕ) (b d rest : List ℕ) (ls clause : List Literal) (numbers hints : List ℕ) → StatesNumber (2 ^ 32 - 1) bytes by b → StatesLiterals b ls d
      → StatesHints d numbers rest → (clause ≡ ls) × IsClause ls × IsWithinVariables vars ls → hints ≡ numbers
      → StatesEntry vars bytes (record { by = by; clause = clause; hints = hints }) rest
  entry_of_parts by b d rest ls clause numbers hints worker literals hinted is same =
      let e : Entry = record { by = by; clause = ls; hints = numbers } in
      let made = joined vars bytes e rest (record { after_worker = b; after_literals = d; worker = worker; literals = literals; hinted = hinted; sorted = is.1; within = is.2 }) in
      let back : e ≡ record { by = by; clause = clause; hints = hints } = λ i. record { by = by; clause = sym is.0 i; hints = sym same i } in
      subst (λ (x : Entry). StatesEntry vars bytes x rest) back made

-- ---- lines one after another

pub lines_more : (vars : ℕ) (bytes : List ℕ) (es : List Entry) (rest after : List ℕ) (e : Entry) → StatesEntries vars bytes es rest → StatesEntry vars rest e after
    → StatesEntries vars bytes (es ++ e ∷ []) after
lines_more vars bytes es rest after e h s =
    let k = reads_more entry_line (IsWritable vars) bytes es rest after e (record { each = h.writable; text = h.text }) s.writable s.text in
    record { writable = k.each; text = k.text }
