-- Bytes that begin with words: which words they are is determined.
use Rattle.std.proofs.Common.{◌≡◌, ℕ, ◌-◌, ◌<◌, ◌≤◌, ◌^◌, Bool, true, false, List, [], ◌∷◌, ◌++◌, length, decimal, append_assoc, refl, sym, subst, ap, ◌∙◌, arith}
use Rattle.std.specs.Prelude.{All, if◌then◌else◌}
use Rattle.std.specs.List.{flat_map}
use Rattle.std.proofs.lemmas.List.{append_cancel_left}
use Rattle.std.proofs.lemmas.List.Elements.{All-head, All-tail, All-cons, All-nil, All-weaker}
use Rattle.names_and_numbers.specs.Numerals.{digit_run, decimal_value, NoDigitNext}
use Rattle.names_and_numbers.proofs.NumeralLemmas.{digit_run-append, decimal_is_numeral, numeral_is_decimal}
use Rattle.propositional_logic.specs.Literal.{Literal}
use Rattle.propositional_logic.specs.Clause.{IsClause, IsRisingFrom, IsWithinVariables}
use Rattle.refutation_log.specs.declared.entries.Entry.{Entry}
use Rattle.refutation_log.specs.Text.{literal_word, hint_word}
use Rattle.refutation_log.specs.Read.{StatesEntry, StatesNumber, IsLiteral, StatesLiterals, IsHint, StatesHints}

-- ---- numbers

pub run_of_number : (n : ℕ) (rest : List ℕ) → n < 2 ^ 64 → NoDigitNext rest → digit_run (decimal n ++ rest) ≡ decimal n
run_of_number n rest small none = digit_run-append (decimal n) rest (decimal_is_numeral n small).digits none

-- two numbers with what isn't a digit after them
pub numbers_same : (n m : ℕ) (r s : List ℕ) → n < 2 ^ 64 → m < 2 ^ 64 → NoDigitNext r → NoDigitNext s → decimal n ++ r ≡ decimal m ++ s → (n ≡ m) × (r ≡ s)
numbers_same n m r s p q dr ds e =
    let digits : decimal n ≡ decimal m = sym (run_of_number n r p dr) ∙ ap digit_run e ∙ run_of_number m s q ds in
    let value : n ≡ m = sym (decimal_is_numeral n p).value ∙ ap decimal_value digits ∙ (decimal_is_numeral m q).value in
    (value, append_cancel_left (decimal m) r s (ap (λ d. d ++ r) (sym digits) ∙ e))

decimal_zero : decimal 0 ≡ 48 ∷ []
decimal_zero = sym (numeral_is_decimal 0 (48 ∷ []) (omega arith) (record { digits = refl; nonempty = omega arith; no_leading_zero = λ _. refl; value = refl }))

-- a number from 1 isn't written `0`
pub not_zero : (n : ℕ) (r s : List ℕ) → 0 < n → n < 2 ^ 64 → NoDigitNext r → NoDigitNext s → decimal n ++ r ≡ 48 ∷ s → ⊥
not_zero n r s from small dr ds e =
    let k = numbers_same n 0 r s small (omega arith) dr ds (e ∙ ap (λ d. d ++ s) (sym decimal_zero)) in
    omega (arith, k.0)

-- a number doesn't begin with what isn't a digit
pub no_number : (n : ℕ) (r bytes : List ℕ) → n < 2 ^ 64 → NoDigitNext r → NoDigitNext bytes → bytes ≡ decimal n ++ r → ⊥
no_number n r bytes small dr none e =
    let empty : decimal n ≡ [] = sym (run_of_number n r small dr) ∙ ap digit_run (sym e) ∙ none in
    let some = (decimal_is_numeral n small).nonempty in
    omega (arith, some, ap length empty)

-- ---- literals and hints

pub literal_bytes : (l : Literal) (rest : List ℕ) → literal_word l ++ rest ≡ (if l.positive then [] else 45 ∷ []) ++ (decimal l.var ++ 32 ∷ rest)
literal_bytes l rest = by (if l.positive then [] else 45 ∷ []) (decimal l.var)
  where
    by : (a b : List ℕ) → ((a ++ b) ++ 32 ∷ []) ++ rest ≡ a ++ (b ++ 32 ∷ rest)
    by a b = simp append_assoc

pub hint_bytes : (h : ℕ) (rest : List ℕ) → hint_word h ++ rest ≡ decimal h ++ 32 ∷ rest
hint_bytes h rest = append_assoc (decimal h) (32 ∷ []) rest

pub small_var : (n : ℕ) → n ≤ 2 ^ 30 → n < 2 ^ 64
small_var n h = omega arith

pub literals_same : (l m : Literal) (r s : List ℕ) → IsLiteral l → IsLiteral m → literal_word l ++ r ≡ literal_word m ++ s → (l ≡ m) × (r ≡ s)
literals_same l m r s p q e = by l.positive m.positive refl refl (sym (literal_bytes l r) ∙ e ∙ literal_bytes m s)
  where
    lv : l.var < 2 ^ 64
    lv = small_var l.var p.small

    mv : m.var < 2 ^ 64
    mv = small_var m.var q.small

    both : (x y : Bool) → l.positive ≡ x → m.positive ≡ y → x ≡ y → decimal l.var ++ 32 ∷ r ≡ decimal m.var ++ 32 ∷ s → (l ≡ m) × (r ≡ s)
    both x y lx my xy f =
        let k = numbers_same l.var m.var (32 ∷ r) (32 ∷ s) lv mv refl refl f in
        let signs : l.positive ≡ m.positive = lx ∙ xy ∙ sym my in
        ((λ i. record { var = k.0 i; positive = signs i }), append_cancel_left (32 ∷ []) r s k.1)

    by : (x y : Bool) → l.positive ≡ x → m.positive ≡ y → (if x then [] else 45 ∷ []) ++ (decimal l.var ++ 32 ∷ r) ≡ (if y then [] else 45 ∷ []) ++ (decimal m.var ++ 32 ∷ s) → (l ≡ m) × (r ≡ s)
    by true true lx my f = both true true lx my refl f
    by false false lx my f = both false false lx my refl (append_cancel_left (45 ∷ []) _ _ f)
    by true false lx my f = absurd (no_number l.var (32 ∷ r) (45 ∷ (decimal m.var ++ 32 ∷ s)) lv refl refl (sym f))
    by false true lx my f = absurd (no_number m.var (32 ∷ s) (45 ∷ (decimal l.var ++ 32 ∷ r)) mv refl refl f)

pub literal_not_end : (l : Literal) (r s : List ℕ) → IsLiteral l → literal_word l ++ r ≡ 48 ∷ 32 ∷ s → ⊥
literal_not_end l r s p e = by l.positive (sym (literal_bytes l r) ∙ e)
  where
    by : (x : Bool) → (if x then [] else 45 ∷ []) ++ (decimal l.var ++ 32 ∷ r) ≡ 48 ∷ 32 ∷ s → ⊥
    by true f = not_zero l.var (32 ∷ r) (32 ∷ s) p.from_one (small_var l.var p.small) refl refl f
    by false f = let k : ◌≡◌ {A = ℕ} 45 48 = cc in omega (arith, k)

pub hints_same : (g h : ℕ) (r s : List ℕ) → IsHint g → IsHint h → hint_word g ++ r ≡ hint_word h ++ s → (g ≡ h) × (r ≡ s)
hints_same g h r s p q e =
    let k = numbers_same g h (32 ∷ r) (32 ∷ s) p.small q.small refl refl (sym (hint_bytes g r) ∙ e ∙ hint_bytes h s) in
    (k.0, append_cancel_left (32 ∷ []) r s k.1)

pub hint_not_end : (h : ℕ) (r s : List ℕ) → IsHint h → hint_word h ++ r ≡ 48 ∷ 10 ∷ s → ⊥
hint_not_end h r s p e = not_zero h (32 ∷ r) (10 ∷ s) p.from_one p.small refl refl (sym (hint_bytes h r) ∙ e)

-- ---- words up to an end

module _ {X : Type 0} (word : X → List ℕ) (P : X → Type 0) (end : List ℕ)
    (same : (x y : X) (r s : List ℕ) → P x → P y → word x ++ r ≡ word y ++ s → (x ≡ y) × (r ≡ s))
    (apart : (x : X) (r s : List ℕ) → P x → word x ++ r ≡ end ++ s → ⊥) where
  -- where words stand before bytes that begin with no word, they are the words up to the end
  pub words_only : (xs ys : List X) (b s : List ℕ) → All P xs → All P ys → flat_map word xs ++ b ≡ flat_map word ys ++ (end ++ s)
      → ((x : X) (r : List ℕ) → P x → b ≡ word x ++ r → ⊥) → (xs ≡ ys) × (b ≡ end ++ s)
  words_only [] [] b s p q e none = (refl, e)
  words_only [] (y ∷ ys) b s p q e none =
      absurd (none y (flat_map word ys ++ (end ++ s)) (All-head P y ys q) (e ∙ append_assoc (word y) (flat_map word ys) (end ++ s)))
  words_only (x ∷ xs) [] b s p q e none =
      absurd (apart x (flat_map word xs ++ b) s (All-head P x xs p) (sym (append_assoc (word x) (flat_map word xs) b) ∙ e))
  words_only (x ∷ xs) (y ∷ ys) b s p q e none =
      let k = same x y (flat_map word xs ++ b) (flat_map word ys ++ (end ++ s)) (All-head P x xs p) (All-head P y ys q)
      (sym (append_assoc (word x) (flat_map word xs) b) ∙ e ∙ append_assoc (word y) (flat_map word ys) (end ++ s)) in
      let t = words_only xs ys b s (All-tail P x xs p) (All-tail P y ys q) k.1 none in
      ((λ i. k.0 i ∷ t.0 i), t.1)

  pub words_same : (xs ys : List X) (r s : List ℕ) → All P xs → All P ys → flat_map word xs ++ (end ++ r) ≡ flat_map word ys ++ (end ++ s) → (xs ≡ ys) × (r ≡ s)
  words_same xs ys r s p q e =
      let k = words_only xs ys (end ++ r) s p q e (λ x t h f. apart x t r h (sym f)) in
      (k.0, append_cancel_left end r s k.1)

-- ---- the parts of a line

pub line_bytes : (a l h r : List ℕ) → (((((a ++ 32 ∷ []) ++ l) ++ 48 ∷ 32 ∷ []) ++ h) ++ 48 ∷ 10 ∷ []) ++ r ≡ a ++ 32 ∷ (l ++ 48 ∷ 32 ∷ (h ++ 48 ∷ 10 ∷ r))
line_bytes a l h r = simp append_assoc

pub number_parts_same : (bytes r s : List ℕ) (n m most : ℕ) → most < 2 ^ 64 → StatesNumber most bytes n r → StatesNumber most bytes m s → (n ≡ m) × (r ≡ s)
number_parts_same bytes r s n m most small p q =
    let ps = p.small in
    let qs = q.small in
    let k = numbers_same n m (32 ∷ r) (32 ∷ s) (omega arith) (omega arith) refl refl (sym p.text ∙ q.text) in
    (k.0, append_cancel_left (32 ∷ []) r s k.1)

pub literal_parts_same : (bytes r s : List ℕ) (ls ms : List Literal) → StatesLiterals bytes ls r → StatesLiterals bytes ms s → (ls ≡ ms) × (r ≡ s)
literal_parts_same bytes r s ls ms p q =
    words_same literal_word IsLiteral (48 ∷ 32 ∷ []) literals_same literal_not_end ls ms r s p.of_literals q.of_literals (sym p.text ∙ q.text)

pub hint_parts_same : (bytes r s : List ℕ) (gs hs : List ℕ) → StatesHints bytes gs r → StatesHints bytes hs s → (gs ≡ hs) × (r ≡ s)
hint_parts_same bytes r s gs hs p q =
    words_same hint_word IsHint (48 ∷ 10 ∷ []) hints_same hint_not_end gs hs r s p.of_hints q.of_hints (sym p.text ∙ q.text)

-- an entry's line, cut into its parts
pub record Parts (vars : ℕ) (bytes : List ℕ) (e : Entry) (rest : List ℕ) : Type 0 where
  pub after_worker : List ℕ
  pub after_literals : List ℕ
  pub worker : StatesNumber (2 ^ 32 - 1) bytes e.by after_worker
  pub literals : StatesLiterals after_worker e.clause after_literals
  pub hinted : StatesHints after_literals e.hints rest
  pub sorted : IsClause e.clause
  pub within : IsWithinVariables vars e.clause

literals_of_clause : (n : ℕ) (ls : List Literal) → IsRisingFrom n ls → IsWithinVariables (2 ^ 30) ls → All IsLiteral ls
literals_of_clause n [] h small = All-nil IsLiteral
literals_of_clause n (l ∷ ls) h small =
    let lt = h.0 in
    All-cons IsLiteral l ls (record { from_one = omega arith; small = All-head (λ (m : Literal). m.var ≤ 2 ^ 30) l ls small })
    (literals_of_clause l.var ls h.1 (All-tail (λ (m : Literal). m.var ≤ 2 ^ 30) l ls small))

pub cut : (vars : ℕ) (bytes : List ℕ) (e : Entry) (rest : List ℕ) → StatesEntry vars bytes e rest → Parts vars bytes e rest
cut vars bytes e rest h =
    let w = h.writable in
    let worker = w.worker in
    record {
      after_worker = flat_map literal_word e.clause ++ 48 ∷ 32 ∷ (flat_map hint_word e.hints ++ 48 ∷ 10 ∷ rest);
      after_literals = flat_map hint_word e.hints ++ 48 ∷ 10 ∷ rest;
      worker = record { small = omega arith; text = h.text ∙ line_bytes (decimal e.by) (flat_map literal_word e.clause) (flat_map hint_word e.hints) rest };
      literals = record { of_literals = literals_of_clause 0 e.clause w.clause w.small; text = refl };
      hinted = record { of_hints = All-weaker (λ g. (0 < g) × (g < 2 ^ 64)) IsHint (λ g p. record { from_one = p.0; small = p.1 }) e.hints w.hints; text = refl };
      sorted = w.clause;
      within = w.within;
    }

pub joined : (vars : ℕ) (bytes : List ℕ) (e : Entry) (rest : List ℕ) → Parts vars bytes e rest → StatesEntry vars bytes e rest
joined vars bytes e rest p =
    let worker = p.worker.small in
    record {
      writable = record {
        worker = omega arith;
        clause = p.sorted;
        within = p.within;
        small = All-weaker IsLiteral (λ l. l.var ≤ 2 ^ 30) (λ l q. q.small) e.clause p.literals.of_literals;
        hints = All-weaker IsHint (λ g. (0 < g) × (g < 2 ^ 64)) (λ g q. (q.from_one, q.small)) e.hints p.hinted.of_hints;
      };
      text = p.worker.text ∙ ap (λ b. decimal e.by ++ 32 ∷ b) (p.literals.text ∙ ap (λ b. flat_map literal_word e.clause ++ 48 ∷ 32 ∷ b) p.hinted.text)
          ∙ sym (line_bytes (decimal e.by) (flat_map literal_word e.clause) (flat_map hint_word e.hints) rest);
    }

-- the parts of one line are determined
pub parts_same : (vars : ℕ) (bytes : List ℕ) (d e : Entry) (r s : List ℕ) → Parts vars bytes d r → Parts vars bytes e s → (d ≡ e) × (r ≡ s)
parts_same vars bytes d e r s p q =
    let k = number_parts_same bytes p.after_worker q.after_worker d.by e.by (2 ^ 32 - 1) (omega arith) p.worker q.worker in
    let l = literal_parts_same p.after_worker p.after_literals q.after_literals d.clause e.clause p.literals
    (subst (λ b. StatesLiterals b e.clause q.after_literals) (sym k.1) q.literals) in
    let h = hint_parts_same p.after_literals r s d.hints e.hints p.hinted (subst (λ b. StatesHints b e.hints s) (sym l.1) q.hinted) in
    ((λ i. record { by = k.0 i; clause = l.0 i; hints = h.0 i }), h.1)

pub entry_same : (vars : ℕ) (bytes : List ℕ) (d e : Entry) (r s : List ℕ) → StatesEntry vars bytes d r → StatesEntry vars bytes e s → (d ≡ e) × (r ≡ s)
entry_same vars bytes d e r s p q = parts_same vars bytes d e r s (cut vars bytes d r p) (cut vars bytes e s q)
