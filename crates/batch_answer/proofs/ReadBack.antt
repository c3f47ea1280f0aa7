-- The bytes of a batch, read back.
use Rattle.std.proofs.Common.{◌≡◌, ◌≢◌, ◌==◌, ◌^◌, ℕ, suc, ◌+◌, ◌<◌, Bool, true, false, List, [], ◌∷◌, ◌++◌, length, refl, sym, ◌∙◌, ap, subst, arith, decimal}
use Rattle.std.specs.Prelude.{None, codes}
use Rattle.std.specs.Char.{is_ascii_digit}
use Rattle.std.specs.Str.{all_ascii_digits}
use Rattle.std.proofs.lemmas.List.{append_assoc, append_cancel_left}
use Rattle.std.proofs.lemmas.List.Elements.{All-cons, All-nil}
use Rattle.std.proofs.lemmas.List.Sums.{count_by-le-length}
use Rattle.std.proofs.lemmas.Fmt.{decimal_injective}
use Rattle.std.proofs.lemmas.Grind.{common_steps}
use Rattle.std.proofs.lemmas.Bool.{and_parts}
use Rattle.names_and_numbers.proofs.NumeralLemmas.{decimal_is_numeral}
use Rattle.batch_run.specs.Answers.{AreAnswers}
use Rattle.synth_engine.specs.declared.settings.Settings.{Settings}
use Rattle.synth_engine.specs.Settings.{alone}
use Rattle.synth_answer.specs.Answer.{Answers, refused, realizable, unrealizable, bounded, no_size, no_entries}
use Rattle.batch_answer.specs.ListText.{IsOneLine}
use Rattle.batch_answer.specs.Batch.{AreLines, IsPartFor, Part, batch_text, part_text}
use Rattle.program_replies.specs.Lines.{line_count}
use Rattle.batch_answer.specs.Laws.{BatchesAreReadBack}
use Rattle.batch_answer.proofs.ListLemmas.{cut_same, heads, tails}
use Rattle.batch_answer.proofs.WholeLines.{answers_are_lines}

-- == numbers ==

no_end : (byte : ℕ) → is_ascii_digit byte ≡ true → byte ≢ 10
no_end byte digit end = let never : ◌≡◌ {A = Bool} false true = ap is_ascii_digit (sym end) ∙ digit in absurd (cc)

digits_in_line : (digits : List ℕ) → all_ascii_digits digits ≡ true → IsOneLine digits
digits_in_line [] all = All-nil (λ byte. byte ≢ 10)
digits_in_line (c ∷ cs) all =
    let parts = and_parts (is_ascii_digit c) (all_ascii_digits cs) all in
    All-cons (λ byte. byte ≢ 10) c cs (no_end c parts.0) (digits_in_line cs parts.1)

-- a number that is behind the same bytes and before a line end
number_same : (m n : ℕ) (rest more : List ℕ) → m < 2 ^ 64 → n < 2 ^ 64 → decimal m ++ 10 ∷ rest ≡ decimal n ++ 10 ∷ more → (m ≡ n) × (rest ≡ more)
number_same m n rest more small little e =
    let cut = cut_same (decimal m) (decimal n) rest more (digits_in_line (decimal m) (decimal_is_numeral m small).digits)
    (digits_in_line (decimal n) (decimal_is_numeral n little).digits) e in
    (decimal_injective m n small little cut.0, cut.1)

-- == lines ==

abbrev is_end : ℕ → Bool
is_end byte = byte == 10

-- whole lines have a line end, if they have a byte
some_end : (byte : ℕ) (bytes : List ℕ) → AreLines (byte ∷ bytes) → 0 < line_count (byte ∷ bytes)
some_end byte [] are = rw are (omega arith)
some_end byte (next ∷ more) are = let later = some_end next more are in grind (arith, common_steps)

later_lines : (byte : ℕ) (bytes : List ℕ) → AreLines (byte ∷ bytes) → AreLines bytes
later_lines byte [] are = tt
later_lines byte (next ∷ more) are = are

-- as many whole lines in front of the same bytes are the same
lines_same : (xs ys rest more : List ℕ) → line_count xs ≡ line_count ys → AreLines xs → AreLines ys → xs ++ rest ≡ ys ++ more → (xs ≡ ys) × (rest ≡ more)
lines_same [] [] rest more count are too e = (refl, e)
lines_same [] (y ∷ ys) rest more count are too e = let some = some_end y ys too in absurd (omega (arith, count, some))
lines_same (x ∷ xs) [] rest more count are too e = let some = some_end x xs are in absurd (omega (arith, count, some))
lines_same (x ∷ xs) (y ∷ ys) rest more count are too e =
    let first : x ≡ y = heads x y (xs ++ rest) (ys ++ more) e in
    let counts : line_count (x ∷ xs) ≡ line_count (x ∷ ys) = count ∙ ap (λ b. line_count (b ∷ ys)) (sym first) in
    let fewer : line_count xs ≡ line_count ys = grind (arith, common_steps) in
    let later = lines_same xs ys rest more fewer (later_lines x xs are) (later_lines y ys too) (tails x y (xs ++ rest) (ys ++ more) e) in
    let whole : x ∷ xs ≡ y ∷ ys = let others : xs ≡ ys = later.0 in cc in
    (whole, later.1)

-- == parts ==

-- what makes a part readable
pub record IsPlain (p : Part) : Type 0 where
  pub status : p.status < 2 ^ 64
  pub count : line_count p.lines < 2 ^ 64
  pub lines : AreLines p.lines

shape : (front status words count end lines rest : List ℕ) →
    (front ++ status ++ words ++ count ++ end ++ lines) ++ rest ≡ front ++ (status ++ (words ++ (count ++ (end ++ (lines ++ rest)))))
shape front status words count end lines rest =
    append_assoc (front ++ status ++ words ++ count ++ end) lines rest
    ∙ append_assoc (front ++ status ++ words ++ count) end (lines ++ rest)
    ∙ append_assoc (front ++ status ++ words) count (end ++ (lines ++ rest))
    ∙ append_assoc (front ++ status) words (count ++ (end ++ (lines ++ rest)))
    ∙ append_assoc front status (words ++ (count ++ (end ++ (lines ++ rest))))

part_same : (name : List ℕ) (p q : Part) (rest more : List ℕ) → IsPlain p → IsPlain q → part_text name p ++ rest ≡ part_text name q ++ more → (p ≡ q) × (rest ≡ more)
part_same name p q rest more plain other e =
    let front : List ℕ = codes "text " ++ name ++ codes "\nstatus " in
    let one = shape front (decimal p.status) (codes "\nlines ") (decimal (line_count p.lines)) (codes "\n") p.lines rest in
    let two = shape front (decimal q.status) (codes "\nlines ") (decimal (line_count q.lines)) (codes "\n") q.lines more in
    let left : List ℕ = codes "lines " ++ (decimal (line_count p.lines) ++ 10 ∷ (p.lines ++ rest)) in
    let right : List ℕ = codes "lines " ++ (decimal (line_count q.lines) ++ 10 ∷ (q.lines ++ more)) in
    let behind : decimal p.status ++ 10 ∷ left ≡ decimal q.status ++ 10 ∷ right =
    append_cancel_left front (decimal p.status ++ 10 ∷ left) (decimal q.status ++ 10 ∷ right) (sym one ∙ e ∙ two) in
    let statuses = number_same p.status q.status left right plain.status other.status behind in
    let counted : decimal (line_count p.lines) ++ 10 ∷ (p.lines ++ rest) ≡ decimal (line_count q.lines) ++ 10 ∷ (q.lines ++ more) =
    append_cancel_left (codes "lines ") (decimal (line_count p.lines) ++ 10 ∷ (p.lines ++ rest)) (decimal (line_count q.lines) ++ 10 ∷ (q.lines ++ more)) statuses.1 in
    let counts = number_same (line_count p.lines) (line_count q.lines) (p.lines ++ rest) (q.lines ++ more) plain.count other.count counted in
    let lines = lines_same p.lines q.lines rest more counts.0 plain.lines other.lines counts.1 in
    let status_is : p.status ≡ q.status = statuses.0 in
    let lines_are : p.lines ≡ q.lines = lines.0 in
    (λ k. record { status = status_is k; lines = lines_are k }, lines.1)

-- == all parts ==

small_status : (text : List ℕ) (settings : Settings) (bytes : List ℕ) (status : ℕ) → Answers text None settings bytes status → status < 2 ^ 64
small_status text settings bytes status (refused code position is fault line) = omega (arith, is)
small_status text settings bytes status (realizable p n c is holds) = omega (arith, is)
small_status text settings bytes status (unrealizable p n c is holds) = omega (arith, is)
small_status text settings bytes status (bounded p side n c is holds) = omega (arith, is)
small_status text settings bytes status (no_size p is holds) = omega (arith, is)
small_status text settings bytes status (no_entries p side n is holds) = omega (arith, is)

-- the first of some texts, which the first part answers, and the other ones
record Begins (settings : Settings) (texts : List (List ℕ)) (p : Part) (parts : List Part) : Type 0 where
  text : List ℕ
  later : List (List ℕ)
  here : IsPartFor settings text p
  each : AreAnswers (IsPartFor settings) later parts
  long : length texts ≡ length later + 1

begins : (settings : Settings) (texts : List (List ℕ)) (p : Part) (parts : List Part) → AreAnswers (IsPartFor settings) texts (p ∷ parts) → Begins settings texts p parts
begins settings [] p parts are = let count = are.count in absurd (omega (arith, count))
begins settings (t ∷ texts) p parts are = record {
  text = t;
  later = texts;
  here = are.each 0 t p refl refl;
  each = record { count = let count = are.count in omega (arith, count); each = λ k text part at there. are.each (suc k) text part at there };
  long = omega arith;
}

lines_short : (name : List ℕ) (p : Part) (rest : List ℕ) → length (part_text name p ++ rest) < 2 ^ 64 → (line_count p.lines < 2 ^ 64) × (length rest < 2 ^ 64)
lines_short name p rest short =
    let front : List ℕ = codes "text " ++ name ++ codes "\nstatus " ++ decimal p.status ++ codes "\nlines " ++ decimal (line_count p.lines) ++ codes "\n" in
    let whole : length ((front ++ p.lines) ++ rest) ≡ (length front + length p.lines) + length rest = grind (arith, common_steps) in
    let few = count_by-le-length is_end p.lines in
    (omega (arith, whole, few, short), omega (arith, whole, short))

plain_part : (settings : Settings) (text : List ℕ) (p : Part) → IsPartFor settings text p → line_count p.lines < 2 ^ 64 → IsPlain p
plain_part settings text p answer few = record {
  status = small_status text (alone settings) p.lines p.status answer;
  count = few;
  lines = answers_are_lines text None (alone settings) p.lines p.status answer;
}

read_back : (settings limits : Settings) (names : List (List ℕ)) (ps qs : List Part) (texts others : List (List ℕ)) → length names ≡ length texts → length names ≡ length others
    → AreAnswers (IsPartFor settings) texts ps → AreAnswers (IsPartFor limits) others qs → length (batch_text names ps) < 2 ^ 64 → length (batch_text names qs) < 2 ^ 64
    → batch_text names ps ≡ batch_text names qs → ps ≡ qs
read_back settings limits [] [] [] texts others one_each one_other are too short little e = refl
read_back settings limits [] (p ∷ ps) qs texts others one_each one_other are too short little e = let count = are.count in absurd (omega (arith, one_each, count))
read_back settings limits [] [] (q ∷ qs) texts others one_each one_other are too short little e = let count = too.count in absurd (omega (arith, one_other, count))
read_back settings limits (name ∷ names) [] qs texts others one_each one_other are too short little e = let count = are.count in absurd (omega (arith, one_each, count))
read_back settings limits (name ∷ names) (p ∷ ps) [] texts others one_each one_other are too short little e = let count = too.count in absurd (omega (arith, one_other, count))
read_back settings limits (name ∷ names) (p ∷ ps) (q ∷ qs) texts others one_each one_other are too short little e =
    let a = begins settings texts p ps are in
    let b = begins limits others q qs too in
    let few = lines_short name p (batch_text names ps) short in
    let fewer = lines_short name q (batch_text names qs) little in
    let same = part_same name p q (batch_text names ps) (batch_text names qs) (plain_part settings a.text p a.here few.0) (plain_part limits b.text q b.here fewer.0) e in
    let long = a.long in
    let longer = b.long in
    let each : length names ≡ length a.later = omega (arith, one_each, long) in
    let other : length names ≡ length b.later = omega (arith, one_other, longer) in
    let later = read_back settings limits names ps qs a.later b.later each other a.each b.each few.1 fewer.1 same.1 in
    let first : p ≡ q = same.0 in
    λ k. first k ∷ later k

pub batches_are_read_back : BatchesAreReadBack
batches_are_read_back names texts others settings limits bytes short a b =
    read_back settings limits names a.parts b.parts texts others a.one_each b.one_each a.each b.each
    (subst (λ l. length l < 2 ^ 64) a.text short) (subst (λ l. length l < 2 ^ 64) b.text short) (sym a.text ∙ b.text)
