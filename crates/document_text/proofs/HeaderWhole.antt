-- A header as a whole: it has no bad line exactly where its text stands there.
use Rattle.std.proofs.Common.{◌≡◌, ℕ, zero, suc, ◌+◌, ◌^◌, ◌<◌, ◌≤◌, ◌==◌, Bool, true, false, cond, Option, Some, None, List, [], ◌∷◌, ◌++◌, refl, sym, ap, subst, ◌∙◌, arith, decimal, append_assoc, inl, inr}
use Rattle.std.specs.Prelude.{option_map, option_and_then, codes, unwrap_or, nat_le, IfSome}
use Rattle.std.specs.List.{list_all}
use Rattle.std.specs.Str.{bytes_eq}
use Rattle.std.specs.Char.{is_ascii_digit}
use Rattle.std.specs.Cmp.Lexicographic.{bytes_decides}
use Rattle.std.proofs.lemmas.Bool.{eqb-true, le-leb, leb-true, or_cases, and_parts, and_from}
use Rattle.std.proofs.lemmas.List.{append_cancel_left}
use Rattle.std_lemmas.proofs.Options.{mapped_some}
use Rattle.letters_and_lassos.specs.declared.kinds.Kind.{Kind}
use Rattle.letters_and_lassos.specs.declared.kinds.Kind.TheVariants.{Mealy, Moore}
use Rattle.aiger_text.specs.Words.{number_within}
use Rattle.aiger_text.specs.CircuitText.{text_of_lines}
use Rattle.aiger_text.proofs.Numbers.{Lacks, all_digits, number_within-decimal}
use Rattle.document_text.specs.declared.documents.Verdict.{Verdict}
use Rattle.document_text.specs.declared.documents.Verdict.TheVariants.{Machine, Unknown}
use Rattle.document_text.specs.declared.header.Header.{Header}
use Rattle.document_text.specs.Lines.{version_line, verdict_line, kind_line, max_line, entries_line, found_lines}
use Rattle.document_text.specs.Order.{fits_max, fits_version, has_its_place, is_in_range, is_version, may_tell_found}
use Rattle.document_text.specs.Header.{entries_in, found_at, found_in, front, header_of, kind_in, max_in, on_entries, on_found, on_kind, on_max, on_verdict, on_version, verdict_in, version_in, version_number, behind, in_range}
use Rattle.document_text.specs.WellFormed.{IsFoundNumber}
use Rattle.document_text.proofs.LineRead.{IsInRange, in_range_is, in_range_read, range_is, range_read, follows_words, words_read, number_is, front_is, front_read, text_lacks, words_lack}
use Rattle.document_text.proofs.VerdictRead.{number_in, any_verdict_is, verdict_parts, verdict_read, verdict_lacks}

-- ---- lines one after the other

pub first_line : (line : List ℕ) (lines : List (List ℕ)) (rest : List ℕ) → line ++ 10 ∷ (text_of_lines lines ++ rest) ≡ text_of_lines (line ∷ lines) ++ rest
first_line line lines rest =
    sym (append_assoc (line ++ 10 ∷ []) (text_of_lines lines) rest ∙ append_assoc line (10 ∷ []) (text_of_lines lines ++ rest))

pub five_lines : (b0 b1 b2 b3 b4 b5 l1 l2 l3 l4 l5 : List ℕ) → b0 ≡ l1 ++ 10 ∷ b1 → b1 ≡ l2 ++ 10 ∷ b2 → b2 ≡ l3 ++ 10 ∷ b3 → b3 ≡ l4 ++ 10 ∷ b4 → b4 ≡ l5 ++ 10 ∷ b5
    → b0 ≡ text_of_lines (l1 ∷ l2 ∷ l3 ∷ l4 ∷ l5 ∷ []) ++ b5
five_lines b0 b1 b2 b3 b4 b5 l1 l2 l3 l4 l5 e1 e2 e3 e4 e5 =
    let a5 : b4 ≡ text_of_lines (l5 ∷ []) ++ b5 = e5 ∙ first_line l5 [] b5 in
    let a4 : b3 ≡ text_of_lines (l4 ∷ l5 ∷ []) ++ b5 = e4 ∙ ap (λ (b : List ℕ). l4 ++ 10 ∷ b) a5 ∙ first_line l4 (l5 ∷ []) b5 in
    let a3 : b2 ≡ text_of_lines (l3 ∷ l4 ∷ l5 ∷ []) ++ b5 = e3 ∙ ap (λ (b : List ℕ). l3 ++ 10 ∷ b) a4 ∙ first_line l3 (l4 ∷ l5 ∷ []) b5 in
    let a2 : b1 ≡ text_of_lines (l2 ∷ l3 ∷ l4 ∷ l5 ∷ []) ++ b5 = e2 ∙ ap (λ (b : List ℕ). l2 ++ 10 ∷ b) a3 ∙ first_line l2 (l3 ∷ l4 ∷ l5 ∷ []) b5 in
    e1 ∙ ap (λ (b : List ℕ). l1 ++ 10 ∷ b) a2 ∙ first_line l1 (l2 ∷ l3 ∷ l4 ∷ l5 ∷ []) b5

-- ---- the line of entries

-- a number isn't the word `none`
never_none : (n : ℕ) → n < 2 ^ 64 → (b : Bool) → bytes_eq (codes "entries " ++ decimal n) (codes "entries none") ≡ b → b ≡ false
never_none n small true e =
    let same : decimal n ≡ codes "none" = append_cancel_left (codes "entries ") (decimal n) (codes "none") ((bytes_decides (codes "entries " ++ decimal n) (codes "entries none")).0 e) in
    let digits : ◌≡◌ {A = Bool} false true = ap (list_all is_ascii_digit) (sym same) ∙ all_digits n small in
    absurd (cc)
never_none n small false e = refl

pub entries_read : (entries : Option ℕ) → IfSome entries (λ most. most ≤ 250000) → entries_in (entries_line entries) ≡ Some entries
entries_read None within = refl
entries_read (Some n) within =
    let other : bytes_eq (codes "entries " ++ decimal n) (codes "entries none") ≡ false =
    never_none n (omega arith) (bytes_eq (codes "entries " ++ decimal n) (codes "entries none")) refl in
    ap (λ b. cond b (Some None) (option_and_then (λ word. option_map (λ n. Some n) (number_within 250000 word)) (behind (codes "entries ") (codes "entries " ++ decimal n)))) other
    ∙ words_read (codes "entries ") (decimal n) (λ word. option_map (λ n. Some n) (number_within 250000 word)) (Some n)
    (ap (option_map (λ n. Some n)) (number_within-decimal n (omega arith) 250000 within))

pub record IsEntries (line : List ℕ) (entries : Option ℕ) : Type 0 where
  pub line_is : line ≡ entries_line entries
  pub within : IfSome entries (λ most. most ≤ 250000)

entries_some : (line : List ℕ) (n : ℕ) (entries : Option ℕ) → line ≡ entries_line (Some n) → n ≤ 250000 → Some n ≡ entries → IsEntries line entries
entries_some line n entries is le e = subst (λ (o : Option ℕ). IsEntries line o) e (record { line_is = is; within = le })

entries_by : (line : List ℕ) (entries : Option ℕ) (b : Bool) → bytes_eq line (codes "entries none") ≡ b
    → cond b (Some None) (option_and_then (λ word. option_map (λ n. Some n) (number_within 250000 word)) (behind (codes "entries ") line)) ≡ Some entries → IsEntries line entries
entries_by line entries true e is =
    let none : None ≡ entries = ap (λ (o : Option (Option ℕ)). unwrap_or o None) is in
    subst (λ (o : Option ℕ). IsEntries line o) none (record { line_is = (bytes_decides line (codes "entries none")).0 e; within = tt })
entries_by line entries false e is =
    let k = follows_words (codes "entries ") line (λ word. option_map (λ n. Some n) (number_within 250000 word)) entries is in
    let m = mapped_some (λ (n : ℕ). Some n) (number_within 250000 k.0) entries k.2 in
    let w = number_is 250000 m.0 k.0 (omega arith) m.1 in
    entries_some line m.0 entries (k.1 ∙ ap (λ (t : List ℕ). codes "entries " ++ t) w.word_is) w.within m.2

pub entries_is : (line : List ℕ) (entries : Option ℕ) → entries_in line ≡ Some entries → IsEntries line entries
entries_is line entries is = entries_by line entries (bytes_eq line (codes "entries none")) refl is

pub entries_lacks : (entries : Option ℕ) → IfSome entries (λ most. most ≤ 250000) → Lacks 10 (entries_line entries)
entries_lacks None within = words_lack (codes "entries none") refl
entries_lacks (Some n) within = text_lacks (codes "entries ") n (words_lack (codes "entries ") refl) (omega arith)

-- ---- the line of the kind

pub kind_read : (kind : Kind) → kind_in (kind_line kind) ≡ Some kind
kind_read Mealy = refl
kind_read Moore = refl

pub kind_lacks : (kind : Kind) → Lacks 10 (kind_line kind)
kind_lacks Mealy = words_lack (codes "kind Mealy") refl
kind_lacks Moore = words_lack (codes "kind Moore") refl

kind_moore : (line : List ℕ) (kind : Kind) (b : Bool) → bytes_eq line (codes "kind Moore") ≡ b → cond b (Some Moore) None ≡ Some kind → line ≡ kind_line kind
kind_moore line kind true e is = (bytes_decides line (codes "kind Moore")).0 e ∙ ap kind_line (ap (λ (o : Option Kind). unwrap_or o Moore) is)
kind_moore line kind false e is = absurd (cc)

kind_by : (line : List ℕ) (kind : Kind) (b : Bool) → bytes_eq line (codes "kind Mealy") ≡ b
    → cond b (Some Mealy) (cond (bytes_eq line (codes "kind Moore")) (Some Moore) None) ≡ Some kind → line ≡ kind_line kind
kind_by line kind true e is = (bytes_decides line (codes "kind Mealy")).0 e ∙ ap kind_line (ap (λ (o : Option Kind). unwrap_or o Mealy) is)
kind_by line kind false e is = kind_moore line kind (bytes_eq line (codes "kind Moore")) refl is

pub kind_is : (line : List ℕ) (kind : Kind) → kind_in line ≡ Some kind → line ≡ kind_line kind
kind_is line kind is = kind_by line kind (bytes_eq line (codes "kind Mealy")) refl is

-- ---- ranges as tests

pub in_range_true : (least most n : ℕ) → least ≤ n → n ≤ most → is_in_range least most n ≡ true
in_range_true least most n low high = and_from (nat_le least n) (nat_le n most) (le-leb least n low) (le-leb n most high)

pub in_range_bounds : (least most n : ℕ) → is_in_range least most n ≡ true → (least ≤ n) × (n ≤ most)
in_range_bounds least most n is = let k = and_parts (nat_le least n) (nat_le n most) is in (leb-true least n k.0, leb-true n most k.1)

-- a version is a small number, which its line alone states
pub version_bounds : (v : ℕ) → is_version v ≡ true → (1 ≤ v) × (v ≤ 5)
version_bounds v is = elim (or_cases (is_in_range 1 3 v) (v == 5) is) [
  | inl low ↦ let k = in_range_bounds 1 3 v low in let most : v ≤ 3 = k.1 in (k.0, omega arith)
  | inr five ↦ let e : v ≡ 5 = eqb-true v 5 five in (omega arith, omega arith)
]

version_by : (word : List ℕ) (v n : ℕ) (b : Bool) → IsInRange 1 5 n word → is_version n ≡ b → cond b (Some n) None ≡ Some v → (word ≡ decimal v) × (is_version v ≡ true)
version_by word v n true range e is =
    let same : n ≡ v = ap (λ (o : Option ℕ). unwrap_or o 0) is in
    (range.word_is ∙ ap decimal same, ap is_version (sym same) ∙ e)
version_by word v n false range e is = absurd (cc)

version_of : (word : List ℕ) (v : ℕ) (o : Option ℕ) → in_range 1 5 word ≡ o → option_and_then (λ n. cond (is_version n) (Some n) None) o ≡ Some v
    → (word ≡ decimal v) × (is_version v ≡ true)
version_of word v None e is = absurd (cc)
version_of word v (Some n) e is = version_by word v n (is_version n) (in_range_is 1 5 n word (omega arith) e) refl is

version_parts : (line : List ℕ) (v : ℕ) → version_in line ≡ Some v → (line ≡ version_line v) × (is_version v ≡ true)
version_parts line v is =
    let k = follows_words (codes "boundsyn ") line version_number v is in
    let w = version_of k.0 v (in_range 1 5 k.0) refl k.2 in
    (k.1 ∙ ap (λ (t : List ℕ). codes "boundsyn " ++ t) w.0, w.1)

version_read : (v : ℕ) → is_version v ≡ true → version_in (version_line v) ≡ Some v
version_read v is =
    let k = version_bounds v is in
    words_read (codes "boundsyn ") (decimal v) version_number v
    (ap (option_and_then (λ n. cond (is_version n) (Some n) None)) (in_range_read 1 5 v (omega arith) k.0 k.1) ∙ ap (λ b. cond b (Some v) None) is)

-- a verdict that fits has a small number
pub small_number : (max : ℕ) (verdict : Verdict) → fits_max max verdict ≡ true → number_in verdict ≤ max
small_number max (Machine side n least) fits = (in_range_bounds 1 max n fits).1
small_number max (Unknown None) fits = omega arith
small_number max (Unknown (Some first)) fits = (in_range_bounds 1 max first.size fits).1

-- ---- a machine that was found

-- a header in which each line before that was read
abbrev pub header_with : ℕ → Verdict → Kind → ℕ → Option ℕ → ℕ → Header
header_with version verdict kind max entries found = record { version = Some version; verdict = Some verdict; kind = Some kind; max = Some max; entries = Some entries; found = found; bad = None }

module _ (version : ℕ) (verdict : Verdict) (kind : Kind) (max : ℕ) (entries : Option ℕ) where
  -- what is read of the line of a machine that was found, if it is there
  pub record IsFound (may : Bool) (bytes : List ℕ) : Type 0 where
    pub found : ℕ
    pub rest : List ℕ
    pub read : found_at (header_with version verdict kind max entries 0) may max bytes ≡ record { header = header_with version verdict kind max entries found; rest = rest }
    pub text : bytes ≡ text_of_lines (found_lines found) ++ rest
    pub number : IsFoundNumber may max found

  found_line : (n : ℕ) (line rest bytes : List ℕ) → 2 ≤ n → line ≡ codes "found " ++ decimal n → bytes ≡ line ++ 10 ∷ rest → bytes ≡ text_of_lines (found_lines n) ++ rest
  found_line zero line rest bytes le is are = absurd (omega arith)
  found_line (suc n) line rest bytes le is are =
      are ∙ ap (λ (l : List ℕ). l ++ 10 ∷ rest) is ∙ first_line (codes "found " ++ decimal (suc n)) [] rest

  found_by : (bytes : List ℕ) (o : Option (ℕ × List ℕ)) → max < 2 ^ 64 → front (found_in max) bytes ≡ o → IsFound true bytes
  found_by bytes None small e =
      record { found = 0; rest = bytes; read = ap (on_found (header_with version verdict kind max entries 0) bytes) e; text = refl; number = inl refl }
  found_by bytes (Some p) small e =
      let f = front_is (found_in max) bytes p.0 p.1 e in
      let r = range_is (codes "found ") f.line 2 max p.0 small f.read in
      record {
        found = p.0;
        rest = p.1;
        read = ap (on_found (header_with version verdict kind max entries 0) bytes) e;
        text = found_line p.0 f.line p.1 bytes r.1 r.0 f.bytes_are;
        number = inr (in_range_true 2 max p.0 r.1 r.2);
      }

  pub found_is : (may : Bool) (bytes : List ℕ) → max < 2 ^ 64 → IsFound may bytes
  found_is true bytes small = found_by bytes (front (found_in max) bytes) small refl
  found_is false bytes small = record { found = 0; rest = bytes; read = refl; text = refl; number = refl }

  -- the line is read where it is there, and nothing where it isn't
  pub found_read : (may : Bool) (found : ℕ) (rest : List ℕ) → max < 2 ^ 64 → IsFoundNumber may max found → front (found_in max) rest ≡ None
      → found_at (header_with version verdict kind max entries 0) may max (text_of_lines (found_lines found) ++ rest)
      ≡ record { header = header_with version verdict kind max entries found; rest = rest }
  found_read false zero rest small number other = refl
  found_read false (suc n) rest small number other = absurd (omega arith)
  found_read true zero rest small number other = ap (on_found (header_with version verdict kind max entries 0) rest) other
  found_read true (suc n) rest small number other =
      let k : (2 ≤ suc n) × (suc n ≤ max) = elim number [ inl z ↦ absurd (omega arith) | inr r ↦ in_range_bounds 2 max (suc n) r ] in
      let low = k.0 in
      let high = k.1 in
      let line : List ℕ = codes "found " ++ decimal (suc n) in
      let read : front (found_in max) ((codes "found " ++ decimal (suc n)) ++ 10 ∷ rest) ≡ Some (suc n, rest) =
      front_read (found_in max) (codes "found " ++ decimal (suc n)) rest (suc n) (text_lacks (codes "found ") (suc n) (words_lack (codes "found ") refl) (omega arith))
      (range_read (codes "found ") 2 max (suc n) small k.0 k.1) in
      ap (λ (b : List ℕ). found_at (header_with version verdict kind max entries 0) true max b) (sym (first_line (codes "found " ++ decimal (suc n)) [] rest))
      ∙ ap (on_found (header_with version verdict kind max entries 0) ((codes "found " ++ decimal (suc n)) ++ 10 ∷ rest)) read

-- ---- the whole

pub header_steps : (circuit : Bool) (first : ℕ) (b0 b1 b2 b3 b4 b5 rest : List ℕ) (v : ℕ) (r : Verdict) (k : Kind) (m : ℕ) (e : Option ℕ) (f : ℕ)
    → front version_in b0 ≡ Some (v, b1) → front (verdict_in v) b1 ≡ Some (r, b2) → has_its_place circuit r ≡ true → front kind_in b2 ≡ Some (k, b3)
    → front max_in b3 ≡ Some (m, b4) → fits_max m r ≡ true → front entries_in b4 ≡ Some (e, b5)
    → found_at (header_with v r k m e 0) (may_tell_found v r) m b5 ≡ record { header = header_with v r k m e f; rest = rest }
    → header_of circuit first b0 ≡ record { header = header_with v r k m e f; rest = rest }
header_steps circuit first b0 b1 b2 b3 b4 b5 rest v r k m e f e0 e1 place e2 e3 fits e4 found =
    ap (on_version circuit first) e0
    ∙ ap (on_verdict (record { version = Some v; verdict = None; kind = None; max = None; entries = None; found = 0; bad = None }) circuit first v) e1
    ∙ ap (λ b. cond b (on_kind (record { version = Some v; verdict = Some r; kind = None; max = None; entries = None; found = 0; bad = None }) first v r (front kind_in b2))
    (record { header = record { version = Some v; verdict = Some r; kind = None; max = None; entries = None; found = 0; bad = Some (first + 1) }; rest = [] })) place
    ∙ ap (on_kind (record { version = Some v; verdict = Some r; kind = None; max = None; entries = None; found = 0; bad = None }) first v r) e2
    ∙ ap (on_max (record { version = Some v; verdict = Some r; kind = Some k; max = None; entries = None; found = 0; bad = None }) first v r) e3
    ∙ ap (λ b. cond b (on_entries (record { version = Some v; verdict = Some r; kind = Some k; max = Some m; entries = None; found = 0; bad = None }) first v r m (front entries_in b4))
    (record { header = record { version = Some v; verdict = Some r; kind = Some k; max = Some m; entries = None; found = 0; bad = Some (first + 1) }; rest = [] })) fits
    ∙ ap (on_entries (record { version = Some v; verdict = Some r; kind = Some k; max = Some m; entries = None; found = 0; bad = None }) first v r m) e4
    ∙ found

-- the ranges of a header's numbers
pub record HasRanges (circuit : Bool) (version : ℕ) (verdict : Verdict) (max : ℕ) (entries : Option ℕ) (found : ℕ) : Type 0 where
  pub version_in : is_version version ≡ true
  pub fits : fits_version version verdict ≡ true
  pub its_place : has_its_place circuit verdict ≡ true
  pub max_in : is_in_range 1 8 max ≡ true
  pub number : fits_max max verdict ≡ true
  pub within : IfSome entries (λ most. most ≤ 250000)
  pub found_number : IsFoundNumber (may_tell_found version verdict) max found

-- the lines of a header
abbrev pub lines_text : ℕ → Verdict → Kind → ℕ → Option ℕ → ℕ → List ℕ
lines_text version verdict kind max entries found =
    text_of_lines (version_line version ∷ verdict_line verdict ∷ kind_line kind ∷ max_line max ∷ entries_line entries ∷ []) ++ text_of_lines (found_lines found)

-- a header without a bad line
pub record GoodHeader (circuit : Bool) (first : ℕ) (bytes : List ℕ) : Type 0 where
  pub version : ℕ
  pub verdict : Verdict
  pub kind : Kind
  pub max : ℕ
  pub entries : Option ℕ
  pub found : ℕ
  pub rest : List ℕ
  pub ranges : HasRanges circuit version verdict max entries found
  pub text : bytes ≡ lines_text version verdict kind max entries found ++ rest
  pub read : header_of circuit first bytes ≡ record { header = header_with version verdict kind max entries found; rest = rest }

module _ (circuit : Bool) (first : ℕ) (b0 : List ℕ) where
  at_end : (v : ℕ) (r : Verdict) (k : Kind) (m : ℕ) (e : Option ℕ) (b1 b2 b3 b4 b5 : List ℕ)
      → front version_in b0 ≡ Some (v, b1) → front (verdict_in v) b1 ≡ Some (r, b2) → has_its_place circuit r ≡ true → front kind_in b2 ≡ Some (k, b3)
      → front max_in b3 ≡ Some (m, b4) → fits_max m r ≡ true → front entries_in b4 ≡ Some (e, b5) → GoodHeader circuit first b0
  at_end v r k m e b1 b2 b3 b4 b5 e0 e1 place e2 e3 fits e4 =
      let f0 = front_is version_in b0 v b1 e0 in
      let f1 = front_is (verdict_in v) b1 r b2 e1 in
      let f2 = front_is kind_in b2 k b3 e2 in
      let f3 = front_is max_in b3 m b4 e3 in
      let f4 = front_is entries_in b4 e b5 e4 in
      let r0 = version_parts f0.line v f0.read in
      let r3 = range_is (codes "max ") f3.line 1 8 m (omega arith) f3.read in
      let high = r3.2 in
      let small = small_number m r fits in
      let parts = verdict_parts v f1.line r f1.read in
      let l1 : f1.line ≡ verdict_line r = any_verdict_is f1.line r (omega (arith, small, high)) parts.0 in
      let l2 : f2.line ≡ kind_line k = kind_is f2.line k f2.read in
      let l4 = entries_is f4.line e f4.read in
      let found = found_is v r k m e (may_tell_found v r) b5 (omega (arith, high)) in
      let whole : b0 ≡ text_of_lines (version_line v ∷ verdict_line r ∷ kind_line k ∷ max_line m ∷ entries_line e ∷ []) ++ b5 =
      five_lines b0 b1 b2 b3 b4 b5 (version_line v) (verdict_line r) (kind_line k) (max_line m) (entries_line e)
      (f0.bytes_are ∙ ap (λ (l : List ℕ). l ++ 10 ∷ b1) r0.0) (f1.bytes_are ∙ ap (λ (l : List ℕ). l ++ 10 ∷ b2) l1) (f2.bytes_are ∙ ap (λ (l : List ℕ). l ++ 10 ∷ b3) l2)
      (f3.bytes_are ∙ ap (λ (l : List ℕ). l ++ 10 ∷ b4) r3.0) (f4.bytes_are ∙ ap (λ (l : List ℕ). l ++ 10 ∷ b5) l4.line_is) in
      record {
        version = v;
        verdict = r;
        kind = k;
        max = m;
        entries = e;
        found = found.found;
        rest = found.rest;
        ranges = record {
          version_in = r0.1;
          fits = parts.1;
          its_place = place;
          max_in = in_range_true 1 8 m r3.1 r3.2;
          number = fits;
          within = l4.within;
          found_number = found.number;
        };
        text = whole ∙ ap (λ (b : List ℕ). text_of_lines (version_line v ∷ verdict_line r ∷ kind_line k ∷ max_line m ∷ entries_line e ∷ []) ++ b) found.text
            ∙ sym (append_assoc (text_of_lines (version_line v ∷ verdict_line r ∷ kind_line k ∷ max_line m ∷ entries_line e ∷ [])) (text_of_lines (found_lines found.found)) found.rest);
        read = header_steps circuit first b0 b1 b2 b3 b4 b5 found.rest v r k m e found.found e0 e1 place e2 e3 fits e4 found.read;
      }

  abbrev h1 : ℕ → Header
  h1 v = record { version = Some v; verdict = None; kind = None; max = None; entries = None; found = 0; bad = None }

  abbrev h2 : ℕ → Verdict → Header
  h2 v r = record { version = Some v; verdict = Some r; kind = None; max = None; entries = None; found = 0; bad = None }

  abbrev h3 : ℕ → Verdict → Kind → Header
  h3 v r k = record { version = Some v; verdict = Some r; kind = Some k; max = None; entries = None; found = 0; bad = None }

  abbrev h4 : ℕ → Verdict → Kind → ℕ → Header
  h4 v r k m = record { version = Some v; verdict = Some r; kind = Some k; max = Some m; entries = None; found = 0; bad = None }

  module _ (v : ℕ) (b1 : List ℕ) (e0 : front version_in b0 ≡ Some (v, b1)) where
    module _ (r : Verdict) (b2 : List ℕ) (e1 : front (verdict_in v) b1 ≡ Some (r, b2)) (place : has_its_place circuit r ≡ true) where
      module _ (k : Kind) (b3 : List ℕ) (e2 : front kind_in b2 ≡ Some (k, b3)) where
        after_max : (m : ℕ) (b4 : List ℕ) (o : Option (Option ℕ × List ℕ)) → front max_in b3 ≡ Some (m, b4) → fits_max m r ≡ true → front entries_in b4 ≡ o
            → (on_entries (h4 v r k m) first v r m o).header.bad ≡ None → GoodHeader circuit first b0
        after_max m b4 None e3 fits e4 good = absurd (cc)
        after_max m b4 (Some p) e3 fits e4 good = at_end v r k m p.0 b1 b2 b3 b4 p.1 e0 e1 place e2 e3 fits e4

        with_fits : (m : ℕ) (b4 : List ℕ) (b : Bool) → front max_in b3 ≡ Some (m, b4) → fits_max m r ≡ b
            → (cond b (on_entries (h4 v r k m) first v r m (front entries_in b4)) (record { header = record (h4 v r k m) { bad = Some (first + 1) }; rest = [] })).header.bad ≡ None
            → GoodHeader circuit first b0
        with_fits m b4 true e3 fits good = after_max m b4 (front entries_in b4) e3 fits refl good
        with_fits m b4 false e3 fits good = absurd (cc)

        after_kind : (o : Option (ℕ × List ℕ)) → front max_in b3 ≡ o → (on_max (h3 v r k) first v r o).header.bad ≡ None → GoodHeader circuit first b0
        after_kind None e3 good = absurd (cc)
        after_kind (Some p) e3 good = with_fits p.0 p.1 (fits_max p.0 r) e3 refl good

      after_verdict : (o : Option (Kind × List ℕ)) → front kind_in b2 ≡ o → (on_kind (h2 v r) first v r o).header.bad ≡ None → GoodHeader circuit first b0
      after_verdict None e2 good = absurd (cc)
      after_verdict (Some p) e2 good = after_kind p.0 p.1 e2 (front max_in p.1) refl good

    with_place : (r : Verdict) (b2 : List ℕ) (b : Bool) → front (verdict_in v) b1 ≡ Some (r, b2) → has_its_place circuit r ≡ b
        → (cond b (on_kind (h2 v r) first v r (front kind_in b2)) (record { header = record (h2 v r) { bad = Some (first + 1) }; rest = [] })).header.bad ≡ None → GoodHeader circuit first b0
    with_place r b2 true e1 place good = after_verdict r b2 e1 place (front kind_in b2) refl good
    with_place r b2 false e1 place good = absurd (cc)

    after_version : (o : Option (Verdict × List ℕ)) → front (verdict_in v) b1 ≡ o → (on_verdict (h1 v) circuit first v o).header.bad ≡ None → GoodHeader circuit first b0
    after_version None e1 good = absurd (cc)
    after_version (Some p) e1 good = with_place p.0 p.1 (has_its_place circuit p.0) e1 refl good

  from_start : (o : Option (ℕ × List ℕ)) → front version_in b0 ≡ o → (on_version circuit first o).header.bad ≡ None → GoodHeader circuit first b0
  from_start None e0 good = absurd (cc)
  from_start (Some p) e0 good = after_version p.0 p.1 e0 (front (verdict_in p.0) p.1) refl good

  -- a header without a bad line is its text
  pub good_header : (header_of circuit first b0).header.bad ≡ None → GoodHeader circuit first b0
  good_header good = from_start (front version_in b0) refl good

-- a header's text is read
pub header_read : (circuit : Bool) (first : ℕ) (v : ℕ) (r : Verdict) (k : Kind) (m : ℕ) (e : Option ℕ) (f : ℕ) (rest : List ℕ) → HasRanges circuit v r m e f
    → front (found_in m) rest ≡ None
    → header_of circuit first (lines_text v r k m e f ++ rest) ≡ record { header = header_with v r k m e f; rest = rest }
header_read circuit first v r k m e f rest ranges other =
    let v_in = version_bounds v ranges.version_in in
    let low = v_in.0 in
    let high = v_in.1 in
    let m_in = in_range_bounds 1 8 m ranges.max_in in
    let most = m_in.1 in
    let small = small_number m r ranges.number in
    let b5 : List ℕ = text_of_lines (found_lines f) ++ rest in
    let b4 : List ℕ = text_of_lines (entries_line e ∷ []) ++ b5 in
    let b3 : List ℕ = text_of_lines (max_line m ∷ entries_line e ∷ []) ++ b5 in
    let b2 : List ℕ = text_of_lines (kind_line k ∷ max_line m ∷ entries_line e ∷ []) ++ b5 in
    let b1 : List ℕ = text_of_lines (verdict_line r ∷ kind_line k ∷ max_line m ∷ entries_line e ∷ []) ++ b5 in
    let b0 : List ℕ = text_of_lines (version_line v ∷ verdict_line r ∷ kind_line k ∷ max_line m ∷ entries_line e ∷ []) ++ b5 in
    ap (header_of circuit first) (append_assoc (text_of_lines (version_line v ∷ verdict_line r ∷ kind_line k ∷ max_line m ∷ entries_line e ∷ [])) (text_of_lines (found_lines f)) rest)
    ∙ header_steps circuit first b0 b1 b2 b3 b4 b5 rest v r k m e f
    (ap (front version_in) (sym (first_line (version_line v) (verdict_line r ∷ kind_line k ∷ max_line m ∷ entries_line e ∷ []) b5))
    ∙ front_read version_in (version_line v) b1 v (text_lacks (codes "boundsyn ") v (words_lack (codes "boundsyn ") refl) (omega arith)) (version_read v ranges.version_in))
    (ap (front (verdict_in v)) (sym (first_line (verdict_line r) (kind_line k ∷ max_line m ∷ entries_line e ∷ []) b5))
    ∙ front_read (verdict_in v) (verdict_line r) b2 r (verdict_lacks r (omega arith)) (verdict_read v r (omega arith) ranges.fits))
    ranges.its_place
    (ap (front kind_in) (sym (first_line (kind_line k) (max_line m ∷ entries_line e ∷ []) b5)) ∙ front_read kind_in (kind_line k) b3 k (kind_lacks k) (kind_read k))
    (ap (front max_in) (sym (first_line (max_line m) (entries_line e ∷ []) b5))
    ∙ front_read max_in (max_line m) b4 m (text_lacks (codes "max ") m (words_lack (codes "max ") refl) (omega arith)) (range_read (codes "max ") 1 8 m (omega arith) m_in.0 m_in.1))
    ranges.number
    (ap (front entries_in) (sym (first_line (entries_line e) [] b5)) ∙ front_read entries_in (entries_line e) b5 e (entries_lacks e ranges.within) (entries_read e ranges.within))
    (found_read v r k m e (may_tell_found v r) f rest (omega arith) ranges.found_number other)
