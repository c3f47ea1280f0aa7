-- Names that were written, read back.
use Rattle.std.proofs.Common.{◌≡◌, ◌≢◌, ℕ, suc, ◌+◌, ◌^◌, ◌<◌, ◌≤◌, true, false, not, ◌&&◌, cond, eqb, Option, Some, None, List, [], ◌∷◌, ◌++◌, length, replicate, refl, sym, ap, ◌∙◌, arith, decimal}
use Rattle.std.specs.Prelude.{All, IfSome, codes, nat_lt, option_and_then, Ok, Err, slice_index, slice_set}
use Rattle.std.specs.List.{list_all}
use Rattle.std.specs.Str.{bytes_eq}
use Rattle.std.proofs.lemmas.Bool.{lt-ltb, eq-eqb, and_parts, not-true}
use Rattle.std.proofs.lemmas.List.{append_assoc, length-append}
use Rattle.std.proofs.lemmas.List.Elements.{All-append, All-cons}
use Rattle.std.proofs.Math.Seq.{set-append_seam, get_or-append_seam}
use Rattle.aiger_text.specs.declared.faults.CircuitFault.TheVariants.{BadLine}
use Rattle.aiger_text.specs.declared.symbols.Named.{Named}
use Rattle.aiger_text.specs.declared.symbols.Named.TheVariants.{AnInput, ALatch, AnOutput}
use Rattle.aiger_text.specs.CircuitText.{Symbol, symbol_line, named_letter, name_lines}
use Rattle.aiger_text.specs.CircuitFile.{Names, and_then, named_by, symbol_in, symbol_of, with_symbol, named_at, lines_for, is_nil, ending_from}
use Rattle.aiger_text.specs.RoundTrip.{IsLineName, lines_from}
use Rattle.aiger_text.specs.Words.{is_byte, number_within}
use Rattle.aiger_text.proofs.Scanning.{HasPiece, ending_by}
use Rattle.aiger_text.proofs.Numbers.{Lacks, number_within-decimal, decimal-lacks, cut_at-seam}
use Rattle.aiger_text.proofs.BodyRead.{has_append}

-- the letter says what is named
letter_names : (sort : Named) → named_by (named_letter sort) ≡ Some sort
letter_names AnInput = refl
letter_names ALatch = refl
letter_names AnOutput = refl

no_comment : (s : Symbol) (sort : Named) → s.named ≡ sort → bytes_eq (symbol_line s) (codes "c") ≡ false
no_comment s sort e = ap (λ (sort : Named). bytes_eq (named_letter sort ∷ (decimal s.place ++ 32 ∷ s.name)) (codes "c")) e ∙ by sort
  where
    by : (sort : Named) → bytes_eq (named_letter sort ∷ (decimal s.place ++ 32 ∷ s.name)) (codes "c") ≡ false
    by AnInput = refl
    by ALatch = refl
    by AnOutput = refl

pub some_name : (name : List ℕ) → name ≢ [] → is_nil name ≡ false
some_name [] some = absurd (some refl)
some_name (b ∷ name) some = refl

-- the symbol of a place that has no name yet
pub record Fits (names : Names) (s : Symbol) : Type 0 where
  pub place : s.place < length (lines_for names s.named)
  pub small : s.place < 2 ^ 64
  pub nonempty : s.name ≢ []
  pub unset : slice_index (lines_for names s.named) s.place ≡ 0

module _ (names : Names) (s : Symbol) (fits : Fits names s) where
  abbrev at_place : List ℕ × List ℕ → Option ℕ → Option Symbol
  at_place words place =
      option_and_then (λ (place : ℕ). cond (nat_lt place (length (lines_for names s.named)) && not (is_nil words.1)) (Some (record { named = s.named; place = place; name = words.1 })) None) place

  symbol_is : symbol_in names (symbol_line s) ≡ Some s
  symbol_is =
      let place : s.place ≤ length (lines_for names s.named) = omega (arith, fits.place) in
      ap (option_and_then (λ (sort : Named). symbol_of names sort (decimal s.place ++ 32 ∷ s.name))) (letter_names s.named)
      ∙ ap (option_and_then (λ (words : List ℕ × List ℕ). at_place words (number_within (length (lines_for names s.named)) words.0)))
      (cut_at-seam 32 (decimal s.place) s.name (decimal-lacks 32 s.place refl fits.small))
      ∙ ap (at_place (decimal s.place, s.name)) (number_within-decimal s.place fits.small (length (lines_for names s.named)) place)
      ∙ ap (λ b. cond (b && not (is_nil s.name)) (Some s) None) (lt-ltb s.place (length (lines_for names s.named)) fits.place)
      ∙ ap (λ b. cond (not b) (Some s) None) (some_name s.name fits.nonempty)

  -- one symbol line
  pub ending_on : (n : ℕ) (rest : List (List ℕ)) → HasPiece rest → ending_from names n (symbol_line s ∷ rest) ≡ ending_from (named_at names n s.named s.place s.name) (n + 1) rest
  ending_on n rest has =
      ending_by names n [] (symbol_line s) rest false has (no_comment s s.named refl)
      ∙ ap (λ o. and_then (λ more. ending_from more (n + 1) rest) (with_symbol names n o)) symbol_is
      ∙ ap (λ b. and_then (λ more. ending_from more (n + 1) rest) (cond b (Ok (named_at names n s.named s.place s.name)) (Err (BadLine n)))) (eq-eqb (slice_index (lines_for names s.named) s.place) 0 fits.unset)

-- bytes without line ends
pub no_line_end : (name : List ℕ) → list_all (λ b. not (eqb b 10)) name ≡ true → Lacks 10 name
no_line_end [] h = λ k d less. absurd (omega arith)
no_line_end (b ∷ name) h =
    let parts = and_parts (not (eqb b 10)) (list_all (λ b. not (eqb b 10)) name) h in
    All-cons (λ b. is_byte 10 b ≡ false) b name (not-true (eqb b 10) parts.0) (no_line_end name parts.1)

pub symbol-lacks : (s : Symbol) → s.place < 2 ^ 64 → list_all (λ b. not (eqb b 10)) s.name ≡ true → Lacks 10 (symbol_line s)
symbol-lacks s small line =
    All-cons (λ b. is_byte 10 b ≡ false) (named_letter s.named) (decimal s.place ++ 32 ∷ s.name) (by s.named)
    (All-append (λ b. is_byte 10 b ≡ false) (decimal s.place) (32 ∷ s.name) (decimal-lacks 10 s.place refl small) (All-cons (λ b. is_byte 10 b ≡ false) 32 s.name refl (no_line_end s.name line)))
  where
    by : (sort : Named) → is_byte 10 (named_letter sort) ≡ false
    by AnInput = refl
    by ALatch = refl
    by AnOutput = refl

-- how many names there are
abbrev pub how_many : List (Option (List ℕ)) → ℕ
how_many [] = 0
how_many (None ∷ names) = how_many names
how_many (Some name ∷ names) = suc (how_many names)

pub length-name_lines : (sort : Named) (from : ℕ) (names : List (Option (List ℕ))) → length (name_lines sort from names) ≡ how_many names
length-name_lines sort from [] = refl
length-name_lines sort from (None ∷ names) = length-name_lines sort (from + 1) names
length-name_lines sort from (Some name ∷ names) = ap suc (length-name_lines sort (from + 1) names)

pub lines_from-append : (n : ℕ) (xs ys : List (Option (List ℕ))) → lines_from n (xs ++ ys) ≡ lines_from n xs ++ lines_from (n + how_many xs) ys
lines_from-append n [] ys = let e : n ≡ n + 0 = omega arith in ap (λ n. lines_from n ys) e
lines_from-append n (None ∷ xs) ys = ap (λ (ls : List ℕ). 0 ∷ ls) (lines_from-append n xs ys)
lines_from-append n (Some x ∷ xs) ys =
    let e : n + 1 + how_many xs ≡ n + suc (how_many xs) = omega arith in
    ap (λ (ls : List ℕ). n ∷ ls) (lines_from-append (n + 1) xs ys ∙ ap (λ m. lines_from (n + 1) xs ++ lines_from m ys) e)

pub names-lack : (sort : Named) (from : ℕ) (names : List (Option (List ℕ))) → from + length names < 2 ^ 64 → All (λ name. IfSome name IsLineName) names → All (Lacks 10) (name_lines sort from names)
names-lack sort from [] small all = λ k d h. absurd (omega arith)
names-lack sort from (None ∷ names) small all = names-lack sort (from + 1) names (omega arith) (λ k d h. all (suc k) d (omega arith))
names-lack sort from (Some name ∷ names) small all =
    let line : IsLineName name = all 0 (Some name) (omega arith) in
    All-cons (Lacks 10) (symbol_line (record { named = sort; place = from; name = name })) (name_lines sort (from + 1) names)
    (symbol-lacks (record { named = sort; place = from; name = name }) (omega arith) line.one_line) (names-lack sort (from + 1) names (omega arith) (λ k d h. all (suc k) d (omega arith)))

longer : (xs : List ℕ) (y : ℕ) (ys : List ℕ) → length xs < length (xs ++ y ∷ ys)
longer xs y ys = let n : length (xs ++ y ∷ ys) ≡ length xs + length (y ∷ ys) = length-append xs (y ∷ ys) in omega (arith, n)

-- the names of one sort, where nothing else of what was read changes
module _ (sort : Named) (make : List (Option (List ℕ)) → List ℕ → Names) (lines_are : (xs : List (Option (List ℕ))) (ls : List ℕ) → lines_for (make xs ls) sort ≡ ls)
    (puts : (xs : List (Option (List ℕ))) (ls : List ℕ) (n place : ℕ) (name : List ℕ) → named_at (make xs ls) n sort place name ≡ make (slice_set xs place (Some name)) (slice_set ls place n)) where
  pub names_read : (done : List (Option (List ℕ))) (lines : List ℕ) (from n : ℕ) (names : List (Option (List ℕ))) (more : List (List ℕ)) → length done ≡ from → length lines ≡ from
      → from + length names < 2 ^ 64 → All (λ name. IfSome name IsLineName) names → HasPiece more
      → ending_from (make (done ++ replicate (length names) None) (lines ++ replicate (length names) 0)) n (name_lines sort from names ++ more)
      ≡ ending_from (make (done ++ names) (lines ++ lines_from n names)) (n + how_many names) more
  names_read done lines from n [] more ed el small all has = let e : n ≡ n + 0 = omega arith in ap (λ n. ending_from (make (done ++ []) (lines ++ [])) n more) e
  names_read done lines from n (None ∷ names) more ed el small all has =
      let d : length (done ++ None ∷ []) ≡ from + 1 = length-append done (None ∷ []) ∙ ap (λ n. n + 1) ed in
      let l : length (lines ++ 0 ∷ []) ≡ from + 1 = length-append lines (0 ∷ []) ∙ ap (λ n. n + 1) el in
      let a : done ++ None ∷ replicate (length names) None ≡ (done ++ None ∷ []) ++ replicate (length names) None = sym (append_assoc done (None ∷ []) (replicate (length names) None)) in
      let b : lines ++ 0 ∷ replicate (length names) 0 ≡ (lines ++ 0 ∷ []) ++ replicate (length names) 0 = sym (append_assoc lines (0 ∷ []) (replicate (length names) 0)) in
      (λ k. ending_from (make (a k) (b k)) n (name_lines sort (from + 1) names ++ more))
      ∙ names_read (done ++ None ∷ []) (lines ++ 0 ∷ []) (from + 1) n names more d l (omega arith) (λ k d h. all (suc k) d (omega arith)) has
      ∙ (λ k. ending_from (make (append_assoc done (None ∷ []) names k) (append_assoc lines (0 ∷ []) (lines_from n names) k)) (n + how_many names) more)
  names_read done lines from n (Some name ∷ names) more ed el small all has =
      let d : length (done ++ Some name ∷ []) ≡ from + 1 = length-append done (Some name ∷ []) ∙ ap (λ n. n + 1) ed in
      let l : length (lines ++ n ∷ []) ≡ from + 1 = length-append lines (n ∷ []) ∙ ap (λ n. n + 1) el in
      let line : IsLineName name = all 0 (Some name) (omega arith) in
      let lines_here : lines_for (make (done ++ None ∷ replicate (length names) None) (lines ++ 0 ∷ replicate (length names) 0)) sort ≡ lines ++ 0 ∷ replicate (length names) 0 =
      lines_are (done ++ None ∷ replicate (length names) None) (lines ++ 0 ∷ replicate (length names) 0) in
      let count : length lines < length (lines ++ 0 ∷ replicate (length names) 0) = longer lines 0 (replicate (length names) 0) in
      let fits : Fits (make (done ++ None ∷ replicate (length names) None) (lines ++ 0 ∷ replicate (length names) 0)) (record { named = sort; place = from; name = name }) = record {
        place = omega (arith, ap length lines_here, count, el);
        small = omega (arith, small);
        nonempty = line.nonempty;
        unset = ap (λ (ls : List ℕ). slice_index ls from) lines_here ∙ ap (slice_index (lines ++ 0 ∷ replicate (length names) 0)) (sym el) ∙ get_or-append_seam lines 0 (replicate (length names) 0) 0;
      } in
      let a : slice_set (done ++ None ∷ replicate (length names) None) from (Some name) ≡ (done ++ Some name ∷ []) ++ replicate (length names) None =
      ap (λ n. slice_set (done ++ None ∷ replicate (length names) None) n (Some name)) (sym ed) ∙ set-append_seam done None (replicate (length names) None) (Some name)
      ∙ sym (append_assoc done (Some name ∷ []) (replicate (length names) None)) in
      let b : slice_set (lines ++ 0 ∷ replicate (length names) 0) from n ≡ (lines ++ n ∷ []) ++ replicate (length names) 0 =
      ap (λ m. slice_set (lines ++ 0 ∷ replicate (length names) 0) m n) (sym el) ∙ set-append_seam lines 0 (replicate (length names) 0) n ∙ sym (append_assoc lines (n ∷ []) (replicate (length names) 0)) in
      let m : n + 1 + how_many names ≡ n + suc (how_many names) = omega arith in
      ending_on (make (done ++ None ∷ replicate (length names) None) (lines ++ 0 ∷ replicate (length names) 0)) (record { named = sort; place = from; name = name }) fits n (name_lines sort (from + 1) names ++ more)
      (has_append (name_lines sort (from + 1) names) more has)
      ∙ ap (λ (names' : Names). ending_from names' (n + 1) (name_lines sort (from + 1) names ++ more)) (puts (done ++ None ∷ replicate (length names) None) (lines ++ 0 ∷ replicate (length names) 0) n from name)
      ∙ (λ k. ending_from (make (a k) (b k)) (n + 1) (name_lines sort (from + 1) names ++ more))
      ∙ names_read (done ++ Some name ∷ []) (lines ++ n ∷ []) (from + 1) (n + 1) names more d l (omega arith) (λ k d h. all (suc k) d (omega arith)) has
      ∙ (λ k. ending_from (make (append_assoc done (Some name ∷ []) names k) (append_assoc lines (n ∷ []) (lines_from (n + 1) names) k)) (m k) more)
