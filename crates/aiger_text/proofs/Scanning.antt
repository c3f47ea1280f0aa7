use Rattle.std.proofs.Common.{◌≡◌, ℕ, ◌+◌, ◌-◌, ◌<◌, ◌≤◌, Bool, true, false, cond, eqb, ltb, Option, Some, None, List, [], ◌∷◌, ◌++◌, length, take, drop, refl, sym, ap, subst, ◌∙◌, arith, inl, inr, Bor}
use Rattle.std.specs.Prelude.{map, Result, Ok, Err, option_map, codes, unwrap_or}
use Rattle.std.specs.List.{slice_split, position_or_len, join_with_byte, count_by}
use Rattle.std.specs.Str.{bytes_eq}
use Rattle.std.proofs.lemmas.Bool.{ltb-true, ltb-false}
use Rattle.std.proofs.lemmas.List.{length-take-le, length-drop}
use Rattle.std.proofs.lemmas.List.Splits.{slice_split_first, slice_split_none, length-slice_split, join_with_byte-slice_split}
use Rattle.std.proofs.lemmas.List.Sums.{fails_before_first}
use Rattle.std.proofs.lemmas.Iterator.Adapters.{position_from-zero}
use Rattle.aiger_text.specs.declared.faults.CircuitFault.{CircuitFault}
use Rattle.aiger_text.specs.declared.faults.CircuitFault.TheVariants.{BadLine}
use Rattle.aiger_text.specs.Words.{is_byte, cut_at}
use Rattle.aiger_text.specs.Statements.{IsFaultOf}
use Rattle.aiger_text.specs.CircuitFile.{Draft, Body, Names, Ending, lines_of, and_then, on_line, is_whole, with_line, body_from, ending_from, with_symbol, symbol_in, is_nil}

-- a cut at the first separator
pub record Cuts (separator : ℕ) (bytes line behind : List ℕ) : Type 0 where
  pub pieces : slice_split (is_byte separator) bytes ≡ line ∷ slice_split (is_byte separator) behind
  pub shorter : length bytes ≡ length line + 1 + length behind

abbrev pub halves : List ℕ → ℕ → List ℕ × List ℕ
halves bytes place = (take place bytes, drop (place + 1) bytes)

module _ (separator : ℕ) (bytes : List ℕ) where
  abbrev place : ℕ
  place = position_or_len (is_byte separator) bytes

  cut_is : (b : Bool) → ltb place (length bytes) ≡ b → cut_at separator bytes ≡ option_map (halves bytes) (cond b (Some place) None)
  cut_is b e = ap (option_map (halves bytes)) (sym (position_from-zero (is_byte separator) bytes) ∙ ap (λ b. cond b (Some place) None) e)

  cuts_by : (line behind : List ℕ) (b : Bool) → ltb place (length bytes) ≡ b → cut_at separator bytes ≡ Some (line, behind) → Cuts separator bytes line behind
  cuts_by line behind true e is =
      let within : place < length bytes = ltb-true place (length bytes) e in
      let both : Some (halves bytes place) ≡ Some (line, behind) = sym (cut_is true e) ∙ is in
      let first : take place bytes ≡ line = ap (λ (o : Option (List ℕ × List ℕ)). (unwrap_or o ([], [])).0) both in
      let second : drop (place + 1) bytes ≡ behind = ap (λ (o : Option (List ℕ × List ℕ)). (unwrap_or o ([], [])).1) both in
      let n : length line ≡ place = ap length (sym first) ∙ length-take-le place bytes (omega arith) in
      let k : length behind ≡ length bytes - (place + 1) = ap length (sym second) ∙ length-drop (place + 1) bytes in
      record {
        pieces = slice_split_first (is_byte separator) bytes 0 within
            ∙ ap (λ (l : List ℕ). l ∷ slice_split (is_byte separator) (drop (place + 1) bytes)) first
            ∙ ap (λ (r : List ℕ). line ∷ slice_split (is_byte separator) r) second;
        shorter = omega arith;
      }
  cuts_by line behind false e is = let never : ◌≡◌ {A = Option (List ℕ × List ℕ)} None (Some (line, behind)) = sym (cut_is false e) ∙ is in absurd (cc)

  pub cuts : (line behind : List ℕ) → cut_at separator bytes ≡ Some (line, behind) → Cuts separator bytes line behind
  cuts line behind is = cuts_by line behind (ltb place (length bytes)) refl is

  no_cut_by : (b : Bool) → ltb place (length bytes) ≡ b → cut_at separator bytes ≡ None → slice_split (is_byte separator) bytes ≡ bytes ∷ []
  no_cut_by true e is = let never : ◌≡◌ {A = Option (List ℕ × List ℕ)} (Some (halves bytes place)) None = sym (cut_is true e) ∙ is in absurd (cc)
  no_cut_by false e is =
      let past : length bytes ≤ place = ltb-false place (length bytes) e in
      slice_split_none (is_byte separator) bytes (λ k d h. fails_before_first (is_byte separator) bytes k d (omega arith))

  pub no_cut : cut_at separator bytes ≡ None → slice_split (is_byte separator) bytes ≡ bytes ∷ []
  no_cut is = no_cut_by (ltb place (length bytes)) refl is

-- there is a piece
pub record HasPiece (pieces : List (List ℕ)) : Type 0 where
  pub first : List ℕ
  pub others : List (List ℕ)
  pub are : pieces ≡ first ∷ others

piece_of : (pieces : List (List ℕ)) (n : ℕ) → length pieces ≡ n + 1 → HasPiece pieces
piece_of [] n e = absurd (omega arith)
piece_of (p ∷ ps) n e = record { first = p; others = ps; are = refl }

pub has_piece : (bytes : List ℕ) → HasPiece (lines_of bytes)
has_piece bytes = piece_of (lines_of bytes) (count_by (is_byte 10) bytes) (length-slice_split (is_byte 10) bytes)

-- a line with pieces behind it is ended
pub on_line-more : {X : Type 0} (pieces : List (List ℕ)) (n : ℕ) (reading : Result X CircuitFault) → HasPiece pieces → on_line pieces n reading ≡ reading
on_line-more pieces n reading has = ap (λ (ps : List (List ℕ)). on_line ps n reading) has.are

module _ (d : Draft) (n : ℕ) (rest : List ℕ) where
  abbrev step : List ℕ → List (List ℕ) → Result Body CircuitFault
  step line others = on_line others n (and_then (λ more. body_from more (n + 1) others) (with_line d n line))

  pub body_whole : is_whole d ≡ true → body_from d n (lines_of rest) ≡ Ok (record { draft = d; line = n; rest = lines_of rest })
  body_whole whole =
      let p : HasPiece (lines_of rest) = has_piece rest in
      subst (λ (ps : List (List ℕ)). body_from d n ps ≡ Ok (record { draft = d; line = n; rest = ps })) (sym p.are)
      (ap (λ b. cond b (Ok (record { draft = d; line = n; rest = p.first ∷ p.others })) (step p.first p.others)) whole)

  pub body_missing : is_whole d ≡ false → cut_at 10 rest ≡ None → body_from d n (lines_of rest) ≡ Err (BadLine n)
  body_missing rest_wanted none =
      ap (body_from d n) (no_cut 10 rest none)
      ∙ ap (λ b. cond b (Ok (record { draft = d; line = n; rest = rest ∷ [] })) (step rest [])) rest_wanted

  pub body_step : (line behind : List ℕ) → is_whole d ≡ false → cut_at 10 rest ≡ Some (line, behind)
      → body_from d n (lines_of rest) ≡ and_then (λ more. body_from more (n + 1) (lines_of behind)) (with_line d n line)
  body_step line behind wanted cut =
      ap (body_from d n) (cuts 10 rest line behind cut).pieces
      ∙ ap (λ b. cond b (Ok (record { draft = d; line = n; rest = line ∷ lines_of behind })) (step line (lines_of behind))) wanted
      ∙ on_line-more (lines_of behind) n (and_then (λ more. body_from more (n + 1) (lines_of behind)) (with_line d n line)) (has_piece behind)

module _ (names : Names) (n : ℕ) (rest : List ℕ) where
  pub ending_open : cut_at 10 rest ≡ None → is_nil rest ≡ false → ending_from names n (lines_of rest) ≡ Err (BadLine n)
  ending_open none some =
      ap (ending_from names n) (no_cut 10 rest none)
      ∙ ap (λ b. cond b (Ok (record { names = names; line = n; comment = None })) (Err (BadLine n))) some

  abbrev symbol_step : List ℕ → List (List ℕ) → Result Ending CircuitFault
  symbol_step line pieces = and_then (λ more. ending_from more (n + 1) pieces) (with_symbol names n (symbol_in names line))

  abbrev stop : List (List ℕ) → Result Ending CircuitFault
  stop pieces = Ok (record { names = names; line = n; comment = Some (join_with_byte 10 pieces) })

  pub ending_by : (line : List ℕ) (pieces : List (List ℕ)) (b : Bool) → HasPiece pieces → bytes_eq line (codes "c") ≡ b
      → ending_from names n (line ∷ pieces) ≡ cond b (stop pieces) (symbol_step line pieces)
  ending_by line pieces b has e =
      subst (λ (ps : List (List ℕ)). ending_from names n (line ∷ ps) ≡ cond b (stop ps) (symbol_step line ps)) (sym has.are)
      (ap (λ b. cond b (stop (has.first ∷ has.others)) (symbol_step line (has.first ∷ has.others))) e)

  pub ending_comment : (line behind : List ℕ) → cut_at 10 rest ≡ Some (line, behind) → bytes_eq line (codes "c") ≡ true
      → ending_from names n (lines_of rest) ≡ Ok (record { names = names; line = n; comment = Some behind })
  ending_comment line behind cut is =
      ap (ending_from names n) (cuts 10 rest line behind cut).pieces ∙ ending_by line (lines_of behind) true (has_piece behind) is
      ∙ ap (λ (text : List ℕ). Ok (record { names = names; line = n; comment = Some text })) (join_with_byte-slice_split 10 behind)

  pub ending_step : (line behind : List ℕ) → cut_at 10 rest ≡ Some (line, behind) → bytes_eq line (codes "c") ≡ false
      → ending_from names n (lines_of rest) ≡ and_then (λ more. ending_from more (n + 1) (lines_of behind)) (with_symbol names n (symbol_in names line))
  ending_step line behind cut is =
      ap (ending_from names n) (cuts 10 rest line behind cut).pieces ∙ ending_by line (lines_of behind) false (has_piece behind) is

-- the fault of a part is the fault of the whole
pub passes_fault : {X Y : Type 0} (next : X → Result Y CircuitFault) (inner : Result X CircuitFault) (reading : Result Y CircuitFault) (fault : CircuitFault)
    → reading ≡ and_then next inner → IsFaultOf inner fault → IsFaultOf reading fault
passes_fault next inner reading fault e (inl none) = inl none
passes_fault next inner reading fault e (inr is) = inr (e ∙ ap (and_then next) is)

-- one more word before others
pub words_more : (words : List (Bor (List ℕ))) (word : Bor (List ℕ)) (others : List (List ℕ))
    → map (λ w. w.now) words ++ (word.now ∷ others) ≡ map (λ w. w.now) (words ++ word ∷ []) ++ others
words_more [] word others = refl
words_more (w ∷ words) word others = ap (λ (ws : List (List ℕ)). w.now ∷ ws) (words_more words word others)

-- bytes are none where their number is 0
pub some_bytes : (bytes : List ℕ) → eqb (length bytes) 0 ≡ false → is_nil bytes ≡ false
some_bytes [] e = absurd (cc)
some_bytes (b ∷ bytes) e = refl
