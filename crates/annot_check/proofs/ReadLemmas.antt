-- A text of an annotation, line by line.
use Rattle.std.proofs.Common.{◌≡◌, ◌==◌, ℕ, ◌+◌, ◌<◌, Bool, true, false, ◌||◌, cond, List, [], ◌∷◌, ◌++◌, length, map, Option, Some, None, is_some, refl, sym, ap, ◌∙◌, arith, nat_lt}
use Rattle.std.specs.Prelude.{Result, Ok, Err, codes, unwrap_or, if◌then◌else◌}
use Rattle.std.specs.List.{list_any}
use Rattle.std.specs.Option.{option_and_then, option_map_or}
use Rattle.std.specs.Str.{bytes_eq}
use Rattle.std.proofs.lemmas.List.{length-append}
use Rattle.std.proofs.lemmas.List.Splits.{length-slice_split}
use Rattle.aiger_text.specs.Words.{cut_at}
use Rattle.aiger_text.proofs.Scanning.{cuts, no_cut}
use Rattle.annot_check.specs.declared.pairs.Pair.{Pair}
use Rattle.annot_check.specs.declared.numbers.Place.{Place}
use Rattle.annot_check.specs.Pairs.{Listed}
use Rattle.annot_check.specs.Numbers.{place_eq, pair_place}
use Rattle.annot_check.specs.AnnotationText.{Headed, behind_head, count_of, head_from, is_taken, list_behind, listed_in, pair_in, pairs_in, pieces_of, reading_of}
use Rattle.annot_check.specs.Readings.{is_held, next_of}

-- there is always a last part
pub some_part : (bytes : List ℕ) → 0 < length (pieces_of bytes)
some_part bytes = omega (arith, length-slice_split (λ b. b == 10) bytes)

-- ---- a line cut off

pub cut_is : (rest line behind : List ℕ) → cut_at 10 rest ≡ Some (line, behind) → (pieces_of rest ≡ line ∷ pieces_of behind) × (length behind < length rest)
cut_is rest line behind is =
    let cut = cuts 10 rest line behind is in
    let shorter : length rest ≡ length line + 1 + length behind = cut.shorter in
    (cut.pieces, omega (arith, shorter))

pub whole_is : (rest : List ℕ) → cut_at 10 rest ≡ None → pieces_of rest ≡ rest ∷ []
whole_is rest none = no_cut 10 rest none

-- ---- the head

-- one line of those up to the head
abbrev at_line : List (List ℕ) → ℕ → List ℕ → Result Headed ℕ
at_line parts n line = option_map_or (λ word. Ok (record { word = word; line = n; parts = parts })) (behind_head line) (head_from parts (n + 1))

read_line : (parts : List (List ℕ)) (line : List ℕ) (n : ℕ) → 0 < length parts → head_from (line ∷ parts) n ≡ at_line parts n line
read_line [] line n some = absurd (omega arith)
read_line (next ∷ more) line n some = refl

module _ (rest line behind : List ℕ) (n : ℕ) (r : Result Headed ℕ) (cut : pieces_of rest ≡ line ∷ pieces_of behind) (so_far : head_from (pieces_of rest) n ≡ r) where
  at_this : r ≡ at_line (pieces_of behind) n line
  at_this = sym so_far ∙ ap (λ ps. head_from ps n) cut ∙ read_line (pieces_of behind) line n (some_part behind)

  abbrev by_word : Option (List ℕ) → Result Headed ℕ
  by_word o = option_map_or (λ word. Ok (record { word = word; line = n; parts = pieces_of behind })) o (head_from (pieces_of behind) (n + 1))

  pub head_found : (word : List ℕ) → behind_head line ≡ Some word → r ≡ Ok (record { word = word; line = n; parts = pieces_of behind })
  head_found word begins = at_this ∙ ap by_word begins

  pub head_later : behind_head line ≡ None → head_from (pieces_of behind) (n + 1) ≡ r
  head_later begins = sym (at_this ∙ ap by_word begins)

-- the last part
pub no_head : (rest : List ℕ) (n : ℕ) (r : Result Headed ℕ) → pieces_of rest ≡ rest ∷ [] → head_from (pieces_of rest) n ≡ r
    → r ≡ cond ((length rest == 0) || is_some (behind_head rest)) (Err n) (Err (n + 1))
no_head rest n r whole so_far = sym so_far ∙ ap (λ ps. head_from ps n) whole

-- what a head that was found leaves
module _ (latches states : ℕ) (bytes : List ℕ) where
  pub head_left : (head : Headed) (count : ℕ) → head_from (pieces_of bytes) 1 ≡ Ok head → count_of head.word ≡ Some count
      → listed_in latches states head.parts head.line count ≡ reading_of latches states bytes
  head_left head count found counted =
      sym (ap (list_behind latches states) found ∙ ap (λ o. option_map_or (listed_in latches states head.parts head.line) o (Err head.line)) counted)

  pub head_bad : (head : Headed) → head_from (pieces_of bytes) 1 ≡ Ok head → count_of head.word ≡ None → reading_of latches states bytes ≡ Err head.line
  head_bad head found counted =
      ap (list_behind latches states) found ∙ ap (λ o. option_map_or (listed_in latches states head.parts head.line) o (Err head.line)) counted

  pub head_none : (n : ℕ) → head_from (pieces_of bytes) 1 ≡ Err n → reading_of latches states bytes ≡ Err n
  head_none n none = ap (list_behind latches states) none

-- ---- the pairs

module _ (latches states count : ℕ) where
  abbrev at_pair : List Pair → List (List ℕ) → ℕ → Pair → Result (List Pair) ℕ
  at_pair done parts n pair = if is_taken pair done then Err n else pairs_in latches states count (done ++ pair ∷ []) parts (n + 1)

  -- one line behind the head
  abbrev behind_line : List Pair → List (List ℕ) → ℕ → List ℕ → Result (List Pair) ℕ
  behind_line done parts n line =
      if nat_lt (length done) count
      then option_map_or (at_pair done parts n) (pair_in latches states line) (Err n)
      else (if bytes_eq line (codes "end") then Ok done else Err n)

  pair_line : (done : List Pair) (parts : List (List ℕ)) (line : List ℕ) (n : ℕ) → 0 < length parts → pairs_in latches states count done (line ∷ parts) n ≡ behind_line done parts n line
  pair_line done [] line n some = absurd (omega arith)
  pair_line done (next ∷ more) line n some = refl

  module _ (done : List Pair) (rest line behind : List ℕ) (n : ℕ) (r : Result (List Pair) ℕ) (cut : pieces_of rest ≡ line ∷ pieces_of behind)
      (so_far : pairs_in latches states count done (pieces_of rest) n ≡ r) where
    at_this_pair : r ≡ behind_line done (pieces_of behind) n line
    at_this_pair = sym so_far ∙ ap (λ ps. pairs_in latches states count done ps n) cut ∙ pair_line done (pieces_of behind) line n (some_part behind)

    full : nat_lt (length done) count ≡ false → r ≡ cond (bytes_eq line (codes "end")) (Ok done) (Err n)
    full no_more =
        at_this_pair ∙ ap (λ b. if b then option_map_or (at_pair done (pieces_of behind) n) (pair_in latches states line) (Err n) else (if bytes_eq line (codes "end") then Ok done else Err n)) no_more

    more : nat_lt (length done) count ≡ true → r ≡ option_map_or (at_pair done (pieces_of behind) n) (pair_in latches states line) (Err n)
    more room =
        at_this_pair ∙ ap (λ b. if b then option_map_or (at_pair done (pieces_of behind) n) (pair_in latches states line) (Err n) else (if bytes_eq line (codes "end") then Ok done else Err n)) room

    pub pairs_ended : nat_lt (length done) count ≡ false → bytes_eq line (codes "end") ≡ true → r ≡ Ok done
    pairs_ended no_more is = full no_more ∙ ap (λ b. cond b (Ok done) (Err n)) is

    pub pairs_open : nat_lt (length done) count ≡ false → bytes_eq line (codes "end") ≡ false → r ≡ Err n
    pairs_open no_more is = full no_more ∙ ap (λ b. cond b (Ok done) (Err n)) is

    by_next : Option (List Pair) → Result (List Pair) ℕ
    by_next o = option_map_or (λ (after : List Pair). pairs_in latches states count after (pieces_of behind) (n + 1)) o (Err n)

    next_by : (pair : Pair) (b : Bool) → (if b then Err n else pairs_in latches states count (done ++ pair ∷ []) (pieces_of behind) (n + 1))
        ≡ by_next (if b then None else Some (done ++ pair ∷ []))
    unfolding by_next
    next_by pair true = refl
    next_by pair false = refl

    as_next : (o : Option Pair) → option_map_or (at_pair done (pieces_of behind) n) o (Err n)
        ≡ by_next (option_and_then (λ pair. if is_taken pair done then None else Some (done ++ pair ∷ [])) o)
    unfolding by_next
    as_next None = refl
    as_next (Some pair) = next_by pair (is_taken pair done)

    pub pair_bad : nat_lt (length done) count ≡ true → next_of latches states done line ≡ None → r ≡ Err n
    unfolding by_next
    pair_bad room none = more room ∙ as_next (pair_in latches states line) ∙ ap by_next none

    pub pair_good : (after : List Pair) → nat_lt (length done) count ≡ true → next_of latches states done line ≡ Some after
        → pairs_in latches states count after (pieces_of behind) (n + 1) ≡ r
    unfolding by_next
    pair_good after room is = sym (more room ∙ as_next (pair_in latches states line) ∙ ap by_next is)

  -- where the lines end too soon
  pub pairs_short : (done : List Pair) (rest : List ℕ) (n : ℕ) (r : Result (List Pair) ℕ) → pieces_of rest ≡ rest ∷ [] → pairs_in latches states count done (pieces_of rest) n ≡ r → r ≡ Err n
  pairs_short done rest n r whole so_far = sym so_far ∙ ap (λ ps. pairs_in latches states count done ps n) whole

-- ---- places that are taken

any_map : {X Y : Type 0} (f : Y → Bool) (g : X → Y) (xs : List X) → list_any f (map g xs) ≡ list_any (λ x. f (g x)) xs
any_map f g [] = refl
any_map f g (x ∷ xs) = ap (λ b. f (g x) || b) (any_map f g xs)

pub taken_is : (pair : Pair) (pairs : List Pair) (keys : List Place) → keys ≡ map pair_place pairs → is_held pair keys ≡ is_taken pair pairs
taken_is pair pairs keys is = ap (list_any (place_eq (pair_place pair))) is ∙ any_map (place_eq (pair_place pair)) pair_place pairs

-- a line that states no pair, one whose place isn't free, and one that is taken
module _ (latches states : ℕ) (line : List ℕ) (pairs : List Pair) (keys : List Place) (keyed : keys ≡ map pair_place pairs) where
  next_is : (pair : Pair) (b : Bool) → pair_in latches states line ≡ Some pair → is_held pair keys ≡ b
      → next_of latches states pairs line ≡ (if b then None else Some (pairs ++ pair ∷ []))
  next_is pair b some held =
      ap (option_and_then (λ pair. if is_taken pair pairs then None else Some (pairs ++ pair ∷ []))) some
      ∙ ap (λ (b : Bool). if b then None else Some (pairs ++ pair ∷ [])) (sym (taken_is pair pairs keys keyed) ∙ held)

  pub next_held : (pair : Pair) → pair_in latches states line ≡ Some pair → is_held pair keys ≡ true → next_of latches states pairs line ≡ None
  next_held pair some held = next_is pair true some held

  pub next_free : (pair : Pair) → pair_in latches states line ≡ Some pair → is_held pair keys ≡ false → next_of latches states pairs line ≡ Some (pairs ++ pair ∷ [])
  next_free pair some held = next_is pair false some held

-- ---- one pair more

longer_by : (pairs after : List Pair) (pair : Pair) (b : Bool) → (if b then None else Some (pairs ++ pair ∷ [])) ≡ Some after → length after ≡ length pairs + 1
longer_by pairs after pair true is = absurd (cc)
longer_by pairs after pair false is = ap (λ (o : Option (List Pair)). length (unwrap_or o [])) (sym is) ∙ length-append pairs (pair ∷ [])

longer_from : (pairs after : List Pair) (o : Option Pair) → option_and_then (λ pair. if is_taken pair pairs then None else Some (pairs ++ pair ∷ [])) o ≡ Some after
    → length after ≡ length pairs + 1
longer_from pairs after None is = absurd (cc)
longer_from pairs after (Some pair) is = longer_by pairs after pair (is_taken pair pairs) is

pub next_longer : (latches states : ℕ) (line : List ℕ) (pairs after : List Pair) → next_of latches states pairs line ≡ Some after → length after ≡ length pairs + 1
next_longer latches states line pairs after is = longer_from pairs after (pair_in latches states line) is
