-- Symbol lines in any order, read back.
use Rattle.std.proofs.Common.{◌≡◌, ◌≢◌, ℕ, suc, ◌+◌, ◌^◌, ◌<◌, Bool, true, false, ◌&&◌, cond, eqb, Option, Some, None, List, [], ◌∷◌, ◌++◌, length, get_or, replicate, refl, sym, ap, ◌∙◌, arith, ext_get_or}
use Rattle.std.specs.Prelude.{map, All, IsTrue, find, option_map, slice_index}
use Rattle.std.proofs.lemmas.Bool.{eqb-true, eq-eqb, and_parts, false_from_ne_true}
use Rattle.std.proofs.lemmas.List.{length-set, length-replicate, get_or-replicate, get_or-set_other}
use Rattle.std.proofs.lemmas.List.FromFn.{get_or-map-range_with_len, length-map-range_with_len}
use Rattle.std.proofs.lemmas.List.Elements.{All-cons}
use Rattle.aiger_text.specs.declared.symbols.Named.{Named}
use Rattle.aiger_text.specs.declared.symbols.Named.TheVariants.{AnInput, ALatch, AnOutput}
use Rattle.aiger_text.specs.Circuit.{Circuit}
use Rattle.aiger_text.specs.CircuitText.{Symbol, IsSymbolOf, symbol_line, named_letter, is_at, names_of, places}
use Rattle.aiger_text.specs.CircuitFile.{Names, named_at, lines_for, ending_from}
use Rattle.aiger_text.proofs.Scanning.{HasPiece}
use Rattle.aiger_text.proofs.Numbers.{Lacks}
use Rattle.aiger_text.proofs.BodyRead.{has_append}
use Rattle.aiger_text.proofs.NamesRead.{Fits, ending_on, symbol-lacks}

-- a symbol at a place is at the place of another one there
same_place : (sort : Named) (k : ℕ) (s t : Symbol) → is_at sort k s ≡ true → is_at sort k t ≡ is_at s.named s.place t
same_place sort k s t at =
    let parts = and_parts (eqb (named_letter s.named) (named_letter sort)) (eqb s.place k) at in
    let letter : named_letter sort ≡ named_letter s.named = sym (eqb-true (named_letter s.named) (named_letter sort) parts.0) in
    let place : k ≡ s.place = sym (eqb-true s.place k parts.1) in
    λ i. eqb (named_letter t.named) (letter i) && eqb t.place (place i)

pub other_place : (x y : ℕ) → eqb x y ≡ false → x ≢ y
other_place x y e same = let never : ◌≡◌ {A = Bool} true false = sym (eq-eqb x y same) ∙ e in absurd (cc)

-- the lines of other places stay
lines_kept : (names : Names) (n : ℕ) (sort : Named) (place : ℕ) (name : List ℕ) (other : Named) (k : ℕ) → (eqb (named_letter other) (named_letter sort) && eqb k place) ≡ false
    → slice_index (lines_for (named_at names n sort place name) other) k ≡ slice_index (lines_for names other) k
lines_kept names n AnInput place name AnInput k away = get_or-set_other names.input_lines place k n 0 (other_place k place away)
lines_kept names n AnInput place name ALatch k away = refl
lines_kept names n AnInput place name AnOutput k away = refl
lines_kept names n ALatch place name AnInput k away = refl
lines_kept names n ALatch place name ALatch k away = get_or-set_other names.latch_lines place k n 0 (other_place k place away)
lines_kept names n ALatch place name AnOutput k away = refl
lines_kept names n AnOutput place name AnInput k away = refl
lines_kept names n AnOutput place name ALatch k away = refl
lines_kept names n AnOutput place name AnOutput k away = get_or-set_other names.output_lines place k n 0 (other_place k place away)

lines_stay : (names : Names) (n : ℕ) (sort : Named) (place : ℕ) (name : List ℕ) (other : Named) → length (lines_for (named_at names n sort place name) other) ≡ length (lines_for names other)
lines_stay names n AnInput place name AnInput = length-set names.input_lines place n
lines_stay names n AnInput place name ALatch = refl
lines_stay names n AnInput place name AnOutput = refl
lines_stay names n ALatch place name AnInput = refl
lines_stay names n ALatch place name ALatch = length-set names.latch_lines place n
lines_stay names n ALatch place name AnOutput = refl
lines_stay names n AnOutput place name AnInput = refl
lines_stay names n AnOutput place name ALatch = refl
lines_stay names n AnOutput place name AnOutput = length-set names.output_lines place n

-- the names with all of the symbols, of which the first one stands in line n
abbrev pub after : Names → ℕ → List Symbol → Names
after names n [] = names
after names n (s ∷ symbols) = after (named_at names n s.named s.place s.name) (n + 1) symbols

-- a later symbol is at another place
abbrev pub AreApart : List Symbol → Type 0
AreApart symbols = (i k : ℕ) (d : Symbol) → i < k → k < length symbols → IsTrue (is_at (get_or symbols i d).named (get_or symbols i d).place (get_or symbols k d)) → ⊥

module _ (c : Circuit) (small : (sort : Named) → places c sort < 2 ^ 64) where
  -- the symbols that are still to be read have their places, which have no names yet
  pub record MayCome (names : Names) (symbols : List Symbol) : Type 0 where
    pub count : (sort : Named) → length (lines_for names sort) ≡ places c sort
    pub fits : All (IsSymbolOf c) symbols
    pub unset : All (λ s. slice_index (lines_for names s.named) s.place ≡ 0) symbols
    pub apart : AreApart symbols

  go_on : (names : Names) (n : ℕ) (s : Symbol) (symbols : List Symbol) → MayCome names (s ∷ symbols) → MayCome (named_at names n s.named s.place s.name) symbols
  go_on names n s symbols may = record {
    count = λ sort. lines_stay names n s.named s.place s.name sort ∙ may.count sort;
    fits = λ k d h. may.fits (suc k) d (omega arith);
    unset = λ k d h. lines_kept names n s.named s.place s.name (get_or symbols k d).named (get_or symbols k d).place
        (false_from_ne_true (is_at s.named s.place (get_or symbols k d)) (may.apart 0 (suc k) d (omega arith) (omega arith))) ∙ may.unset (suc k) d (omega arith);
    apart = λ i k d less h. may.apart (suc i) (suc k) d (omega arith) (omega arith);
  }

  pub symbols_read : (names : Names) (n : ℕ) (symbols : List Symbol) (more : List (List ℕ)) → MayCome names symbols → HasPiece more
      → ending_from names n (map symbol_line symbols ++ more) ≡ ending_from (after names n symbols) (n + length symbols) more
  symbols_read names n [] more may has = let e : n ≡ n + 0 = omega arith in ap (λ n. ending_from names n more) e
  symbols_read names n (s ∷ symbols) more may has =
      let is : IsSymbolOf c s = may.fits 0 s (omega arith) in
      let place : s.place < places c s.named = is.place in
      let below : places c s.named < 2 ^ 64 = small s.named in
      let fits : Fits names s = record {
        place = omega (arith, place, may.count s.named);
        small = omega (arith, place, below);
        nonempty = is.nonempty;
        unset = may.unset 0 s (omega arith);
      } in
      let m : n + 1 + length symbols ≡ n + suc (length symbols) = omega arith in
      ending_on names s fits n (map symbol_line symbols ++ more) (has_append (map symbol_line symbols) more has)
      ∙ symbols_read (named_at names n s.named s.place s.name) (n + 1) symbols more (go_on names n s symbols may) has
      ∙ ap (λ m. ending_from (after (named_at names n s.named s.place s.name) (n + 1) symbols) m more) m

  pub symbols-lack : (symbols : List Symbol) → All (IsSymbolOf c) symbols → All (Lacks 10) (map symbol_line symbols)
  symbols-lack [] fit = λ k d h. absurd (omega arith)
  symbols-lack (s ∷ symbols) fit =
      let is : IsSymbolOf c s = fit 0 s (omega arith) in
      let place : s.place < places c s.named = is.place in
      let below : places c s.named < 2 ^ 64 = small s.named in
      All-cons (Lacks 10) (symbol_line s) (map symbol_line symbols) (symbol-lacks s (omega (arith, place, below)) is.one_line) (symbols-lack symbols (λ k d h. fit (suc k) d (omega arith)))

-- the first name, or else the other
abbrev or_else : {X : Type 0} → Option X → Option X → Option X
or_else (Some x) other = Some x
or_else None other = other

abbrev pub name_of : List Symbol → Named → ℕ → Option (List ℕ)
name_of symbols sort k = option_map (λ (s : Symbol). s.name) (find (is_at sort k) symbols)

-- the names of one sort
module _ (sort : Named) (list_of : Names → List (Option (List ℕ)))
    (stays : (names : Names) (n : ℕ) (s : Symbol) → length (list_of (named_at names n s.named s.place s.name)) ≡ length (list_of names))
    (hit : (names : Names) (n k : ℕ) (s : Symbol) → is_at sort k s ≡ true → k < length (list_of names) → get_or (list_of (named_at names n s.named s.place s.name)) k None ≡ Some s.name)
    (miss : (names : Names) (n k : ℕ) (s : Symbol) → is_at sort k s ≡ false → get_or (list_of (named_at names n s.named s.place s.name)) k None ≡ get_or (list_of names) k None) where
  length_after : (names : Names) (n : ℕ) (symbols : List Symbol) → length (list_of (after names n symbols)) ≡ length (list_of names)
  length_after names n [] = refl
  length_after names n (s ∷ symbols) = length_after (named_at names n s.named s.place s.name) (n + 1) symbols ∙ stays names n s

  none_later : (symbols : List Symbol) (k : ℕ) → All (λ t. is_at sort k t ≡ false) symbols → find (is_at sort k) symbols ≡ None
  none_later [] k all = refl
  none_later (t ∷ symbols) k all = ap (λ b. cond b (Some t) (find (is_at sort k) symbols)) (all 0 t (omega arith)) ∙ none_later symbols k (λ i d h. all (suc i) d (omega arith))

  name_after : (names : Names) (n k : ℕ) (symbols : List Symbol) → AreApart symbols → k < length (list_of names)
      → get_or (list_of (after names n symbols)) k None ≡ or_else (name_of symbols sort k) (get_or (list_of names) k None)
  name_after names n k [] apart h = refl
  name_after names n k (s ∷ symbols) apart h =
      let rest = name_after (named_at names n s.named s.place s.name) (n + 1) k symbols (λ i j d less below. apart (suc i) (suc j) d (omega arith) (omega arith)) (rw stays h) in
      rest ∙ by (is_at sort k s) refl
    where
      by : (b : Bool) → is_at sort k s ≡ b
          → or_else (name_of symbols sort k) (get_or (list_of (named_at names n s.named s.place s.name)) k None)
          ≡ or_else (option_map (λ (s : Symbol). s.name) (cond b (Some s) (find (is_at sort k) symbols))) (get_or (list_of names) k None)
      by true at =
          let none : find (is_at sort k) symbols ≡ None = none_later symbols k (λ i d below. same_place sort k s (get_or symbols i d) at
          ∙ false_from_ne_true (is_at s.named s.place (get_or symbols i d)) (apart 0 (suc i) d (omega arith) (omega arith))) in
          ap (λ (o : Option Symbol). or_else (option_map (λ (s : Symbol). s.name) o) (get_or (list_of (named_at names n s.named s.place s.name)) k None)) none ∙ hit names n k s at h
      by false away = ap (or_else (name_of symbols sort k)) (miss names n k s away)

  pub names_after : (names : Names) (n count : ℕ) (symbols : List Symbol) → AreApart symbols → list_of names ≡ replicate count None → list_of (after names n symbols) ≡ names_of symbols sort count
  names_after names n count symbols apart none =
      let a : length (list_of names) ≡ count = ap length none ∙ length-replicate count None in
      let b : length (list_of (after names n symbols)) ≡ length (list_of names) = length_after names n symbols in
      let e : length (names_of symbols sort count) ≡ count = length-map-range_with_len (name_of symbols sort) 0 count in
      ext_get_or None (list_of (after names n symbols)) (names_of symbols sort count) (b ∙ a ∙ sym e) (λ k h.
      let below : k < length (list_of names) = omega (arith, h, b) in
      let inside : k < count = omega (arith, below, a) in
      let empty : get_or (list_of names) k None ≡ None = ap (λ xs. get_or xs k None) none ∙ get_or-replicate count k None None inside in
      let same : 0 + k ≡ k = omega arith in
      name_after names n k symbols apart below ∙ ap (or_else (name_of symbols sort k)) empty ∙ ends (name_of symbols sort k)
      ∙ sym (get_or-map-range_with_len (name_of symbols sort) 0 count k k None inside same))
    where
      ends : (o : Option (List ℕ)) → or_else o None ≡ o
      ends None = refl
      ends (Some x) = refl
