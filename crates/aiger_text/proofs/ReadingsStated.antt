-- What a file reads as is what it states.
use Rattle.std.proofs.Common.{◌≡◌, ℕ, zero, suc, ◌+◌, ◌^◌, ◌<◌, ◌≤◌, true, false, ◌&&◌, eqb, Option, Some, None, List, [], ◌∷◌, length, get_or, replicate, set, refl, sym, ap, subst, ◌∙◌, arith, decimal}
use Rattle.std.specs.Prelude.{map, Ok, slice_index}
use Rattle.std.proofs.lemmas.Bool.{eqb-true}
use Rattle.std.proofs.lemmas.List.{length-map, length-set, length-replicate, get_or-set_same, get_or-set_other}
use Rattle.std.proofs.lemmas.List.Elements.{All-cons, All-nil}
use Rattle.std.proofs.lemmas.List.Splits.{slice_split_at, join_with_byte-slice_split}
use Rattle.text_limits.specs.declared.TheConstants.{CIRCUIT_VARIABLES}
use Rattle.aiger_text.specs.declared.symbols.Named.{Named}
use Rattle.aiger_text.specs.declared.symbols.Named.TheVariants.{AnInput, ALatch, AnOutput}
use Rattle.aiger_text.specs.Circuit.{Circuit}
use Rattle.aiger_text.specs.CircuitText.{Symbol, ReadsAs, header_line, gate_line, symbol_line, comment_text, places, is_at, named_letter}
use Rattle.aiger_text.specs.CircuitFile.{File, Parts, Names, lines_for, named_at, lines_of, ending_from, no_names, circuit_parts, and_then, file_of, circuit_of}
use Rattle.aiger_text.specs.RoundTrip.{IsStatedAs, ReadingsAreStated, ReadingsAgree}
use Rattle.aiger_text.specs.Words.{is_byte}
use Rattle.aiger_text.proofs.Scanning.{has_piece, ending_by}
use Rattle.aiger_text.proofs.BodyRead.{whole, behind, all_known}
use Rattle.aiger_text.proofs.FileRead.{parts_read, third_fits}
use Rattle.aiger_text.proofs.SymbolsRead.{MayCome, symbols_read, symbols-lack, names_after, after, other_place}
use Rattle.aiger_text.proofs.Assembly.{with_ending}
use Rattle.aiger_text.proofs.FileFacts.{files_state_one_thing}

zeros : (n k : ℕ) → ◌≡◌ {A = ℕ} (get_or (replicate n 0) k 0) 0
zeros zero k = refl
zeros (suc n) zero = refl
zeros (suc n) (suc k) = zeros n k

-- how one more symbol changes the names of inputs, and those of outputs
inputs_stay : (names : Names) (n : ℕ) (s : Symbol) → length (named_at names n s.named s.place s.name).inputs ≡ length names.inputs
inputs_stay names n s = by s.named
  where
    by : (sort : Named) → length (named_at names n sort s.place s.name).inputs ≡ length names.inputs
    by AnInput = length-set names.inputs s.place (Some s.name)
    by ALatch = refl
    by AnOutput = refl

outputs_stay : (names : Names) (n : ℕ) (s : Symbol) → length (named_at names n s.named s.place s.name).outputs ≡ length names.outputs
outputs_stay names n s = by s.named
  where
    by : (sort : Named) → length (named_at names n sort s.place s.name).outputs ≡ length names.outputs
    by AnInput = refl
    by ALatch = refl
    by AnOutput = length-set names.outputs s.place (Some s.name)

set_here : (xs : List (Option (List ℕ))) (place k : ℕ) (name : List ℕ) → eqb place k ≡ true → k < length xs → get_or (set xs place (Some name)) k None ≡ Some name
set_here xs place k name e h =
    let same : place ≡ k = eqb-true place k e in
    ap (λ i. get_or (set xs i (Some name)) k None) same ∙ get_or-set_same xs k (Some name) None h

set_away : (xs : List (Option (List ℕ))) (place k : ℕ) (name : List ℕ) → eqb place k ≡ false → get_or (set xs place (Some name)) k None ≡ get_or xs k None
set_away xs place k name e = get_or-set_other xs place k (Some name) None (λ same. other_place place k e (sym same))

input_hit : (names : Names) (n k : ℕ) (s : Symbol) → is_at AnInput k s ≡ true → k < length names.inputs → get_or (named_at names n s.named s.place s.name).inputs k None ≡ Some s.name
input_hit names n k s at h = by s.named at
  where
    by : (sort : Named) → (eqb (named_letter sort) 105 && eqb s.place k) ≡ true → get_or (named_at names n sort s.place s.name).inputs k None ≡ Some s.name
    by AnInput at = set_here names.inputs s.place k s.name at h
    by ALatch at = absurd (cc)
    by AnOutput at = absurd (cc)

input_miss : (names : Names) (n k : ℕ) (s : Symbol) → is_at AnInput k s ≡ false → get_or (named_at names n s.named s.place s.name).inputs k None ≡ get_or names.inputs k None
input_miss names n k s away = by s.named away
  where
    by : (sort : Named) → (eqb (named_letter sort) 105 && eqb s.place k) ≡ false → get_or (named_at names n sort s.place s.name).inputs k None ≡ get_or names.inputs k None
    by AnInput away = set_away names.inputs s.place k s.name away
    by ALatch away = refl
    by AnOutput away = refl

output_hit : (names : Names) (n k : ℕ) (s : Symbol) → is_at AnOutput k s ≡ true → k < length names.outputs → get_or (named_at names n s.named s.place s.name).outputs k None ≡ Some s.name
output_hit names n k s at h = by s.named at
  where
    by : (sort : Named) → (eqb (named_letter sort) 111 && eqb s.place k) ≡ true → get_or (named_at names n sort s.place s.name).outputs k None ≡ Some s.name
    by AnInput at = absurd (cc)
    by ALatch at = absurd (cc)
    by AnOutput at = set_here names.outputs s.place k s.name at h

output_miss : (names : Names) (n k : ℕ) (s : Symbol) → is_at AnOutput k s ≡ false → get_or (named_at names n s.named s.place s.name).outputs k None ≡ get_or names.outputs k None
output_miss names n k s away = by s.named away
  where
    by : (sort : Named) → (eqb (named_letter sort) 111 && eqb s.place k) ≡ false → get_or (named_at names n sort s.place s.name).outputs k None ≡ get_or names.outputs k None
    by AnInput away = refl
    by ALatch away = refl
    by AnOutput away = set_away names.outputs s.place k s.name away

-- what ends the file
pub comment_read : (names : Names) (n : ℕ) (comment : Option (List ℕ)) → ending_from names n (lines_of (comment_text comment)) ≡ Ok (record { names = names; line = n; comment = comment })
comment_read names n None = refl
comment_read names n (Some comment) =
    ap (ending_from names n) (slice_split_at (is_byte 10) (99 ∷ []) 10 comment (All-cons (λ b. is_byte 10 b ≡ false) 99 [] refl (All-nil (λ b. is_byte 10 b ≡ false))) refl)
    ∙ ending_by names n [] (99 ∷ []) (lines_of comment) true (has_piece comment) refl
    ∙ ap (λ (text : List ℕ). Ok (record { names = names; line = n; comment = Some text })) (join_with_byte-slice_split 10 comment)

module _ (bytes : List ℕ) (size : length bytes < 2 ^ 64) (c : Circuit) (comment : Option (List ℕ)) (reads : ReadsAs bytes c comment) where
  abbrev names_lines : List (List ℕ)
  names_lines = map symbol_line reads.symbols

  few : length c.outputs < 2 ^ 64
  few =
      let m : length (map decimal c.outputs) ≡ length c.outputs = rw length-map refl in
      let fits : length (map decimal c.outputs) ≤ length bytes =
      subst (λ (text : List ℕ). length (map decimal c.outputs) ≤ length text) (sym reads.bytes_are)
      (third_fits (header_line c reads.further ∷ map decimal c.inputs) reads.latch_lines (map decimal c.outputs) (map gate_line c.gates) names_lines (comment_text comment)) in
      omega (arith, m, fits, size)

  small : (sort : Named) → places c sort < 2 ^ 64
  small sort = let room : length c.inputs + (length c.latches + length c.gates) ≤ c.variables = reads.circuit.room in
      let most : c.variables ≤ CIRCUIT_VARIABLES = reads.size in
      by sort (omega (arith, room, most)) (omega (arith, room, most))
    where
      by : (sort : Named) → length c.inputs < 2 ^ 64 → length c.latches < 2 ^ 64 → places c sort < 2 ^ 64
      by AnInput i l = i
      by ALatch i l = l
      by AnOutput i l = few

  abbrev blank : Names
  blank = no_names (whole c reads.circuit reads.size)

  blank_count : (sort : Named) → length (lines_for blank sort) ≡ places c sort
  blank_count AnInput = length-replicate {A = ℕ} (length c.inputs) 0
  blank_count ALatch = length-replicate {A = ℕ} (length c.latches) 0
  blank_count AnOutput = length-replicate {A = ℕ} (length c.outputs) 0

  blank_lines : (sort : Named) (k : ℕ) → slice_index (lines_for blank sort) k ≡ 0
  blank_lines AnInput k = zeros (length c.inputs) k
  blank_lines ALatch k = zeros (length c.latches) k
  blank_lines AnOutput k = zeros (length c.outputs) k

  may : MayCome c small blank reads.symbols
  may = record {
    count = blank_count;
    fits = reads.symbols_fit;
    unset = λ k d h. blank_lines (get_or reads.symbols k d).named (get_or reads.symbols k d).place;
    apart = reads.named_once;
  }

  abbrev first : ℕ
  first = behind c reads.circuit reads.size

  abbrev names : Names
  names = after blank first reads.symbols

  abbrev parts : Parts
  parts = record { draft = whole c reads.circuit reads.size; ending = record { names = names; line = first + length reads.symbols; comment = comment } }

  parts_are : circuit_parts bytes ≡ Ok parts
  parts_are =
      ap circuit_parts reads.bytes_are
      ∙ parts_read c reads.circuit reads.size few reads.further reads.at_most_four reads.latch_lines reads.latches names_lines (symbols-lack c small reads.symbols reads.symbols_fit) (comment_text comment)
      ∙ ap (and_then (with_ending (whole c reads.circuit reads.size))) (symbols_read c small blank first reads.symbols (lines_of (comment_text comment)) may (has_piece (comment_text comment))
      ∙ comment_read names (first + length reads.symbols) comment)

  input_names : names.inputs ≡ c.input_names
  input_names = names_after AnInput (λ (names : Names). names.inputs) inputs_stay input_hit input_miss blank first (length c.inputs) reads.symbols reads.named_once refl ∙ sym reads.input_names

  output_names : names.outputs ≡ c.output_names
  output_names = names_after AnOutput (λ (names : Names). names.outputs) outputs_stay output_hit output_miss blank first (length c.outputs) reads.symbols reads.named_once refl ∙ sym reads.output_names

  circuit_is : circuit_of parts ≡ c
  circuit_is = λ k. record { variables = c.variables; inputs = c.inputs; latches = c.latches; outputs = c.outputs; gates = c.gates; input_names = input_names k; output_names = output_names k }

  pub is_stated : IsStatedAs bytes c comment
  is_stated = record {
    file = file_of (length bytes) parts;
    states = record { parts = parts; lines = parts_are; uses = all_known c reads.circuit reads.size; no_cycle = λ k h on. reads.circuit.no_cycle _ on; file_is = refl };
    circuit_is = circuit_is;
    comment_is = refl;
  }

pub readings_are_stated : (bytes : List ℕ) → length bytes < 2 ^ 64 → ReadingsAreStated bytes
readings_are_stated bytes size c comment reads = is_stated bytes size c comment reads

pub readings_agree : (bytes : List ℕ) → length bytes < 2 ^ 64 → ReadingsAgree bytes
readings_agree bytes size c d of_c of_d a b =
    let first : IsStatedAs bytes c of_c = is_stated bytes size c of_c a in
    let second : IsStatedAs bytes d of_d = is_stated bytes size d of_d b in
    sym first.circuit_is ∙ ap (λ (f : File). f.circuit) (files_state_one_thing bytes first.file second.file first.states second.states) ∙ second.circuit_is
