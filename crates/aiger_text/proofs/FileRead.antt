-- A file that was written line by line, read back up to its names.
use Rattle.std.proofs.Common.{◌≡◌, ℕ, zero, suc, ◌+◌, ◌*◌, ◌^◌, ◌<◌, ◌≤◌, Bool, true, false, not, cond, eqb, Some, None, List, [], ◌∷◌, ◌++◌, length, get_or, replicate, refl, sym, ap, subst, ◌∙◌, arith, inl, inr, decimal}
use Rattle.std.specs.Prelude.{map, All, nat_lt, min, option_and_then, Ok, Err}
use Rattle.std.specs.List.{list_all, AllZip}
use Rattle.std.proofs.lemmas.Bool.{le-leb, le-ltb}
use Rattle.std.proofs.lemmas.List.{append_assoc, length-append, length-map, length-replicate}
use Rattle.std.proofs.lemmas.List.Elements.{All-append, All-cons, All-map, All-replicate, All-nil}
use Rattle.std.proofs.lemmas.List.Splits.{slice_split_at}
use Rattle.text_limits.specs.declared.TheConstants.{CIRCUIT_VARIABLES}
use Rattle.aiger_text.specs.declared.circuits.Latch.{Latch}
use Rattle.aiger_text.specs.declared.circuits.Gate.{Gate}
use Rattle.aiger_text.specs.declared.faults.CircuitFault.TheVariants.{BadHeader, TooLarge, Unsupported}
use Rattle.aiger_text.specs.Circuit.{Circuit}
use Rattle.aiger_text.specs.CircuitType.{IsCircuit}
use Rattle.aiger_text.specs.CircuitText.{text_of_lines, numbers_line, header_line, gate_line, IsLatchLine}
use Rattle.aiger_text.specs.CircuitFile.{Header, lines_of, and_then, on_line, header_of, header_of_words, header_of_numbers, counts_in, circuit_parts, parts_of_lines, parts_behind, ending_from, no_names}
use Rattle.aiger_text.specs.Words.{is_byte}
use Rattle.aiger_text.specs.Sound.{IsOwn}
use Rattle.aiger_text.proofs.Scanning.{HasPiece, has_piece, on_line-more}
use Rattle.aiger_text.proofs.Numbers.{AreSmall, Lacks, line-lacks, decimal-lacks, words_of-numbers, numbers_of-decimals}
use Rattle.aiger_text.proofs.Assembly.{with_ending, behind_body}
use Rattle.aiger_text.proofs.BodyRead.{counts_of, whole, behind, body_read, has_append, definable, next_known, outputs_known, operands_known, front, back, of_map}

-- lines that are ended are pieces
pub lines_of-text : (lines : List (List ℕ)) (tail : List ℕ) → All (Lacks 10) lines → lines_of (text_of_lines lines ++ tail) ≡ lines ++ lines_of tail
lines_of-text [] tail all = refl
lines_of-text (l ∷ ls) tail all =
    ap lines_of (append_assoc (l ++ 10 ∷ []) (text_of_lines ls) tail ∙ append_assoc l (10 ∷ []) (text_of_lines ls ++ tail))
    ∙ slice_split_at (is_byte 10) l 10 (text_of_lines ls ++ tail) (all 0 l (omega arith)) refl
    ∙ ap (λ (pieces : List (List ℕ)). l ∷ pieces) (lines_of-text ls tail (λ k d h. all (suc k) d (omega arith)))

-- a text has at least a byte for each line
pub enough_bytes : (lines : List (List ℕ)) → length lines ≤ length (text_of_lines lines)
enough_bytes [] = omega arith
enough_bytes (l ∷ ls) =
    let rest : length ls ≤ length (text_of_lines ls) = enough_bytes ls in
    let a : length ((l ++ 10 ∷ []) ++ text_of_lines ls) ≡ length (l ++ 10 ∷ []) + length (text_of_lines ls) = length-append (l ++ 10 ∷ []) (text_of_lines ls) in
    let b : length (l ++ 10 ∷ []) ≡ length l + 1 = length-append l (10 ∷ []) in
    let goal : suc (length ls) ≤ length ((l ++ 10 ∷ []) ++ text_of_lines ls) = omega (arith, rest, a, b) in goal

all_zeros : (n : ℕ) → list_all (λ n. eqb n 0) (replicate n 0) ≡ true
all_zeros zero = refl
all_zeros (suc n) = all_zeros n

five : {X : Type 0} (a b c d e : List X) → a ++ b ++ c ++ d ++ e ≡ a ++ (b ++ (c ++ (d ++ e)))
five a b c d e = append_assoc (a ++ b ++ c) d e ∙ append_assoc (a ++ b) c (d ++ e) ∙ append_assoc a b (c ++ (d ++ e))

-- a text has at least a byte for each of some of its lines
pub third_fits : (a b c d e : List (List ℕ)) (tail : List ℕ) → length c ≤ length (text_of_lines (a ++ b ++ c ++ d ++ e) ++ tail)
third_fits a b c d e tail =
    let text : length (a ++ b ++ c ++ d ++ e) ≤ length (text_of_lines (a ++ b ++ c ++ d ++ e)) = enough_bytes (a ++ b ++ c ++ d ++ e) in
    let both : length (text_of_lines (a ++ b ++ c ++ d ++ e) ++ tail) ≡ length (text_of_lines (a ++ b ++ c ++ d ++ e)) + length tail = length-append (text_of_lines (a ++ b ++ c ++ d ++ e)) tail in
    let l4 : length (a ++ b ++ c ++ d ++ e) ≡ length (a ++ b ++ c ++ d) + length e = length-append (a ++ b ++ c ++ d) e in
    let l3 : length (a ++ b ++ c ++ d) ≡ length (a ++ b ++ c) + length d = length-append (a ++ b ++ c) d in
    let l2 : length (a ++ b ++ c) ≡ length (a ++ b) + length c = length-append (a ++ b) c in
    omega (arith, text, both, l4, l3, l2)

small_cons : (n : ℕ) (ns : List ℕ) → n < 2 ^ 64 → AreSmall ns → AreSmall (n ∷ ns)
small_cons n ns h all = All-cons (λ n. n < 2 ^ 64) n ns h all

small_two : (a b : ℕ) → a < 2 ^ 64 → b < 2 ^ 64 → AreSmall (a ∷ b ∷ [])
small_two a b ha hb = small_cons a (b ∷ []) ha (small_cons b [] hb (All-nil (λ n. n < 2 ^ 64)))

small_three : (a b c : ℕ) → a < 2 ^ 64 → b < 2 ^ 64 → c < 2 ^ 64 → AreSmall (a ∷ b ∷ c ∷ [])
small_three a b c ha hb hc = small_cons a (b ∷ c ∷ []) ha (small_two b c hb hc)

lacks_cons : (b : ℕ) (bs : List ℕ) → is_byte 10 b ≡ false → Lacks 10 bs → Lacks 10 (b ∷ bs)
lacks_cons b bs h all = All-cons (λ b. is_byte 10 b ≡ false) b bs h all

module _ (c : Circuit) (kept : IsCircuit c) (size : c.variables ≤ CIRCUIT_VARIABLES) (few : length c.outputs < 2 ^ 64) (further : ℕ) (four : further ≤ 4) where
  abbrev numbers : List ℕ
  numbers = c.variables ∷ length c.inputs ∷ length c.latches ∷ length c.outputs ∷ length c.gates ∷ replicate further 0

  small : AreSmall numbers
  small =
      let room : length c.inputs + (length c.latches + length c.gates) ≤ c.variables = kept.room in
      let zeros : AreSmall (replicate further 0) = All-replicate (λ n. n < 2 ^ 64) further 0 (omega arith) in
      let gates : AreSmall (length c.gates ∷ replicate further 0) = small_cons (length c.gates) (replicate further 0) (omega (arith, size, room)) zeros in
      let outputs : AreSmall (length c.outputs ∷ length c.gates ∷ replicate further 0) = small_cons (length c.outputs) (length c.gates ∷ replicate further 0) few gates in
      let latches : AreSmall (length c.latches ∷ length c.outputs ∷ length c.gates ∷ replicate further 0) =
      small_cons (length c.latches) (length c.outputs ∷ length c.gates ∷ replicate further 0) (omega (arith, size, room)) outputs in
      let inputs : AreSmall (length c.inputs ∷ length c.latches ∷ length c.outputs ∷ length c.gates ∷ replicate further 0) =
      small_cons (length c.inputs) (length c.latches ∷ length c.outputs ∷ length c.gates ∷ replicate further 0) (omega (arith, size, room)) latches in
      small_cons c.variables (length c.inputs ∷ length c.latches ∷ length c.outputs ∷ length c.gates ∷ replicate further 0) (omega (arith, size)) inputs

  abbrev header : Header
  header = record { counts = counts_of c kept size; further = replicate further 0 }

  header_is : header_of (header_line c further) ≡ Some header
  header_is =
      let few_further : length (replicate further 0) ≤ 4 = omega (arith, four, length-replicate {A = ℕ} further 0) in
      ap header_of_words (words_of-numbers c.variables (length c.inputs ∷ length c.latches ∷ length c.outputs ∷ length c.gates ∷ replicate further 0) small)
      ∙ ap (option_and_then header_of_numbers) (numbers_of-decimals numbers small)
      ∙ ap (λ b. cond b (Some header) None) (le-leb (length (replicate further 0)) 4 few_further)

  counts_read : (room : ℕ) → length c.outputs ≤ room → counts_in room (header_of (header_line c further)) ≡ Ok (counts_of c kept size)
  counts_read room enough =
      let sum : length c.inputs + (length c.latches + length c.gates) ≤ c.variables = kept.room in
      let least : min (length c.outputs) room ≡ length c.outputs = omega (arith, enough) in
      ap (counts_in room) header_is
      ∙ ap (λ b. cond b (Err (BadHeader 1)) (cond (nat_lt CIRCUIT_VARIABLES c.variables) (Err (TooLarge 1)) (cond (not (list_all (λ n. eqb n 0) (replicate further 0))) (Err (Unsupported 1))
      (Ok (record (counts_of c kept size) { outputs = min (length c.outputs) room }))))) (le-ltb c.variables (length c.inputs + (length c.latches + length c.gates)) sum)
      ∙ ap (λ b. cond b (Err (TooLarge 1)) (cond (not (list_all (λ n. eqb n 0) (replicate further 0))) (Err (Unsupported 1)) (Ok (record (counts_of c kept size) { outputs = min (length c.outputs) room }))))
      (le-ltb CIRCUIT_VARIABLES c.variables size)
      ∙ ap (λ b. cond (not b) (Err (Unsupported 1)) (Ok (record (counts_of c kept size) { outputs = min (length c.outputs) room }))) (all_zeros further)
      ∙ ap (λ n. Ok (record (counts_of c kept size) { outputs = n })) least

  header-lacks : Lacks 10 (header_line c further)
  header-lacks =
      lacks_cons 97 (97 ∷ 103 ∷ 32 ∷ numbers_line numbers) refl (lacks_cons 97 (103 ∷ 32 ∷ numbers_line numbers) refl
      (lacks_cons 103 (32 ∷ numbers_line numbers) refl (lacks_cons 32 (numbers_line numbers) refl (line-lacks numbers small))))

  literal_small : (l : ℕ) → l ≤ 2 * c.variables + 1 → l < 2 ^ 64
  literal_small l range = omega (arith, range, size)

  abbrev latch_literals : List ℕ
  latch_literals = map (λ (latch : Latch). latch.literal) c.latches

  abbrev gate_literals : List ℕ
  gate_literals = map (λ (gate : Gate). gate.literal) c.gates

  inputs_own : All (IsOwn (counts_of c kept size)) c.inputs
  inputs_own = front (IsOwn (counts_of c kept size)) c.inputs (latch_literals ++ gate_literals) (definable c kept size)

  others_own : All (IsOwn (counts_of c kept size)) (latch_literals ++ gate_literals)
  others_own = back (IsOwn (counts_of c kept size)) c.inputs (latch_literals ++ gate_literals) (definable c kept size)

  latches_own : All (λ (latch : Latch). IsOwn (counts_of c kept size) latch.literal) c.latches
  latches_own = of_map (IsOwn (counts_of c kept size)) (λ (latch : Latch). latch.literal) c.latches (front (IsOwn (counts_of c kept size)) latch_literals gate_literals others_own)

  gates_own : All (λ (gate : Gate). IsOwn (counts_of c kept size) gate.literal) c.gates
  gates_own = of_map (IsOwn (counts_of c kept size)) (λ (gate : Gate). gate.literal) c.gates (back (IsOwn (counts_of c kept size)) latch_literals gate_literals others_own)

  inputs-lack : All (Lacks 10) (map decimal c.inputs)
  inputs-lack = All-map (Lacks 10) decimal c.inputs (λ k d h. decimal-lacks 10 (get_or c.inputs k d) refl (literal_small (get_or c.inputs k d) (inputs_own k d h).within))

  outputs-lack : All (Lacks 10) (map decimal c.outputs)
  outputs-lack = All-map (Lacks 10) decimal c.outputs (λ k d h. decimal-lacks 10 (get_or c.outputs k d) refl (literal_small (get_or c.outputs k d) (outputs_known c kept size k d h).in_range))

  abbrev IsSmallLatch : Latch → Type 0
  IsSmallLatch latch = (latch.literal < 2 ^ 64) × (latch.next < 2 ^ 64)

  latch-lacks : (latch : Latch) (line : List ℕ) → IsSmallLatch latch → IsLatchLine latch line → Lacks 10 line
  latch-lacks latch line low (inl short) = rw short.0 (line-lacks (latch.literal ∷ latch.next ∷ []) (small_two latch.literal latch.next low.0 low.1))
  latch-lacks latch line low (inr long) =
      rw long (line-lacks (latch.literal ∷ latch.next ∷ cond latch.reset 1 0 ∷ []) (small_three latch.literal latch.next (cond latch.reset 1 0) low.0 low.1 (bit latch.reset)))
    where
      bit : (b : Bool) → cond b 1 0 < 2 ^ 64
      bit true = omega arith
      bit false = omega arith

  latches-lack : (latches : List Latch) (lines : List (List ℕ)) → All IsSmallLatch latches → AllZip IsLatchLine latches lines → All (Lacks 10) lines
  latches-lack [] [] low are = λ k d h. absurd (omega arith)
  latches-lack [] (line ∷ lines) low are = absurd are
  latches-lack (x ∷ latches) [] low are = absurd are
  latches-lack (x ∷ latches) (line ∷ lines) low are =
      All-cons (Lacks 10) line lines (latch-lacks x line (low 0 x (omega arith)) are.0) (latches-lack latches lines (λ k d h. low (suc k) d (omega arith)) are.1)

  small_latches : All IsSmallLatch c.latches
  small_latches k d h = (literal_small (get_or c.latches k d).literal (latches_own k d h).within, literal_small (get_or c.latches k d).next (next_known c kept size k d h).in_range)

  gates-lack : All (Lacks 10) (map gate_line c.gates)
  gates-lack = All-map (Lacks 10) gate_line c.gates (λ k d h.
      let operands = operands_known c kept size k d h in
      line-lacks ((get_or c.gates k d).literal ∷ (get_or c.gates k d).left ∷ (get_or c.gates k d).right ∷ [])
      (small_three (get_or c.gates k d).literal (get_or c.gates k d).left (get_or c.gates k d).right (literal_small (get_or c.gates k d).literal (gates_own k d h).within)
      (literal_small (get_or c.gates k d).left operands.0.in_range) (literal_small (get_or c.gates k d).right operands.1.in_range)))

  module _ (latch_lines : List (List ℕ)) (are : AllZip IsLatchLine c.latches latch_lines) (names : List (List ℕ)) (lack : All (Lacks 10) names) (tail : List ℕ) where
    abbrev lines : List (List ℕ)
    lines = header_line c further ∷ map decimal c.inputs ++ latch_lines ++ map decimal c.outputs ++ map gate_line c.gates ++ names

    abbrev pieces : List (List ℕ)
    pieces = names ++ lines_of tail

    abbrev body_pieces : List (List ℕ)
    body_pieces = map decimal c.inputs ++ (latch_lines ++ (map decimal c.outputs ++ (map gate_line c.gates ++ pieces)))

    lines_are : lines ≡ header_line c further ∷ map decimal c.inputs ++ (latch_lines ++ (map decimal c.outputs ++ (map gate_line c.gates ++ names)))
    lines_are = five (header_line c further ∷ map decimal c.inputs) latch_lines (map decimal c.outputs) (map gate_line c.gates) names

    all-lack : All (Lacks 10) lines
    all-lack = subst (All (Lacks 10)) (sym lines_are) (All-append (Lacks 10) (header_line c further ∷ map decimal c.inputs) (latch_lines ++ (map decimal c.outputs ++ (map gate_line c.gates ++ names))) (All-cons (Lacks 10) (header_line c further) (map decimal c.inputs) header-lacks inputs-lack)
        (All-append (Lacks 10) latch_lines (map decimal c.outputs ++ (map gate_line c.gates ++ names)) (latches-lack c.latches latch_lines small_latches are) (All-append (Lacks 10) (map decimal c.outputs) (map gate_line c.gates ++ names) outputs-lack
        (All-append (Lacks 10) (map gate_line c.gates) names gates-lack lack))))

    pieces_are : lines_of (text_of_lines lines ++ tail) ≡ header_line c further ∷ body_pieces
    pieces_are =
        lines_of-text lines tail all-lack ∙ ap (λ (ls : List (List ℕ)). ls ++ lines_of tail) lines_are
        ∙ ap (λ (ls : List (List ℕ)). header_line c further ∷ ls) (
        append_assoc (map decimal c.inputs) (latch_lines ++ (map decimal c.outputs ++ (map gate_line c.gates ++ names))) (lines_of tail)
        ∙ ap (λ (ls : List (List ℕ)). map decimal c.inputs ++ ls) (append_assoc latch_lines (map decimal c.outputs ++ (map gate_line c.gates ++ names)) (lines_of tail)
        ∙ ap (λ (ls : List (List ℕ)). latch_lines ++ ls) (append_assoc (map decimal c.outputs) (map gate_line c.gates ++ names) (lines_of tail)
        ∙ ap (λ (ls : List (List ℕ)). map decimal c.outputs ++ ls) (append_assoc (map gate_line c.gates) names (lines_of tail))))
        )

    enough : length c.outputs ≤ length (text_of_lines lines ++ tail) + 1
    enough =
        let m : length (map decimal c.outputs) ≡ length c.outputs = rw length-map refl in
        omega (arith, m, third_fits (header_line c further ∷ map decimal c.inputs) latch_lines (map decimal c.outputs) (map gate_line c.gates) names tail)

    pub parts_read : circuit_parts (text_of_lines lines ++ tail) ≡ and_then (with_ending (whole c kept size)) (ending_from (no_names (whole c kept size)) (behind c kept size) pieces)
    parts_read =
        let has : HasPiece pieces = has_append names (lines_of tail) (has_piece tail) in
        let body : HasPiece body_pieces = has_append (map decimal c.inputs) (latch_lines ++ (map decimal c.outputs ++ (map gate_line c.gates ++ pieces)))
        (has_append latch_lines (map decimal c.outputs ++ (map gate_line c.gates ++ pieces)) (has_append (map decimal c.outputs) (map gate_line c.gates ++ pieces) (has_append (map gate_line c.gates) pieces has))) in
        ap (parts_of_lines (length (text_of_lines lines ++ tail) + 1)) pieces_are
        ∙ ap (and_then (λ counts. on_line body_pieces 1 (parts_behind counts body_pieces))) (counts_read (length (text_of_lines lines ++ tail) + 1) enough)
        ∙ on_line-more body_pieces 1 (parts_behind (counts_of c kept size) body_pieces) body
        ∙ ap (and_then behind_body) (body_read c kept size latch_lines are pieces has)
