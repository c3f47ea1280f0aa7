-- What one line of a witness states, where it is of its form (this project's own).
use Rattle.std.specs.Prelude.{ℕ, ◌+◌, ◌-◌, ◌^◌, ◌==◌, Bool, ◌&&◌, Option, Some, None, List, [], ◌∷◌, ◌++◌, length, take, drop, nat_le, option_map, option_and_then, if◌then◌else◌}
use Rattle.std.specs.List.{slice_split}
use Rattle.std.specs.Option.{option_map_or}
use Rattle.aiger_text.specs.Words.{cut_at, is_byte, number_within}
use Rattle.document_text.specs.Header.{behind, in_range}
use Rattle.document_text.specs.Order.{is_in_range}
use Rattle.truth_witness.specs.declared.witnesses.Operands.{Operands}
use Rattle.truth_witness.specs.declared.witnesses.TheConstants.{MAX_RANK_BITS, MAX_INDEX_BITS}
use Rattle.truth_witness.specs.Witness.{Part}
use Rattle.witness_text.specs.declared.lines.WitnessCounts.{WitnessCounts}
use Rattle.witness_text.specs.declared.logs.ProofHead.{ProofHead}
use Rattle.witness_text.specs.Lines.{always_words, gate_words, latch_words, part_words, proof_words, witness_words}

-- == lines of numbers ==

-- the greatest number of a line that isn't a proof's head
abbrev pub most_number : ℕ
most_number = 4294967295

-- what stands between spaces
abbrev pub words_in : List ℕ → List (List ℕ)
words_in text = slice_split (is_byte 32) text

-- these numbers, and those that words write
abbrev pub numbers_from : List ℕ → List (List ℕ) → Option (List ℕ)
numbers_from done [] = Some done
numbers_from done (word ∷ words) = option_map_or (λ n. numbers_from (done ++ n ∷ []) words) (in_range 0 most_number word) None

abbrev pub numbers_in : List ℕ → Option (List ℕ)
numbers_in text = numbers_from [] (words_in text)

-- the numbers behind these words
abbrev pub numbers_behind : List ℕ → List ℕ → Option (List ℕ)
numbers_behind words line = option_and_then numbers_in (behind words line)

-- == what numbers state ==

abbrev pub most_latches : ℕ
most_latches = 65536

abbrev pub most_gates : ℕ
most_gates = 1000000

abbrev pub most_parts : ℕ
most_parts = 256

abbrev pub are_counts : WitnessCounts → Bool
are_counts c = nat_le c.latches most_latches && (nat_le c.gates most_gates && is_in_range 1 most_parts c.parts)

abbrev pub counts_if : WitnessCounts → Option WitnessCounts
counts_if c = if are_counts c then Some c else None

abbrev pub counts_of : List ℕ → Option WitnessCounts
counts_of (latches ∷ gates ∷ parts ∷ []) = counts_if (record { latches = latches; gates = gates; parts = parts })
counts_of _ = None

abbrev pub one_of : List ℕ → Option ℕ
one_of (n ∷ []) = Some n
one_of _ = None

abbrev pub operands_of : List ℕ → Option Operands
operands_of (left ∷ right ∷ []) = Some (record { left = left; right = right })
operands_of _ = None

-- so many bits of a rank and of an index, and these literals
abbrev pub are_bits : ℕ → ℕ → List ℕ → Bool
are_bits rank index bits = nat_le rank MAX_RANK_BITS && (nat_le index MAX_INDEX_BITS && (length bits == rank + index))

abbrev pub part_of : List ℕ → Option Part
part_of (start ∷ inv ∷ rank ∷ index ∷ bits) =
    if are_bits rank index bits then Some (record { start = start; inv = inv; rank = take rank bits; index = drop rank bits }) else None
part_of _ = None

-- == lines ==

abbrev pub counts_in : List ℕ → Option WitnessCounts
counts_in line = option_and_then counts_of (numbers_behind witness_words line)

abbrev pub latch_in : List ℕ → Option ℕ
latch_in line = option_and_then one_of (numbers_behind latch_words line)

abbrev pub gate_in : List ℕ → Option Operands
gate_in line = option_and_then operands_of (numbers_behind gate_words line)

abbrev pub always_in : List ℕ → Option ℕ
always_in line = option_and_then one_of (numbers_behind always_words line)

abbrev pub part_in : List ℕ → Option Part
part_in line = option_and_then part_of (numbers_behind part_words line)

-- == heads of proofs ==

-- what a head states behind its words
abbrev pub head_of : List ℕ → Option ProofHead
head_of text =
    option_and_then (λ first. option_and_then (λ second. option_and_then (λ vars. option_and_then (λ base.
    option_map (λ count. record { vars = vars; base = base; count = count })
    (number_within (2 ^ 64 - 1) second.1)) (number_within (2 ^ 64 - 1) second.0)) (number_within (2 ^ 32 - 1) first.0))
    (cut_at 32 first.1)) (cut_at 32 text)

-- the head of the proof at the place k
abbrev pub head_in : ℕ → List ℕ → Option ProofHead
head_in k line = option_and_then head_of (behind (proof_words k) line)
