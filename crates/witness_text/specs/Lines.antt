-- The text of a witness with the logs of its obligations (this project's own): numbers have no leading zeros, one space stands
-- between words, and each line is ended by LF.
use Rattle.std.specs.Prelude.{ℕ, ◌+◌, ◌-◌, ◌%◌, List, [], ◌∷◌, ◌++◌, length, map, codes, decimal, nat_eq, nat_lt, if◌then◌else◌}
use Rattle.refutation_log.specs.Text.{log_text}
use Rattle.aiger_text.specs.CircuitText.{numbers_line, text_of_lines}
use Rattle.document_text.specs.Lines.{end_text}
use Rattle.truth_witness.specs.declared.witnesses.Operands.{Operands}
use Rattle.truth_witness.specs.Witness.{Part, Witness}
use Rattle.truth_witness.specs.Logs.{ObligationLog}

-- what lines begin with
abbrev pub witness_words : List ℕ
witness_words = codes "witness "

abbrev pub latch_words : List ℕ
latch_words = codes "latch "

abbrev pub gate_words : List ℕ
gate_words = codes "gate "

abbrev pub always_words : List ℕ
always_words = codes "always "

abbrev pub part_words : List ℕ
part_words = codes "part "

-- how many latches, gates and parts there are
abbrev pub head_line : Witness → List ℕ
head_line w = witness_words ++ numbers_line (length w.latches ∷ length w.gates ∷ length w.parts ∷ [])

abbrev pub latch_line : ℕ → List ℕ
latch_line next = latch_words ++ numbers_line (next ∷ [])

abbrev pub gate_line : Operands → List ℕ
gate_line g = gate_words ++ numbers_line (g.left ∷ g.right ∷ [])

abbrev pub always_line : ℕ → List ℕ
always_line l = always_words ++ numbers_line (l ∷ [])

-- how many bits the rank and the index have stands before them
abbrev pub part_numbers : Part → List ℕ
part_numbers p = p.start ∷ p.inv ∷ length p.rank ∷ length p.index ∷ (p.rank ++ p.index)

abbrev pub part_line : Part → List ℕ
part_line p = part_words ++ numbers_line (part_numbers p)

-- the line `witness`, and those of latches, of gates, of `always` and of parts
abbrev pub statement_text : Witness → List ℕ
statement_text w =
    text_of_lines (head_line w ∷ []) ++ (text_of_lines (map latch_line w.latches) ++ (text_of_lines (map gate_line w.gates)
    ++ (text_of_lines (always_line w.always ∷ []) ++ text_of_lines (map part_line w.parts))))

-- the words before the numbers of a proof's head, by the place of its obligation: three are of the whole, then three of each part
abbrev pub words_of_part : ℕ → List ℕ
words_of_part k =
    if nat_eq (k % 3) 0 then codes "proof enter " else if nat_eq (k % 3) 1 then codes "proof stay " else codes "proof fall "

abbrev pub proof_words : ℕ → List ℕ
proof_words k =
    if nat_eq k 0 then codes "proof base " else if nat_eq k 1 then codes "proof keep " else if nat_eq k 2 then codes "proof cover "
    else words_of_part k

-- the head of a proof: the numbers of its variables, of its base clauses and of its entries
abbrev pub proof_line : ℕ → ℕ → ℕ → ℕ → List ℕ
proof_line k vars base count = proof_words k ++ numbers_line (vars ∷ base ∷ count ∷ [])

-- a proof's head, and a line for each of its entries
abbrev pub proof_part : ℕ → ObligationLog → List ℕ
proof_part k log = text_of_lines (proof_line k log.vars log.base (length log.entries) ∷ []) ++ log_text log.entries

-- the proofs from the place k on
abbrev pub proofs_text : ℕ → List ObligationLog → List ℕ
proofs_text k [] = []
proofs_text k (log ∷ logs) = proof_part k log ++ proofs_text (k + 1) logs

-- the lines from `witness` to `end`
abbrev pub witness_text : Witness → List ObligationLog → List ℕ
witness_text w logs = statement_text w ++ (proofs_text 0 logs ++ end_text)
