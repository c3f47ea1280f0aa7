-- The lines of a witness up to its last part, read one after the other (this project's own).
use Rattle.std.specs.Prelude.{ℕ, zero, suc, ◌+◌, Option, Some, None, List, [], ◌∷◌, ◌++◌, length, option_and_then}
use Rattle.std.specs.Option.{option_map_or}
use Rattle.document_text.specs.Header.{front}
use Rattle.truth_witness.specs.declared.witnesses.Operands.{Operands}
use Rattle.truth_witness.specs.Witness.{Part}
use Rattle.witness_text.specs.declared.lines.WitnessCounts.{WitnessCounts}
use Rattle.witness_text.specs.Forms.{always_in, counts_in, gate_in, latch_in, part_in}

-- these values and those of the lines of one form that come next, so many at most, and the bytes behind them, where none is missing
abbrev pub values_from : {X : Type 0} → (List ℕ → Option X) → List X → ℕ → List ℕ → List X × Option (List ℕ)
values_from reading done zero bytes = (done, Some bytes)
values_from reading done (suc n) bytes =
    option_map_or (λ read. values_from reading (done ++ read.0 ∷ []) n read.1) (front reading bytes) (done, None)

-- the values of so many lines, where no line before them is missing
abbrev pub group : {X : Type 0} → (List ℕ → Option X) → ℕ → Option (List ℕ) → List X × Option (List ℕ)
group reading count None = ([], None)
group reading count (Some bytes) = values_from reading [] count bytes

-- what one line states, and the bytes behind it
abbrev pub parted : {X : Type 0} → Option (X × List ℕ) → Option X × Option (List ℕ)
parted None = (None, None)
parted (Some read) = (Some read.0, Some read.1)

abbrev pub single : {X : Type 0} → (List ℕ → Option X) → Option (List ℕ) → Option X × Option (List ℕ)
single reading bytes = parted (option_and_then (front reading) bytes)

-- What was read of these lines, and the bytes behind them, where none is missing.
pub record Statement : Type 0 where
  pub counts : Option WitnessCounts
  pub latches : List ℕ
  pub gates : List Operands
  pub always : Option ℕ
  pub parts : List Part
  pub rest : Option (List ℕ)

-- the lines of each kind behind those of the kind before it
abbrev pub latches_read : WitnessCounts → List ℕ → List ℕ × Option (List ℕ)
latches_read counts bytes = group latch_in counts.latches (Some bytes)

abbrev pub gates_read : WitnessCounts → List ℕ → List Operands × Option (List ℕ)
gates_read counts bytes = group gate_in counts.gates (latches_read counts bytes).1

abbrev pub always_read : WitnessCounts → List ℕ → Option ℕ × Option (List ℕ)
always_read counts bytes = single always_in (gates_read counts bytes).1

abbrev pub parts_read : WitnessCounts → List ℕ → List Part × Option (List ℕ)
parts_read counts bytes = group part_in counts.parts (always_read counts bytes).1

abbrev pub statement_behind : WitnessCounts → List ℕ → Statement
statement_behind counts bytes = record {
  counts = Some counts;
  latches = (latches_read counts bytes).0;
  gates = (gates_read counts bytes).0;
  always = (always_read counts bytes).0;
  parts = (parts_read counts bytes).0;
  rest = (parts_read counts bytes).1;
}

abbrev pub no_statement : Statement
no_statement = record { counts = None; latches = []; gates = []; always = None; parts = []; rest = None }

abbrev pub on_counts : Option (WitnessCounts × List ℕ) → Statement
on_counts None = no_statement
on_counts (Some read) = statement_behind read.0 read.1

-- what the bytes state up to the last part
abbrev pub statement_in : List ℕ → Statement
statement_in bytes = on_counts (front counts_in bytes)

-- how many lines were read
abbrev pub one_line : {X : Type 0} → Option X → ℕ
one_line None = 0
one_line (Some x) = 1

abbrev pub lines_of : Statement → ℕ
lines_of s = one_line s.counts + length s.latches + length s.gates + one_line s.always + length s.parts
