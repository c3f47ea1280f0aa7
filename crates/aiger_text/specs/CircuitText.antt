-- Which circuit a file's bytes are, in the ASCII format (AIGER 1.9, in this project's subset).
use Rattle.std.specs.Prelude.{◌≡◌, ◌≢◌, ◌==◌, ℕ, ◌+◌, ◌<◌, ◌≤◌, Bool, false, not, ◌&&◌, ◌⊎◌, Option, Some, None, List, [], ◌∷◌, ◌++◌, map, length, replicate, All, IsTrue, find, flat_map, slice_index_or, decimal, codes, if◌then◌else◌}
use Rattle.std.specs.List.{join_with_byte, list_all, AllZip, range_with_len}
use Rattle.std.specs.Option.{option_map}
use Rattle.text_limits.specs.declared.TheConstants.{CIRCUIT_VARIABLES}
use Rattle.aiger_text.specs.declared.circuits.Latch.{Latch}
use Rattle.aiger_text.specs.declared.circuits.Gate.{Gate}
use Rattle.aiger_text.specs.declared.symbols.Named.{Named}
use Rattle.aiger_text.specs.declared.symbols.Named.TheVariants.{AnInput, ALatch, AnOutput}
use Rattle.aiger_text.specs.Circuit.{Circuit}
use Rattle.aiger_text.specs.CircuitType.{IsCircuit}

-- numbers without leading zeros, a space between them
abbrev pub numbers_line : List ℕ → List ℕ
numbers_line numbers = join_with_byte 32 (map decimal numbers)

-- maximum variable, inputs, latches, outputs, gates, and further counts, which are 0
abbrev pub header_line : Circuit → ℕ → List ℕ
header_line c further =
    codes "aag " ++ numbers_line ((c.variables ∷ length c.inputs ∷ length c.latches ∷ length c.outputs ∷ length c.gates ∷ [])
    ++ replicate further 0)

-- a reset of 0 may be left out
abbrev pub IsLatchLine : Latch → List ℕ → Type 0
IsLatchLine latch line =
    ((line ≡ numbers_line (latch.literal ∷ latch.next ∷ [])) × (latch.reset ≡ false))
    ⊎ (line ≡ numbers_line (latch.literal ∷ latch.next ∷ (if latch.reset then 1 else 0) ∷ []))

abbrev pub gate_line : Gate → List ℕ
gate_line gate = numbers_line (gate.literal ∷ gate.left ∷ gate.right ∷ [])

-- the letter that a symbol line begins with
abbrev pub named_letter : Named → ℕ
named_letter AnInput = 105
named_letter ALatch = 108
named_letter AnOutput = 111

-- the name of an input, latch or output by its place, from 0
pub record Symbol : Type 0 where
  pub named : Named
  pub place : ℕ
  pub name : List ℕ

abbrev pub symbol_line : Symbol → List ℕ
symbol_line s = named_letter s.named ∷ decimal s.place ++ 32 ∷ s.name

abbrev pub places : Circuit → Named → ℕ
places c AnInput = length c.inputs
places c ALatch = length c.latches
places c AnOutput = length c.outputs

-- the place is there, and the name is not empty and stays within its line
pub record IsSymbolOf (c : Circuit) (s : Symbol) : Type 0 where
  pub place : s.place < places c s.named
  pub nonempty : s.name ≢ []
  pub one_line : IsTrue (list_all (λ b. not (b == 10)) s.name)

abbrev pub is_at : Named → ℕ → Symbol → Bool
is_at named place s = (named_letter s.named == named_letter named) && (s.place == place)

-- the names of so many places, each with the one that a symbol gives it
abbrev pub names_of : List Symbol → Named → ℕ → List (Option (List ℕ))
names_of symbols named count =
    map (λ place. option_map (λ s. s.name) (find (is_at named place) symbols)) (range_with_len 0 count)

-- each line with its end
abbrev pub text_of_lines : List (List ℕ) → List ℕ
text_of_lines lines = flat_map (λ line. line ++ 10 ∷ []) lines

-- the line `c` and what follows it
abbrev pub comment_text : Option (List ℕ) → List ℕ
comment_text None = []
comment_text (Some comment) = codes "c" ++ 10 ∷ comment

-- These bytes are this circuit with these names: the header, with at most four further counts, a line for each
-- input, latch, output and gate in order, the symbol lines in any order, and then nothing, or the line `c`
-- with the comment behind it.
pub record ReadsAs (bytes : List ℕ) (c : Circuit) (comment : Option (List ℕ)) : Type 0 where
  pub further : ℕ
  pub at_most_four : further ≤ 4
  pub latch_lines : List (List ℕ)
  pub latches : AllZip IsLatchLine c.latches latch_lines
  pub symbols : List Symbol
  pub bytes_are : bytes ≡ text_of_lines (header_line c further ∷ map decimal c.inputs ++ latch_lines
      ++ map decimal c.outputs ++ map gate_line c.gates ++ map symbol_line symbols) ++ comment_text comment
  pub symbols_fit : All (IsSymbolOf c) symbols
  pub named_once : (i k : ℕ) (d : Symbol) → i < k → k < length symbols →
      IsTrue (is_at (slice_index_or symbols i d).named (slice_index_or symbols i d).place (slice_index_or symbols k d)) → ⊥
  pub input_names : c.input_names ≡ names_of symbols AnInput (length c.inputs)
  pub output_names : c.output_names ≡ names_of symbols AnOutput (length c.outputs)
  pub circuit : IsCircuit c
  pub size : c.variables ≤ CIRCUIT_VARIABLES

-- a reset of 0 is left out
abbrev pub latch_line : Latch → List ℕ
latch_line latch = numbers_line (if latch.reset then latch.literal ∷ latch.next ∷ 1 ∷ [] else latch.literal ∷ latch.next ∷ [])

-- the lines of the names that are there, the first of them being that of place `from`
abbrev pub name_lines : Named → ℕ → List (Option (List ℕ)) → List (List ℕ)
name_lines named from [] = []
name_lines named from (None ∷ names) = name_lines named (from + 1) names
name_lines named from (Some name ∷ names) = symbol_line (record { named = named; place = from; name = name }) ∷ name_lines named (from + 1) names

-- the lines of a circuit as this project writes it: no further counts, no latch names and no comment
abbrev pub circuit_lines : Circuit → List (List ℕ)
circuit_lines c =
    header_line c 0 ∷ map decimal c.inputs ++ map latch_line c.latches ++ map decimal c.outputs ++ map gate_line c.gates
    ++ name_lines AnInput 0 c.input_names ++ name_lines AnOutput 0 c.output_names

abbrev pub circuit_text : Circuit → List ℕ
circuit_text c = text_of_lines (circuit_lines c)
