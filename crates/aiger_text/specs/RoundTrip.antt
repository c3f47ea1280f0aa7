-- What a written circuit says when it is read back (AIGER 1.9, in this project's subset).
use Rattle.std.specs.Prelude.{◌≡◌, ◌≢◌, ◌==◌, ℕ, ◌+◌, ◌-◌, ◌≤◌, not, Option, Some, None, List, [], ◌∷◌, ◌++◌, length, All, IsTrue, IfSome, option_map}
use Rattle.std.specs.List.{list_all}
use Rattle.text_limits.specs.declared.TheConstants.{CIRCUIT_VARIABLES}
use Rattle.aiger_text.specs.declared.faults.CircuitFault.{CircuitFault}
use Rattle.aiger_text.specs.Circuit.{Circuit}
use Rattle.aiger_text.specs.CircuitText.{circuit_lines, circuit_text, comment_text, ReadsAs}
use Rattle.aiger_text.specs.CircuitFile.{File, States, IsFirstFault}

-- a name that a line can hold: it isn't empty and has no line end
pub record IsLineName (name : List ℕ) : Type 0 where
  pub nonempty : name ≢ []
  pub one_line : IsTrue (list_all (λ b. not (b == 10)) name)

-- a circuit that a file can hold: it has no more variables than a circuit may have, and each name that it has is one of a line
pub record IsWritable (c : Circuit) : Type 0 where
  pub size : c.variables ≤ CIRCUIT_VARIABLES
  pub input_names : All (λ name. IfSome name IsLineName) c.input_names
  pub output_names : All (λ name. IfSome name IsLineName) c.output_names

-- the lines of names, the first of which stands in line n; 0 where there is no name
abbrev pub lines_from : ℕ → List (Option (List ℕ)) → List ℕ
lines_from n [] = []
lines_from n (None ∷ names) = 0 ∷ lines_from n names
lines_from n (Some name ∷ names) = n ∷ lines_from (n + 1) names

-- the line of the first name: behind the header and a line for each input, latch, output and gate
abbrev pub first_name_line : Circuit → ℕ
first_name_line c = 2 + length c.inputs + length c.latches + length c.outputs + length c.gates

-- what the written file states: the circuit, no comment, and the lines of its names
abbrev pub written_file : Circuit → File
written_file c = record {
  circuit = c;
  comment_at = None;
  comment_line = length (circuit_lines c) + 1;
  name_lines = lines_from (first_name_line c) (c.input_names ++ c.output_names);
}

-- the file states this and nothing else, and has no fault
pub record StatesOnly (bytes : List ℕ) (file : File) : Type 0 where
  pub states : States bytes file
  pub only : (other : File) → States bytes other → other ≡ file
  pub no_fault : (fault : CircuitFault) → IsFirstFault bytes fault → ⊥

-- what is written of a circuit states the circuit
abbrev pub WrittenIsRead : Circuit → Type 0
WrittenIsRead c = IsWritable c → StatesOnly (circuit_text c) (written_file c)

-- with the line `c` and a comment behind it, it states besides where the comment begins
abbrev pub CommentsAreRead : Circuit → Type 0
CommentsAreRead c =
    (comment : List ℕ) → IsWritable c
    → StatesOnly (circuit_text c ++ comment_text (Some comment)) (record (written_file c) { comment_at = Some (length (circuit_text c) + 2) })

-- the file states this circuit, and its comment begins where this one does
pub record IsStatedAs (bytes : List ℕ) (c : Circuit) (comment : Option (List ℕ)) : Type 0 where
  pub file : File
  pub states : States bytes file
  pub circuit_is : file.circuit ≡ c
  pub comment_is : file.comment_at ≡ option_map (λ text. length bytes - length text) comment

-- what a file reads as it states
abbrev pub ReadingsAreStated : List ℕ → Type 0
ReadingsAreStated bytes = (c : Circuit) (comment : Option (List ℕ)) → ReadsAs bytes c comment → IsStatedAs bytes c comment

-- a file reads as one circuit
abbrev pub ReadingsAgree : List ℕ → Type 0
ReadingsAgree bytes = (c d : Circuit) (of_c of_d : Option (List ℕ)) → ReadsAs bytes c of_c → ReadsAs bytes d of_d → c ≡ d
