-- The lines that the program writes where it refuses a file (this project's own).
use Rattle.std.specs.Prelude.{ℕ, List, ◌++◌, ◌==◌, codes, decimal}
use Rattle.std.specs.List.{count_by}
use Rattle.spec_faults.specs.declared.code.SpecCode.{SpecCode}
use Rattle.spec_faults.specs.Codes.{name_of, code_number}

-- a text: `refused K NAME at P`, with the fault's number and word, and its byte place
abbrev pub refusal_line : SpecCode → ℕ → List ℕ
refusal_line code place =
    codes "refused " ++ decimal (code_number code) ++ codes " " ++ name_of code ++ codes " at " ++ decimal place ++ codes "\n"

-- a certificate or a word: `refused at line N`, with the number of the line, from 1
abbrev pub line_refusal : ℕ → List ℕ
line_refusal line = codes "refused at line " ++ decimal line ++ codes "\n"

-- how many lines bytes are, each of which has its line end
abbrev pub line_count : List ℕ → ℕ
line_count bytes = count_by (λ byte. byte == 10) bytes
