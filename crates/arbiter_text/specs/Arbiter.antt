-- The text of an arbiter (this project's own, in TLSF 1.1): n clients ask by the inputs r, the system answers by the
-- outputs g, one grant at a time, and each request is granted.
use Rattle.std.specs.Prelude.{ℕ, List, [], ◌∷◌, ◌++◌, codes, decimal}

-- each line with its end
abbrev pub text_of_lines : List (List ℕ) → List ℕ
text_of_lines [] = []
text_of_lines (line ∷ lines) = line ++ 10 ∷ text_of_lines lines

-- what stands before the number of clients
abbrev pub before_number : List ℕ
before_number = text_of_lines (
    codes "INFO {" ∷
    codes "  TITLE: \"Arbiter\"" ∷
    codes "  DESCRIPTION: \"One grant at a time, every request is granted\"" ∷
    codes "  SEMANTICS: Mealy" ∷
    codes "  TARGET: Mealy" ∷
    codes "}" ∷
    codes "GLOBAL {" ∷
    codes "  PARAMETERS {" ∷ []) ++ codes "    n = "

-- what stands behind it
abbrev pub behind_number : List ℕ
behind_number = codes ";\n" ++ text_of_lines (
    codes "  }" ∷
    codes "  DEFINITIONS {" ∷
    codes "    none(b, i, j) = &&[i <= t <= j] !b[t];" ∷
    codes "    m(i, j) = (i + j) / 2;" ∷
    codes "    mone(b, i, j) =" ∷
    codes "      i > j : false" ∷
    codes "      i == j : true" ∷
    codes "      i < j : (none(b, i, m(i, j)) && mone(b, m(i, j) + 1, j))" ∷
    codes "           || (mone(b, i, m(i, j)) && none(b, m(i, j) + 1, j));" ∷
    codes "  }" ∷
    codes "}" ∷
    codes "MAIN {" ∷
    codes "  INPUTS {" ∷
    codes "    r[n];" ∷
    codes "  }" ∷
    codes "  OUTPUTS {" ∷
    codes "    g[n];" ∷
    codes "  }" ∷
    codes "  ASSERT {" ∷
    codes "    mone(g, 0, n - 1);" ∷
    codes "  }" ∷
    codes "  GUARANTEE {" ∷
    codes "    &&[0 <= i < n] G (r[i] -> F g[i]);" ∷
    codes "  }" ∷
    codes "}" ∷ [])

-- the text for so many clients
abbrev pub generated_text : ℕ → List ℕ
generated_text clients = before_number ++ decimal clients ++ behind_number
