-- Which tree a text has: TLSF 1.1 in this project's profile.
use Rattle.std.specs.Prelude.{◌≡◌, ◌≤◌, ℕ, List, [], length, None}
use Rattle.spec_faults.specs.declared.code.SpecCode.{SpecCode}
use Rattle.tlsf_syntax.specs.Nesting.{first_deep}
use Rattle.tlsf_syntax.specs.Tree.{Written}
use Rattle.tlsf_syntax.specs.Texts.{DerivesText}
use Rattle.tlsf_reader.specs.Lexed.{Lexed}
use Rattle.tlsf_syntax.specs.Text.{Text}
use Rattle.tlsf_reader.specs.Parts.{text_of}
use Rattle.tlsf_reader.specs.Faults.{most_bytes, most_nesting, symbols_of, HasLateFault, IsReadingFault}

-- The tokens of the text reach its end, the grammar derives this tree from them, and the text has no fault of reading.
-- (Fault 3, and `Finite` as a semantics, are no text of the grammar.)
pub record Reads (text : List ℕ) (tree : Text) : Type 0 where
  pub lexed : Lexed text
  pub written : Written
  pub short : length text ≤ most_bytes
  pub whole : lexed.stop ≡ None
  pub derived : DerivesText lexed.lexemes written
  pub shallow : first_deep most_nesting [] (symbols_of lexed.lexemes) ≡ None
  pub sound : (code : SpecCode) (place : ℕ) → HasLateFault lexed.lexemes written code place → ⊥
  pub is : tree ≡ text_of written

-- a text has at most one tree
abbrev pub TreesAreDetermined : Type 0
TreesAreDetermined = (text : List ℕ) (tree tree' : Text) → Reads text tree → Reads text tree' → tree ≡ tree'

-- a text that has a tree has no fault of reading
abbrev pub TreesHaveNoFault : Type 0
TreesHaveNoFault = (text : List ℕ) (tree : Text) (code : SpecCode) (place : ℕ) → Reads text tree → IsReadingFault text code place → ⊥
