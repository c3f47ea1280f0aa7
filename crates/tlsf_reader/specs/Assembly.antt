-- What each part of a text adds to its tree.
use Rattle.std.specs.Prelude.{ℕ, Bool, ◌&&◌, if◌then◌else◌, List, [], ◌∷◌, codes, Option, None, Some}
use Rattle.std.specs.Str.{bytes_eq}
use Rattle.std.specs.declared.alloc.Global.{Global}
use Rattle.std.specs.declared.vec.Vec.{Vec}
use Rattle.tlsf_tokens.specs.declared.symbol.Section.{Section}
use Rattle.tlsf_tokens.specs.declared.symbol.Section.TheVariants.{Initially, Preset, Require, Assert, Assume, Guarantee}
use Rattle.tlsf_tokens.specs.declared.symbol.Symbol.TheVariants as symbol
use Rattle.tlsf_syntax.specs.declared.expr.Expr.{Expr}
use Rattle.tlsf_syntax.specs.declared.sections.Sections.{Sections}
use Rattle.tlsf_syntax.specs.Tree.{Tree, Field, title, description, semantics, target, tags, Block, parameters, definitions, Definition, Part, inputs, outputs, section}
use Rattle.tlsf_syntax.specs.Lexemes.{Lexeme}
use Rattle.tlsf_syntax.specs.Symbols.{symbol_eq}
use Rattle.tlsf_syntax.specs.Reading.{begins}
use Rattle.tlsf_syntax.specs.Seen.{expr_seen}
use Rattle.tlsf_syntax.specs.Text.{Info, Text, each_section}
use Rattle.tlsf_reader.specs.Least.{least}
use Rattle.tlsf_reader.specs.TextView.{each}

-- one more field in front of those that gave this
abbrev pub put_field : Field → Info → Info
put_field (title t) i = record i { title = t }
put_field (description t) i = record i { description = t }
put_field (semantics k strict) i = record i { semantics = k; strict = strict }
put_field (target k at) i = record i { target = k; target_at = at }
put_field (tags ws) i = record i { tags = ws }

-- fields in front of those that gave this
abbrev pub put_fields : Info → List Field → Info
put_fields i [] = i
put_fields i (f ∷ fs) = put_field f (put_fields i fs)

-- the definitions of a block
abbrev pub block_definitions : Block → List Definition
block_definitions (parameters ds) = ds
block_definitions (definitions ds) = ds

abbrev pub put_section : Section → List Tree → Sections (List Tree) → Sections (List Tree)
put_section Initially ts s = record s { initially = ts }
put_section Preset ts s = record s { preset = ts }
put_section Require ts s = record s { require = ts }
put_section Assert ts s = record s { assert = ts }
put_section Assume ts s = record s { assume = ts }
put_section Guarantee ts s = record s { guarantee = ts }

-- one more part of MAIN in front of those that gave this
abbrev pub put_part : Part → Text → Text
put_part (inputs ds) t = record t { inputs = ds }
put_part (outputs ds) t = record t { outputs = ds }
put_part (section s ts) t = record t { sections = put_section s ts t.sections }

-- parts in front of those that gave this
abbrev pub put_parts : Text → List Part → Text
put_parts t [] = t
put_parts t (p ∷ ps) = put_part p (put_parts t ps)

-- the formulas of each section
abbrev pub sections_seen : Sections (Vec Expr Global) → Sections (List Tree)
sections_seen s = each_section (each expr_seen) s

-- the name `Finite`
abbrev pub is_finite : Lexeme → Bool
is_finite l = symbol_eq l.symbol symbol.Ident && bytes_eq l.text (codes "Finite")

-- the place of the first word after a field's word and colon, where it is `Finite`
abbrev pub first_finite_word : List Lexeme → Option ℕ
first_finite_word (s ∷ colon ∷ l ∷ ls) = if symbol_eq colon.symbol symbol.Colon && is_finite l then Some l.start else None
first_finite_word _ = None

-- the same of the word after a comma
abbrev pub second_finite_word : List Lexeme → Option ℕ
second_finite_word (s ∷ colon ∷ word ∷ comma ∷ l ∷ ls) = if symbol_eq colon.symbol symbol.Colon && (symbol_eq comma.symbol symbol.Comma && is_finite l) then Some l.start else None
second_finite_word _ = None

-- the same of both words, where SEMANTICS stands in front
abbrev pub finite_in_front : List Lexeme → Option ℕ
finite_in_front ls = if begins symbol.Semantics ls then least (first_finite_word ls) (second_finite_word ls) else None
