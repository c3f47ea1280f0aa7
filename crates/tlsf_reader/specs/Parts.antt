-- The one text that written parts make, where none is given twice, and its declared words.
use Rattle.std.specs.Prelude.{ℕ, Bool, true, false, if◌then◌else◌, List, [], ◌∷◌, ◌++◌, map}
use Rattle.letters_and_lassos.specs.declared.kinds.Kind.{Kind}
use Rattle.letters_and_lassos.specs.declared.kinds.Kind.TheVariants.{Mealy}
use Rattle.tlsf_tokens.specs.declared.symbol.Section.{Section}
use Rattle.tlsf_tokens.specs.declared.symbol.Section.TheVariants.{Initially, Preset, Require, Assert, Assume, Guarantee}
use Rattle.tlsf_syntax.specs.Text.{Info, Text}
use Rattle.tlsf_syntax.specs.Tree.{Named, Tree, Member, Definition, parameter, function, enumeration, Declaration, Field, title, description, semantics, target, tags, Block, parameters, definitions, Part, inputs, outputs, section, Written}

abbrev pub same_section : Section → Section → Bool
same_section Initially Initially = true
same_section Preset Preset = true
same_section Require Require = true
same_section Assert Assert = true
same_section Assume Assume = true
same_section Guarantee Guarantee = true
same_section _ _ = false

-- what each part says, where the text has it once; without it, nothing
abbrev pub title_of : List Field → List ℕ
title_of [] = []
title_of (title t ∷ fields) = t
title_of (_ ∷ fields) = title_of fields

abbrev pub description_of : List Field → List ℕ
description_of [] = []
description_of (description t ∷ fields) = t
description_of (_ ∷ fields) = description_of fields

abbrev pub tags_of : List Field → List Named
tags_of [] = []
tags_of (tags ws ∷ fields) = ws
tags_of (_ ∷ fields) = tags_of fields

abbrev pub semantics_of : List Field → Kind
semantics_of [] = Mealy
semantics_of (semantics k strict ∷ fields) = k
semantics_of (_ ∷ fields) = semantics_of fields

abbrev pub strict_of : List Field → Bool
strict_of [] = false
strict_of (semantics k strict ∷ fields) = strict
strict_of (_ ∷ fields) = strict_of fields

abbrev pub target_of : List Field → Kind
target_of [] = Mealy
target_of (target k at ∷ fields) = k
target_of (_ ∷ fields) = target_of fields

abbrev pub target_at_of : List Field → ℕ
target_at_of [] = 0
target_at_of (target k at ∷ fields) = at
target_at_of (_ ∷ fields) = target_at_of fields

abbrev pub info_of : List Field → Info
info_of fields =
    record { title = title_of fields; description = description_of fields; tags = tags_of fields; semantics = semantics_of fields; strict = strict_of fields; target = target_of fields; target_at = target_at_of fields }

-- the definitions of all blocks, in the order written
abbrev pub definitions_of : List Block → List Definition
definitions_of [] = []
definitions_of (parameters ds ∷ blocks) = ds ++ definitions_of blocks
definitions_of (definitions ds ∷ blocks) = ds ++ definitions_of blocks

abbrev pub inputs_of : List Part → List Declaration
inputs_of [] = []
inputs_of (inputs ds ∷ parts) = ds
inputs_of (_ ∷ parts) = inputs_of parts

abbrev pub outputs_of : List Part → List Declaration
outputs_of [] = []
outputs_of (outputs ds ∷ parts) = ds
outputs_of (_ ∷ parts) = outputs_of parts

abbrev pub section_of : List Part → Section → List Tree
section_of [] s = []
section_of (section r ts ∷ parts) s = if same_section s r then ts else section_of parts s
section_of (_ ∷ parts) s = section_of parts s

-- the one tree of a text in which no part is given twice
abbrev pub text_of : Written → Text
text_of w = record {
  info = info_of w.fields;
  definitions = definitions_of w.blocks;
  inputs = inputs_of w.parts;
  outputs = outputs_of w.parts;
  sections = record {
    initially = section_of w.parts Initially;
    preset = section_of w.parts Preset;
    require = section_of w.parts Require;
    assert = section_of w.parts Assert;
    assume = section_of w.parts Assume;
    guarantee = section_of w.parts Guarantee;
  };
}

-- the words that a definition declares: an enumeration's members too, and no arguments
abbrev pub definition_words : Definition → List Named
definition_words (parameter w t) = w ∷ []
definition_words (function w arguments b) = w ∷ []
definition_words (enumeration w members) = w ∷ map (λ (m : Member). m.word) members

abbrev pub words_of_definitions : List Definition → List Named
words_of_definitions [] = []
words_of_definitions (d ∷ ds) = definition_words d ++ words_of_definitions ds

abbrev pub words_of_parts : List Part → List Named
words_of_parts [] = []
words_of_parts (inputs ds ∷ parts) = map (λ (d : Declaration). d.word) ds ++ words_of_parts parts
words_of_parts (outputs ds ∷ parts) = map (λ (d : Declaration). d.word) ds ++ words_of_parts parts
words_of_parts (section s ts ∷ parts) = words_of_parts parts

-- the declared words of a text, in its order
abbrev pub declared_words : Written → List Named
declared_words w = words_of_definitions (definitions_of w.blocks) ++ words_of_parts w.parts
