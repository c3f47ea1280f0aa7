-- The code's bound names and meanings as the definition sees them.
use Rattle.std.specs.Prelude.{List, map, reverse}
use Rattle.tlsf_syntax.specs.Tree as plain
use Rattle.tlsf_values.specs.declared.scope.Binding.{Binding as CodeBinding}
use Rattle.tlsf_values.specs.declared.scope.BodyOf.{BodyOf}
use Rattle.tlsf_values.specs.declared.scope.BodyOf.TheVariants.{Plain, Guarded}
use Rattle.tlsf_values.specs.declared.scope.Meaning.{Meaning as CodeMeaning}
use Rattle.tlsf_values.specs.declared.scope.Meaning.TheVariants.{Known, Signal, Definition, Enumeration, Undeclared}
use Rattle.tlsf_values.specs.Names.{Binding, Meaning, known, a_signal, a_definition, an_enumeration, undeclared}
use Rattle.tlsf_syntax.specs.Seen.{word_seen, expr_seen, alternative_seen}

abbrev pub binding_seen : CodeBinding → Binding
binding_seen b = record { name = b.name.now; value = b.value }

-- the latest binding stands last in the code
abbrev pub bindings_seen : List CodeBinding → List Binding
bindings_seen bs = map binding_seen (reverse bs)

abbrev pub code_body_seen : BodyOf → plain.Body
code_body_seen (Plain e) = plain.plain (expr_seen e.now)
code_body_seen (Guarded alternatives) = plain.guarded (map alternative_seen alternatives.now)

abbrev pub meaning_seen : CodeMeaning → Meaning
meaning_seen (Known v) = known v
meaning_seen (Signal k) = a_signal k
meaning_seen (Definition words body) = a_definition (map word_seen words.now) (code_body_seen body)
meaning_seen Enumeration = an_enumeration
meaning_seen Undeclared = undeclared
