-- What the code reads of a text, as the grammar's parts.
use Rattle.std.specs.Prelude.{List, map}
use Rattle.std.specs.declared.alloc.Global.{Global}
use Rattle.std.specs.declared.vec.Vec.{Vec}
use Rattle.tlsf_syntax.specs.Tree as plain
use Rattle.tlsf_syntax.specs.Seen.{expr_seen, word_seen, definition_seen, declaration_seen}
use Rattle.tlsf_reader.specs.declared.written.Field.{Field}
use Rattle.tlsf_reader.specs.declared.written.Field.TheVariants.{Title, Description, Semantics, Target, Tags}
use Rattle.tlsf_reader.specs.declared.written.Block.{Block}
use Rattle.tlsf_reader.specs.declared.written.Block.TheVariants.{Parameters, Definitions}
use Rattle.tlsf_reader.specs.declared.written.Part.{Part}
use Rattle.tlsf_reader.specs.declared.written.Part.TheVariants.{Inputs, Outputs, Section}
use Rattle.tlsf_reader.specs.declared.written.Written.{Written}

-- the things in a list, each as it is seen
abbrev pub each : {X A : Type 0} → (X → A) → Vec X Global → List A
each view list = map view list.items

abbrev pub field_view : Field → plain.Field
field_view (Title t) = plain.title t
field_view (Description t) = plain.description t
field_view (Semantics k strict) = plain.semantics k strict
field_view (Target k at) = plain.target k at
field_view (Tags ws) = plain.tags (each word_seen ws)

abbrev pub block_view : Block → plain.Block
block_view (Parameters ds) = plain.parameters (each definition_seen ds)
block_view (Definitions ds) = plain.definitions (each definition_seen ds)

abbrev pub part_view : Part → plain.Part
part_view (Inputs ds) = plain.inputs (each declaration_seen ds)
part_view (Outputs ds) = plain.outputs (each declaration_seen ds)
part_view (Section s ts) = plain.section s (each expr_seen ts)

abbrev pub written_view : Written → plain.Written
written_view w = record { fields = each field_view w.fields; blocks = each block_view w.blocks; parts = each part_view w.parts }
