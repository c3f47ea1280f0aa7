-- The code's declarations as the definitions see them.
use Rattle.std.specs.Prelude.{map}
use Rattle.tlsf_values.specs.NamesSeen.{names_seen}
use Rattle.tlsf_values.specs.Patterns.{all_values}
use Rattle.tlsf_syntax.specs.Seen.{member_seen}
use Rattle.tlsf_expand.specs.declared.signals.Extent.{Extent as CodeExtent}
use Rattle.tlsf_expand.specs.declared.signals.Extent.TheVariants.{Alone, Wide, OfType}
use Rattle.tlsf_expand.specs.declared.signals.TypedSignal.{TypedSignal as CodeTyped}
use Rattle.tlsf_expand.specs.declared.signals.Declared.{Declared as CodeDeclared}
use Rattle.tlsf_expand.specs.declared.signals.Signals.{Signals as CodeSignals}
use Rattle.tlsf_expand.specs.Signals.{Extent, alone, wide, of_type, TypedSignal, Declared, Signals}

abbrev pub extent_seen : CodeExtent → Extent
extent_seen Alone = alone
extent_seen (Wide n) = wide n
extent_seen (OfType members) = of_type (all_values (map member_seen members.now))

abbrev pub typed_seen : CodeTyped → TypedSignal
typed_seen t = record { place = t.place; first = t.first; values = all_values (map member_seen t.members.now) }

abbrev pub declared_seen : CodeDeclared → Declared
declared_seen d = record { names = names_seen d.names; flat = d.flat.items; typed = map typed_seen d.typed.items }

abbrev pub signals_seen : CodeSignals → Signals
signals_seen s = record {
  names = names_seen s.names;
  inputs = s.inputs.items;
  outputs = s.outputs.items;
  typed_inputs = map typed_seen s.typed_inputs.items;
  typed_outputs = map typed_seen s.typed_outputs.items;
}
