-- What the reader has of a file's names (this project's own).
use Rattle.std.specs.Prelude.{◌≡◌, length, option_map}
use Rattle.aiger_text.specs.declared.symbols.Labels.{Labels}
use Rattle.aiger_text.specs.declared.symbols.Symbol.{Symbol}
use Rattle.aiger_text.specs.declared.symbols.Ending.{Ending}
use Rattle.aiger_text.specs.CircuitText as text
use Rattle.aiger_text.specs.CircuitFile as file

abbrev pub named : Labels → file.Names
named l = record { inputs = l.inputs.items; outputs = l.outputs.items; input_lines = l.input_lines.items; latch_lines = l.latch_lines.items; output_lines = l.output_lines.items }

-- each input and each output has a place for its name, and one for the name's line
pub record HavePlaces (l : Labels) : Type 0 where
  pub inputs : length l.inputs.items ≡ length l.input_lines.items
  pub outputs : length l.outputs.items ≡ length l.output_lines.items

abbrev pub shown_symbol : Symbol → text.Symbol
shown_symbol s = record { named = s.named; place = s.place; name = s.name.now }

abbrev pub shown_ending : Ending → file.Ending
shown_ending e = record { names = named e.labels; line = e.number; comment = option_map (λ comment. comment.now) e.comment }
