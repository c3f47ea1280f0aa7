use Rattle.std.proofs.Common.{◌∙◌, ap, map}
use Rattle.tlsf_syntax.specs.Seen.{declaration_seen}
use Rattle.tlsf_reader.specs.TextView.{written_view}
use Rattle.tlsf_reader.proofs.Assembling.{assembled}
use Rattle.tlsf_reader.proofs.assemble.assemble.Goals as goal

pub returns : goal.returns
returns c = c.set_parts.ensures ∙ assembled (written_view c.args.written) _ c.in_ok-info.ensures c.in_ok-definitions.ensures (ap (map declaration_seen) c.new.ensures.items) (ap (map declaration_seen) c.new-2.ensures.items) c.no_formulas.ensures
