use Rattle.std.proofs.Common.{ap, inl, inr}
use Rattle.tlsf_syntax.specs.Seen.{word_seen}
use Rattle.tlsf_reader.specs.TextView.{part_view}
use Rattle.tlsf_reader.proofs.Repeats.{declared_part}
use Rattle.tlsf_reader.proofs.repeat.push_part.Goals as goal

pub returns-in-Inputs : goal.returns-in-Inputs
returns-in-Inputs c =
    declared_part (λ w. word_seen w.now) c.args.words.now.items c.push_declarations.new.words.items c.deref.result.now c.in-Inputs.declarations.items (part_view c.args.part.now) c.push_declarations.result c.push_declarations.ensures c.deref.ensures.value
    (elim c.in-Inputs.is [ inl e ↦ inl (ap part_view e) | inr e ↦ inr (ap part_view e) ])
