use Rattle.std.proofs.Common.{rules, ◌≡◌, ◌∷◌, [], ◌++◌, map, sym, ◌∙◌, ap}
use Rattle.tlsf_reader.specs.Assembly.{put_parts}
use Rattle.tlsf_syntax.specs.Seen.{text_seen}
use Rattle.tlsf_reader.specs.TextView.{each, part_view}
use Rattle.tlsf_reader.proofs.Assembling.{last_part}
use Rattle.tlsf_reader.proofs.assemble.set_parts.Goals as goal

pub loop-part-preserved : goal.loop-part-preserved
loop-part-preserved c =
    let popped : c.loop-part.left.items ≡ c.pop.new.self.items ++ c.in-Some.part ∷ [] = search rules in
    ap (λ t. put_parts t (each part_view c.pop.new.self)) c.set_part.ensures ∙ sym (last_part part_view (text_seen c.loop-part.tree) c.pop.new.self.items c.in-Some.part)
    ∙ ap (λ xs. put_parts (text_seen c.loop-part.tree) (map part_view xs)) (sym popped) ∙ c.loop-part.invariant
