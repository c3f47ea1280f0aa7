use Rattle.std.proofs.Common.{rules, ◌≡◌, ◌∷◌, [], ◌++◌, map, sym, ◌∙◌, ap}
use Rattle.tlsf_reader.specs.Assembly.{put_fields}
use Rattle.tlsf_syntax.specs.Seen.{info_seen}
use Rattle.tlsf_reader.specs.TextView.{field_view, each}
use Rattle.tlsf_reader.proofs.Assembling.{all_fields, last_field}
use Rattle.tlsf_reader.proofs.assemble.info.Goals as goal

pub loop-field-init : goal.loop-field-init
loop-field-init c = ap (λ i. put_fields i (each field_view c.args.fields)) c.in_ok-info.ensures ∙ all_fields (each field_view c.args.fields)

pub loop-field-preserved : goal.loop-field-preserved
loop-field-preserved c =
    let popped : c.loop-field.left.items ≡ c.pop.new.self.items ++ c.in-Some.field ∷ [] = search rules in
    ap (λ i. put_fields i (each field_view c.pop.new.self)) c.set_field.ensures ∙ sym (last_field field_view (info_seen c.loop-field.info) c.pop.new.self.items c.in-Some.field)
    ∙ ap (λ xs. put_fields (info_seen c.loop-field.info) (map field_view xs)) (sym popped) ∙ c.loop-field.invariant
