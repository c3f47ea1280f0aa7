use Rattle.std.proofs.Common.{◌≡◌, ◌++◌, get_or, ap, ◌∙◌, List, ℕ, Option, None, [], ◌∷◌}
use Rattle.std.proofs.lemmas.List.{get_or_read}
use Rattle.aiger_text.specs.CircuitText.{text_of_lines, name_lines}
use Rattle.aiger_text.proofs.Lines.{names_more}
use Rattle.aiger_text.proofs.write.push_names.Goals as goal

pub loop-place-preserved : goal.loop-place-preserved
loop-place-preserved c =
    let read : c.index-names-place.result ≡ get_or c.args.names.now c.loop-place.place None = get_or_read c.args.names.now c.loop-place.place c.index-names-place.result c.loop-place-test.true c.index-names-place.is None in
    names_more c.args.named c.args.names.now c.loop-place.place c.args.text.now.items c.loop-place.text.items c.push_name.new.text.items
    c.loop-place-test.true c.loop-place.invariant
    (c.in_ok-push_name.ensures ∙ ap (λ (name : Option (List ℕ)). c.loop-place.text.items ++ text_of_lines (name_lines c.args.named c.loop-place.place (name ∷ []))) read)
