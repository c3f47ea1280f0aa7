use Rattle.std.proofs.Common.{◌≡◌, OnOk, OnErr, true, false, refl, rules, sym, subst, ◌∙◌}
use Rattle.input_output.specs.Bytes.{Gains, GainsFront}
use Rattle.input_output.proofs.GainLemmas.{gains_nothing}
use Rattle.tlsf_expand.specs.FlatText.{spec_seen}
use Rattle.flat_lines.specs.FlatLines.{all_names}
use Rattle.flat_lines.proofs.Pieces.{nothing_yet}
use Rattle.solved_flat.specs.Expand.{node_lines}
use Rattle.solved_flat.specs.Taken.{list_of}
use Rattle.solved_flat.proofs.put.put_list.Goals as goal

pub returns-then-not-with_nodes-clause-ok : goal.returns-then-not-with_nodes-clause-ok
returns-then-not-with_nodes-clause-ok g c =
    let now = g.K.Sink.written c.args.out.now in
    let off : c.args.with_nodes ≡ false = search rules in
    subst (λ with_nodes. Gains now now (list_of with_nodes c.args.taken.now)) (sym off) (gains_nothing now now refl)

pub returns-in_err-names-clause-front : goal.returns-in_err-names-clause-front
returns-in_err-names-clause-front g c = nothing_yet c.from_residual.result (g.K.Sink.written c.args.out.now) (list_of c.args.with_nodes c.args.taken.now)

pub returns-clause-ok : goal.returns-clause-ok
returns-clause-ok g c =
    let now = g.K.Sink.written c.args.out.now in
    let later = g.K.Sink.written c.put_nodes.new.out in
    let on : c.args.with_nodes ≡ true = search rules in
    let names : c.deref.result.now ≡ all_names (spec_seen c.args.taken.now.spec).expanded = c.deref.ensures.value ∙ c.in_ok-names.ensures in
    subst (λ with_nodes. OnOk c.put_nodes.result (Gains now later (list_of with_nodes c.args.taken.now))) (sym on)
    (subst (λ ns. OnOk c.put_nodes.result (Gains now later (node_lines ns c.args.taken.now.known.formulas))) names c.put_nodes.ensures.ok)

pub returns-clause-front : goal.returns-clause-front
returns-clause-front g c =
    let now = g.K.Sink.written c.args.out.now in
    let later = g.K.Sink.written c.put_nodes.new.out in
    let on : c.args.with_nodes ≡ true = search rules in
    let names : c.deref.result.now ≡ all_names (spec_seen c.args.taken.now.spec).expanded = c.deref.ensures.value ∙ c.in_ok-names.ensures in
    subst (λ with_nodes. OnErr c.put_nodes.result (GainsFront now later (list_of with_nodes c.args.taken.now))) (sym on)
    (subst (λ ns. OnErr c.put_nodes.result (GainsFront now later (node_lines ns c.args.taken.now.known.formulas))) names c.put_nodes.ensures.front)
