use Rattle.std.proofs.Common.{◌≡◌, ◌<◌, length, refl, subst, ◌∙◌, arith}
use Rattle.std_lemmas.proofs.Results.{on_err}
use Rattle.input_output.specs.Bytes.{Gains}
use Rattle.input_output.proofs.GainLemmas.{gains_nothing}
use Rattle.solved_flat.specs.Expand.{first_node_lines}
use Rattle.solved_flat.proofs.Nodes.{gained_more, lines_front}
use Rattle.solved_flat.proofs.lists.put_nodes.Goals as goal

pub loop-place-init : goal.loop-place-init
loop-place-init g c = record {
  within = omega arith;
  gained = gains_nothing (g.K.Sink.written c.args.out.now) (g.K.Sink.written c.args.out.now) refl;
  no_fault = refl;
}

pub returns-in_err-put_node-clause-front : goal.returns-in_err-put_node-clause-front
returns-in_err-put_node-clause-front g c =
    let below : c.loop-place.place < length c.args.formulas.now = omega (arith, c.loop-place-test.true, c.len-place-end.ensures.value) in
    on_err c.from_residual.result (lines_front c.args.names.now c.args.formulas.now (g.K.Sink.written c.args.out.now) (g.K.Sink.written c.loop-place.out) (g.K.Sink.written c.put_node.new.out)
    c.loop-place.place below c.loop-place.invariant.gained c.in_err-put_node.ensures.front)

pub loop-place-preserved : goal.loop-place-preserved
loop-place-preserved g c = record {
  within = omega (arith, c.loop-place-test.true, c.len-place-end.ensures.value);
  gained = gained_more c.args.names.now c.args.formulas.now (g.K.Sink.written c.args.out.now) (g.K.Sink.written c.loop-place.out) (g.K.Sink.written c.put_node.new.out)
      c.loop-place.place c.loop-place.invariant.gained c.in_ok-put_node.ensures.ok;
  no_fault = c.in_ok-put_node.ensures.not_failed ∙ c.loop-place.invariant.no_fault;
}

pub returns-clause-ok : goal.returns-clause-ok
returns-clause-ok g c =
    let end : c.loop-place.place ≡ length c.args.formulas.now = omega (arith, c.loop-place-test.false, c.len-place-end.ensures.value, c.loop-place.invariant.within) in
    subst (λ n. Gains (g.K.Sink.written c.args.out.now) (g.K.Sink.written c.loop-place.out) (first_node_lines c.args.names.now c.args.formulas.now n)) end c.loop-place.invariant.gained
