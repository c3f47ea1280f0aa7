use Rattle.std.proofs.Common.{◌∙◌, OnErr, subst}
use Rattle.input_output.specs.Bytes.{GainsFront}
use Rattle.solved_flat.proofs.Nodes.{front_of_put}
use Rattle.solved_flat.proofs.lists.put_node.Goals as goal

pub returns-clause-front : goal.returns-clause-front
returns-clause-front g c =
    let now = g.K.Sink.written c.args.out.now in
    let later = g.K.Sink.written c.put.new.self in
    subst (λ bytes. OnErr c.put.result (GainsFront now later bytes)) (c.deref.ensures.value ∙ c.in_ok-line.ensures)
    (front_of_put c.put.result now later c.deref.result.now c.put.ensures.front c.put.ensures.no_memory)
