use Rattle.std_lemmas.proofs.Results.{on_err}
use Rattle.solved_flat.specs.Taken.{list_of, sections_of}
use Rattle.solved_flat.proofs.Nodes.{all_behind, front_behind, front_of_first}
use Rattle.solved_flat.proofs.put.put_taken.Goals as goal

pub returns-in_err-put_sections-clause-front : goal.returns-in_err-put_sections-clause-front
returns-in_err-put_sections-clause-front g c =
    on_err c.from_residual.result (front_of_first (g.K.Sink.written c.args.out.now) (g.K.Sink.written c.put_sections.new.out) (sections_of c.args.taken.now) (list_of c.args.with_nodes c.args.taken.now)
    c.in_err-put_sections.ensures.front)

pub returns-clause-ok : goal.returns-clause-ok
returns-clause-ok g c =
    all_behind c.put_list.result (g.K.Sink.written c.args.out.now) (g.K.Sink.written c.put_sections.new.out) (g.K.Sink.written c.put_list.new.out) (sections_of c.args.taken.now)
    (list_of c.args.with_nodes c.args.taken.now) c.in_ok-put_sections.ensures.ok c.put_list.ensures.ok

pub returns-clause-front : goal.returns-clause-front
returns-clause-front g c =
    front_behind c.put_list.result (g.K.Sink.written c.args.out.now) (g.K.Sink.written c.put_sections.new.out) (g.K.Sink.written c.put_list.new.out) (sections_of c.args.taken.now)
    (list_of c.args.with_nodes c.args.taken.now) c.in_ok-put_sections.ensures.ok c.put_list.ensures.front
