use Rattle.std.proofs.Common.{get_or, ap, ◌∙◌}
use Rattle.std.specs.Prelude.{◌==◌}
use Rattle.machine_model.proofs.NamesBelow.{newly_by, stays_by}
use Rattle.machine_model.proofs.names.name_next.Goals as goal

pub returns-then-not-is_unnamed : goal.returns-then-not-is_unnamed
returns-then-not-is_unnamed c =
    stays_by c.args.automaton.now c.states.ensures.kept c.args.q c.requires.state c.args.names.now c.is_unnamed.result
    (c.is_unnamed.ensures ∙ ap (λ n. get_or c.args.names.now c.args.q 0 == n) c.states.ensures.value) c.if-not-is_unnamed.true

pub returns : goal.returns
returns c =
    newly_by c.args.automaton.now c.states.ensures.kept c.args.q c.requires.state c.args.names.now c.name_component.new.names c.is_unnamed.result
    (c.is_unnamed.ensures ∙ ap (λ n. get_or c.args.names.now c.args.q 0 == n) c.states.ensures.value) c.if-not-is_unnamed.false c.in_ok-name_component.ensures
