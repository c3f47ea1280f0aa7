use Rattle.std.proofs.Common.{◌≡◌, length, refl, arith}
use Rattle.std.proofs.lemmas.Grind.{common_steps}
use Rattle.machine_model.proofs.automata.Automaton.new.Goals as goal

pub returns-then-has_bad_edge-clause-bad_edge : goal.returns-then-has_bad_edge-clause-bad_edge
returns-then-has_bad_edge-clause-bad_edge c =
    let n : c.len.result ≡ length c.args.rejecting.items = omega (arith, c.len.ensures, c.args.rejecting.ok.0) in
    (λ e. (grind (arith, common_steps), rw (c.deref.ensures.value, n) at c.if-has_bad_edge.ensures.some), λ p. refl)
