use Rattle.std.proofs.Common.{◌≡◌, ◌+◌, ◌^◌, ◌<◌, ◌≤◌, List, true, false, sym, ap, ◌∙◌, arith, subst}
use Rattle.std.specs.Prelude.{All}
use Rattle.machine_model.specs.Automaton.{AutomatonModel, states_of}
use Rattle.machine_model.specs.Counting.{is_local}
use Rattle.machine_model.specs.Problem.{automaton_of}
use Rattle.machine_model.specs.declared.automata.Edge.{Edge}
use Rattle.machine_model.specs.declared.problems.Problem.{Problem}
use Rattle.agreement_rows.proofs.checked.checked.Goals as goal

pub returns : goal.returns
returns c =
    let p : Problem = c.args.problem in
    let musts : All (λ (e : Edge). e.cube.must < 2 ^ (c.args.problem.inputs + c.args.problem.outputs)) (automaton_of c.args.problem).edges
    = subst (λ (es : List Edge). All (λ (e : Edge). e.cube.must < 2 ^ (c.args.problem.inputs + c.args.problem.outputs)) es) (c.edges.ensures.value ∙ ap (λ (a : AutomatonModel). a.edges) c.deref-2.ensures)
    (subst (λ n. All (λ (e : Edge). e.cube.must < n) c.edges.result.now) c.letters_of-letters.ensures c.if-has_far_must.ensures) in
    let nots : All (λ (e : Edge). e.cube.not < 2 ^ (c.args.problem.inputs + c.args.problem.outputs)) (automaton_of c.args.problem).edges
    = subst (λ (es : List Edge). All (λ (e : Edge). e.cube.not < 2 ^ (c.args.problem.inputs + c.args.problem.outputs)) es) (c.edges-2.ensures.value ∙ ap (λ (a : AutomatonModel). a.edges) c.deref-3.ensures)
    (subst (λ n. All (λ (e : Edge). e.cube.not < n) c.edges-2.result.now) c.letters_of-letters.ensures c.if-has_far_not.ensures) in
    record {
      inputs = omega arith;
      outputs = omega arith;
      some = omega arith;
      size = omega arith;
      states = subst (λ (a : AutomatonModel). states_of a ≤ 2000) c.deref.ensures (omega (arith, c.states.ensures.value, c.if-states-gt2000.false));
      signals = λ k d h. record { must = musts k d h; none_of = nots k d h };
      counting = record { right = λ components by. absurd (let e : true ≡ false = sym (ap is_local by) ∙ sym c.is_local.ensures ∙ c.if-is_local.false in cc) };
    }
