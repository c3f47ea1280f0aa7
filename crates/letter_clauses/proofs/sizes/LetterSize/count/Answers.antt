use Rattle.std.proofs.Common.{◌≡◌, ◌+◌, ◌*◌, ap, ◌∙◌, sym, arith}
use Rattle.machine_model.specs.Problem.{automaton_of}
use Rattle.letter_clauses.specs.Count.{clauses_beside, literals_beside, most_clauses, most_literals}
use Rattle.letter_clauses.proofs.Weights.{clauses_go, count_ends, count_none_long, few_of, literals_go, stops_by, too_many_by}
use Rattle.letter_clauses.proofs.sizes.LetterSize.count.Goals as goal

pub returns-then-not-is_short_or_whole : goal.returns-then-not-is_short_or_whole
returns-then-not-is_short_or_whole c = count_none_long c.args.self.now.problem.now c.args.self.now.letters.now (sym c.is_short_or_whole.ensures ∙ c.if-not-is_short_or_whole.true)

pub returns-then-are_too_many : goal.returns-then-are_too_many
returns-then-are_too_many c =
    too_many_by c.args.self.now.problem.now c.args.self.now.letters.now c.clauses_beside-clauses.result c.literals_beside-literals.result c.are_too_many.result
    c.clauses_beside-clauses.ensures.value c.literals_beside-literals.ensures.value c.are_too_many.ensures c.if-are_too_many.true

pub loop-edge-init : goal.loop-edge-init
loop-edge-init c =
    let few = few_of most_clauses c.clauses_beside-clauses.result most_literals c.literals_beside-literals.result (sym c.are_too_many.ensures ∙ c.if-are_too_many.false) in
    record {
      clauses = c.clauses_beside-clauses.ensures.value ∙ (let e : clauses_beside c.args.self.now.problem.now c.args.self.now.letters.now ≡ clauses_beside c.args.self.now.problem.now c.args.self.now.letters.now + 0 = omega arith in e);
      literals = c.literals_beside-literals.ensures.value ∙ (let e : literals_beside c.args.self.now.problem.now c.args.self.now.letters.now ≡ literals_beside c.args.self.now.problem.now c.args.self.now.letters.now + 0 = omega arith in e);
      few = few.0;
      small = few.1;
    }

pub loop-edge-preserved : goal.loop-edge-preserved
loop-edge-preserved c =
    let edges : c.edges-edges.result.now ≡ (automaton_of c.args.self.now.problem.now).edges = c.edges-edges.ensures.value ∙ ap (λ a. a.edges) c.deref.ensures in
    let few = few_of most_clauses (c.loop-edge.clauses + c.in_all-clauses.result) most_literals (c.loop-edge.literals + c.in_all-literals.result) (sym c.are_too_many-in-loop-edge.ensures ∙ c.if-are_too_many-2.false) in
    record {
      clauses =
          ap (λ n. c.loop-edge.clauses + n) (c.in_all-clauses.ensures.value ∙ (λ i. c.steps_of-steps.ensures.value i * c.step_count.ensures.value i))
          ∙ clauses_go c.args.self.now.problem.now c.args.self.now.letters.now c.edges-edges.result.now c.loop-edge.clauses c.loop-edge.literals c.loop-edge.edge-index c.edge-item.result edges c.loop-edge-test.true c.edge-item.is c.loop-edge.invariant.clauses c.loop-edge.invariant.literals;
      literals =
          ap (λ n. c.loop-edge.literals + n) (c.in_all-literals.ensures.value ∙ (λ i. c.steps_of-steps.ensures.value i * c.step_literals.ensures.value i))
          ∙ literals_go c.args.self.now.problem.now c.args.self.now.letters.now c.edges-edges.result.now c.loop-edge.clauses c.loop-edge.literals c.loop-edge.edge-index c.edge-item.result edges c.loop-edge-test.true c.edge-item.is c.loop-edge.invariant.clauses c.loop-edge.invariant.literals;
      few = few.0;
      small = few.1;
    }

pub returns-then-are_too_many-2 : goal.returns-then-are_too_many-2
returns-then-are_too_many-2 c =
    let edges : c.edges-edges.result.now ≡ (automaton_of c.args.self.now.problem.now).edges = c.edges-edges.ensures.value ∙ ap (λ a. a.edges) c.deref.ensures in
    stops_by c.args.self.now.problem.now c.args.self.now.letters.now c.edges-edges.result.now c.loop-edge.clauses c.loop-edge.literals c.loop-edge.edge-index c.edge-item.result
    (c.loop-edge.clauses + c.in_all-clauses.result) (c.loop-edge.literals + c.in_all-literals.result) c.are_too_many-in-loop-edge.result edges c.loop-edge-test.true c.edge-item.is
    c.loop-edge.invariant.clauses c.loop-edge.invariant.literals
    (ap (λ n. c.loop-edge.clauses + n) (c.in_all-clauses.ensures.value ∙ (λ i. c.steps_of-steps.ensures.value i * c.step_count.ensures.value i)))
    (ap (λ n. c.loop-edge.literals + n) (c.in_all-literals.ensures.value ∙ (λ i. c.steps_of-steps.ensures.value i * c.step_literals.ensures.value i)))
    c.are_too_many-in-loop-edge.ensures c.if-are_too_many-2.true

pub returns : goal.returns
returns c =
    let edges : c.edges-edges.result.now ≡ (automaton_of c.args.self.now.problem.now).edges = c.edges-edges.ensures.value ∙ ap (λ a. a.edges) c.deref.ensures in
    count_ends c.args.self.now.problem.now c.args.self.now.letters.now c.edges-edges.result.now c.loop-edge.clauses c.loop-edge.literals c.loop-edge.edge-index edges c.loop-edge-test.false
    c.loop-edge.invariant.clauses c.loop-edge.invariant.literals (sym c.is_short_or_whole.ensures ∙ c.if-not-is_short_or_whole.false) c.loop-edge.invariant.few c.loop-edge.invariant.small
