use Rattle.std.proofs.Common.{ℕ, sym, ap, ◌∙◌}
use Rattle.gate_build.specs.Gates.{Built, and_of, negated, opposite}
use Rattle.gate_build.proofs.Steps.{ite-either, ite-turned, ite-first_none, ite-itself, ite-second_none, ite-first_all, ite-second_all, ite-three}
use Rattle.gate_build.proofs.gates.ite.Goals as goal

pub returns-then-p-q-clause-value : goal.returns-then-p-q-clause-value
returns-then-p-q-clause-value c = ite-either c.args.first c.args.gates.now.keys c.args.x c.args.p c.args.q c.if-p-q.true

pub returns-then-q-eq1-clause-value : goal.returns-then-q-eq1-clause-value
returns-then-q-eq1-clause-value c =
    ite-turned c.args.first c.args.gates.now.keys c.args.x c.args.p c.args.q c.if-p-eq0.true c.if-q-eq1.true
    ∙ ap (λ (l : ℕ). let b : Built = record { gates = c.args.gates.now.keys; literal = l } in b) (sym c.opposite.ensures.value)

pub returns-then-p-eq0-clause-value : goal.returns-then-p-eq0-clause-value
returns-then-p-eq0-clause-value c =
    ite-first_none c.args.first c.args.gates.now.keys c.args.x c.args.p c.args.q c.if-p-q.false c.if-p-eq0.true c.if-q-eq1.false
    ∙ ap (λ (l : ℕ). and_of c.args.first c.args.gates.now.keys l c.args.q) (sym c.opposite-then-p-eq0.ensures.value) ∙ c.in_ok-other.ensures.value

pub returns-then-p-eq1-clause-value : goal.returns-then-p-eq1-clause-value
returns-then-p-eq1-clause-value c = ite-itself c.args.first c.args.gates.now.keys c.args.x c.args.p c.args.q c.if-p-eq1.true c.if-q-eq0.true

pub returns-then-q-eq0-clause-value : goal.returns-then-q-eq0-clause-value
returns-then-q-eq0-clause-value c =
    ite-second_none c.args.first c.args.gates.now.keys c.args.x c.args.p c.args.q c.if-p-q.false c.if-p-eq0.false c.if-q-eq0.true c.if-p-eq1.false ∙ c.in_ok-one.ensures.value

pub returns-then-p-eq1-2-clause-value : goal.returns-then-p-eq1-2-clause-value
returns-then-p-eq1-2-clause-value c =
    ite-first_all c.args.first c.args.gates.now.keys c.args.x c.args.p c.args.q c.if-p-q.false c.if-q-eq0.false c.if-p-eq1-2.true
    ∙ ap negated (ap (λ (l : ℕ). and_of c.args.first c.args.gates.now.keys l (opposite c.args.q)) (sym c.opposite-then-p-eq1-2.ensures.value)
    ∙ ap (λ (l : ℕ). and_of c.args.first c.args.gates.now.keys c.opposite-then-p-eq1-2.result l) (sym c.opposite-then-p-eq1-2-2.ensures.value) ∙ c.in_ok-neither.ensures.value)
    ∙ ap (λ (l : ℕ). let b : Built = record { gates = c.and-then-p-eq1-2.new.gates.keys; literal = l } in b) (sym c.opposite-then-p-eq1-2-3.ensures.value)

pub returns-then-q-eq1-2-clause-value : goal.returns-then-q-eq1-2-clause-value
returns-then-q-eq1-2-clause-value c =
    ite-second_all c.args.first c.args.gates.now.keys c.args.x c.args.p c.args.q c.if-p-q.false c.if-p-eq0.false c.if-p-eq1-2.false c.if-q-eq1-2.true
    ∙ ap negated (ap (λ (l : ℕ). and_of c.args.first c.args.gates.now.keys c.args.x l) (sym c.opposite-then-q-eq1-2.ensures.value) ∙ c.in_ok-neither-2.ensures.value)
    ∙ ap (λ (l : ℕ). let b : Built = record { gates = c.and-then-q-eq1-2.new.gates.keys; literal = l } in b) (sym c.opposite-then-q-eq1-2-2.ensures.value)

pub returns-clause-value : goal.returns-clause-value
returns-clause-value c =
    ite-three c.args.first c.args.gates.now.keys c.args.x c.args.p c.args.q
    (record { gates = c.and-2.new.gates.keys; literal = c.in_ok-one-2.one })
    (record { gates = c.and-3.new.gates.keys; literal = c.in_ok-other-2.other })
    (record { gates = c.and-4.new.gates.keys; literal = c.in_ok-neither-3.neither })
    c.if-p-q.false c.if-p-eq0.false c.if-q-eq0.false c.if-p-eq1-2.false c.if-q-eq1-2.false
    c.in_ok-one-2.ensures.value
    (ap (λ (l : ℕ). and_of c.args.first c.and-2.new.gates.keys l c.args.q) (sym c.opposite-2.ensures.value) ∙ c.in_ok-other-2.ensures.value)
    (ap (λ (l : ℕ). and_of c.args.first c.and-3.new.gates.keys l (opposite c.in_ok-other-2.other)) (sym c.opposite-3.ensures.value)
    ∙ ap (λ (l : ℕ). and_of c.args.first c.and-3.new.gates.keys c.opposite-3.result l) (sym c.opposite-4.ensures.value) ∙ c.in_ok-neither-3.ensures.value)
    ∙ ap (λ (l : ℕ). let b : Built = record { gates = c.and-4.new.gates.keys; literal = l } in b) (sym c.opposite-5.ensures.value)
