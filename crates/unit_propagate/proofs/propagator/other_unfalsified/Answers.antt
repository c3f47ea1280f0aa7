use Rattle.std.proofs.Common.{◌≢◌, Contains, subst, arith}
use Rattle.std.proofs.lemmas.List.Elements.{All-more}
use Rattle.propositional_logic.specs.Literal.{Literal, negated}
use Rattle.unit_propagate.specs.Trail.{literals_of}
use Rattle.unit_propagate.proofs.Places.{All-to_end}
use Rattle.unit_propagate.proofs.propagator.other_unfalsified.Goals as goal

pub loop-lit-preserved : goal.loop-lit-preserved
loop-lit-preserved c =
    All-more (λ (x : Literal). x ≢ c.args.except → Contains (literals_of c.args.marks.now.marks) (negated x)) c.args.lits.now c.loop-lit.lit-index c.lit-item.result (omega arith) c.loop-lit.invariant
    (subst (λ (x : Literal). x ≢ c.args.except → Contains (literals_of c.args.marks.now.marks) (negated x)) c.lit-item.is c.if-is_open.ensures.no)

pub returns-clause-none : goal.returns-clause-none
returns-clause-none c =
    All-to_end (λ (x : Literal). x ≢ c.args.except → Contains (literals_of c.args.marks.now.marks) (negated x)) c.args.lits.now c.loop-lit.lit-index (omega arith) c.loop-lit.invariant
