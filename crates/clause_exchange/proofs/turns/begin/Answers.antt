use Rattle.std.proofs.Common.{rules, sym, ◌∙◌, subst}
use mathlib.Core.Option.{none}
use Rattle.atomic_table.specs.Table.{Allows, step}
use Rattle.clause_exchange.specs.Rule.{Keeps, terms_of}
use Rattle.clause_exchange.specs.Steps.{Place, taken}
use Rattle.clause_exchange.proofs.Keeping.{takes_turn}
use Rattle.clause_exchange.proofs.turns.begin.Goals as goal

pub swap-requires : goal.swap-requires
swap-requires g c =
    let id = c.loop.place.id in
    let slots = c.args.words.now.table_id.slots in
    let terms = terms_of c.args.words.now.key in (
      search rules,
      search rules,
      subst (λ (m : Place). Allows (Keeps terms) slots id m 0 (λ _. 1) (taken (step slots 0 1 0 none) m))
          (sym (c.loop.invariant.2 ∙ c.requires.idle.1)) (takes_turn terms slots id c.requires.idle.0),
    )

pub loop-preserved : goal.loop-preserved
loop-preserved g c = (
  c.swap.ensures.0 ∙ c.loop.invariant.0,
  c.swap.ensures.1 ∙ c.loop.invariant.1,
  (c.swap.ensures.2 c.requires.idle.0 (c.loop.invariant.2 ∙ c.requires.idle.1)).1 (search rules) ∙ sym c.requires.idle.1,
)

pub returns-then-swap-eq-FREE-clause-begun : goal.returns-then-swap-eq-FREE-clause-begun
returns-then-swap-eq-FREE-clause-begun g c part was = (c.swap.ensures.2 part (c.loop.invariant.2 ∙ was)).0 (search rules)
