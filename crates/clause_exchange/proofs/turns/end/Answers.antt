use Rattle.std.proofs.Common.{rules, sym, subst}
use mathlib.Core.Option.{none}
use Rattle.atomic_table.specs.Table.{Allows, step}
use Rattle.clause_exchange.specs.Rule.{Keeps, terms_of}
use Rattle.clause_exchange.specs.Steps.{Place, given}
use Rattle.clause_exchange.proofs.Keeping.{gives_back}
use Rattle.clause_exchange.proofs.turns.end.Goals as goal

pub store-requires : goal.store-requires
store-requires c =
    let id = c.args.place.now.id in
    let slots = c.args.words.now.table_id.slots in
    let terms = terms_of c.args.words.now.key in
    let m = c.requires.moved in (
      search rules,
      search rules,
      subst (λ (p : Place). Allows (Keeps terms) slots id p 0 (λ _. 0) (λ _. given (step slots 0 0 0 none) p 0))
          (sym m.3) (gives_back terms slots id m.0 m.1 m.2 m.4),
    )
