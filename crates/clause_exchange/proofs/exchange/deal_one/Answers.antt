use Rattle.std.proofs.Common.{rules, suc, [], sym, subst}
use Rattle.atomic_table.specs.Table.{Splits}
use Rattle.clause_exchange.specs.Rule.{Keeps, terms_of, fresh_parts}
use Rattle.clause_exchange.specs.Steps.{Place, undealt, dealt}
use Rattle.clause_exchange.proofs.Seats.{splits}
use Rattle.clause_exchange.proofs.exchange.deal_one.Goals as goal

pub split_seat-requires : goal.split_seat-requires
split_seat-requires c =
    let terms = terms_of c.args.words.now.key in
    let id = c.args.dealer.now.id in
    let h = c.requires.holds in (
      search rules,
      search rules,
      subst (λ (m : Place). Splits (Keeps terms) id m.0 (undealt m.0) (dealt m.0)) (sym h.2)
          (splits terms id (record { terms = terms; number = h.0; seen = []; own = [] }) (fresh_parts terms (suc h.0) h.1)),
    )
