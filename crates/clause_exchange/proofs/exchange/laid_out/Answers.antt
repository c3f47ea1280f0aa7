use Rattle.std.proofs.Common.{◌≡◌, List, ◌∷◌, [], ◌++◌, sym, ap, subst, ◌∙◌}
use Rattle.atomic_table.specs.Table.{opening}
use Rattle.refutation_log.specs.State.{Log}
use Rattle.clause_exchange.specs.Rule.{Keeps, terms_of, dealer}
use Rattle.clause_exchange.proofs.Seats.{opens}
use Rattle.clause_exchange.proofs.exchange.laid_out.Goals as goal

pub new-requires : goal.new-requires
new-requires c =
    let terms = terms_of c.args.setup.now in
    let one : c.push_reserved.new.self.items ≡ c.in_ok-log.log ∷ [] = c.push_reserved.ensures.items ∙ ap (λ l. l ++ c.in_ok-log.log ∷ []) c.in_ok-slots.ensures.items in
    subst (λ (xs : List Log). Keeps terms (opening (0 ∷ []) xs (dealer terms))) (sym one) (opens terms c.in_ok-log.log c.in_ok-log.ensures.empty c.in_ok-log.ensures.room)
