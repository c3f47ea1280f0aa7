use Rattle.std.proofs.Common.{rules, ap, ◌∙◌}
use Rattle.clause_exchange.specs.SharedLog.{PassView}
use Rattle.clause_exchange.specs.Rule.{terms_of, in_turn}
use Rattle.clause_exchange.specs.Steps.{Place}
use Rattle.clause_exchange.proofs.Seats.{joins}
use Rattle.clause_exchange.proofs.exchange.gather_one.Goals as goal

pub join_seat-requires : goal.join_seat-requires
join_seat-requires c =
    let terms = terms_of c.args.words.now.key in
    let is = c.pass.invariant.1 in (
      c.requires.table.0,
      ap (λ (p : PassView). p.exchange.id) c.pass.view_is ∙ c.requires.table.1,
      ap (λ (m : Place). m.1) is,
      search rules,
      joins terms c.args.place.now.id c.args.place.now.me.0 c.pass.inside.place.id c.pass.inside.place.me.0 c.requires.rests (ap (λ (m : Place). in_turn m.0) is),
    )
