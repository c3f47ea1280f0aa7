use Rattle.std.proofs.Common.{◌≡◌, ◌≤◌, ◌-◌}
use Rattle.std.specs.Prelude.{vec_capacity}
use Rattle.clause_exchange.specs.Opening.{IsDealt, holding}
use Rattle.clause_exchange.proofs.exchange.deal.Given as goal

abbrev pub invariant-loop : goal.invariant-loop
invariant-loop l =
    IsDealt l.words.table_id l.words.key l.counter l.passes.items × (l.dealer.table_id ≡ l.words.table_id) × (l.dealer.me ≡ holding l.words.key l.counter (l.seats - l.counter))
    × (l.seats ≤ vec_capacity l.passes)
