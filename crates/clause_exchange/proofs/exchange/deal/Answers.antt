use Rattle.std.proofs.Common.{rules, ◌≡◌, ◌+◌, ◌-◌, suc, ap, ◌∙◌, arith}
use Rattle.clause_exchange.specs.Opening.{holding}
use Rattle.clause_exchange.proofs.Closing.{dealt_one_more}
use Rattle.clause_exchange.proofs.exchange.deal.Goals as goal

pub deal_one-requires-clause-holds : goal.deal_one-requires-clause-holds
deal_one-requires-clause-holds c =
    let left : c.args.seats - c.loop.counter ≡ suc (c.args.seats - c.loop.counter - 1) = omega (arith, c.loop-test.true) in
    (c.loop.counter, c.args.seats - c.loop.counter - 1, c.loop.invariant.2 ∙ ap (holding c.args.words.now.key c.loop.counter) left)

pub loop-preserved : goal.loop-preserved
loop-preserved c =
    let left : c.args.seats - c.loop.counter ≡ suc (c.args.seats - c.loop.counter - 1) = omega (arith, c.loop-test.true) in
    let d = c.deal_one.ensures.dealt c.loop.counter (c.args.seats - c.loop.counter - 1) (c.loop.invariant.2 ∙ ap (holding c.args.words.now.key c.loop.counter) left) in
    let next : suc c.loop.counter ≡ c.loop.counter + 1 = omega arith in
    let fewer : c.args.seats - c.loop.counter - 1 ≡ c.args.seats - (c.loop.counter + 1) = omega arith in (
      dealt_one_more _ _ _ _ _ _ c.loop.invariant.0 d.1 c.push_reserved.ensures.items,
      c.deal_one.ensures.table ∙ c.loop.invariant.1,
      d.0 ∙ (λ i. holding c.args.words.now.key (next i) (fewer i)),
      search rules,
    )
