use Rattle.std.proofs.Common.{rules}
use Rattle.witness_clauses.proofs.Rising.{fall_is}
use Rattle.witness_clauses.proofs.claims.Claim.add_fall.Goals as goal

pub returns : goal.returns
returns c =
    fall_is c.args.self.now c.args.part.now c.in_ok-untils.untils.items c.first_ones-named.result.now c.args.clauses.now.items c.add_not_awaited.new.clauses.items
    c.add_bits_rise.new.clauses.items c.add.new.clauses.items (search rules) (search rules) (search rules) (search rules) (search rules)
