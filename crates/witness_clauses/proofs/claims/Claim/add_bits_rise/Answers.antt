use Rattle.std.proofs.Common.{rules, get_or, ◌-◌, length, refl}
use Rattle.witness_clauses.proofs.Rising.{rises_on}
use Rattle.witness_clauses.proofs.claims.Claim.add_bits_rise.Goals as goal

pub loop-place-preserved : goal.loop-place-preserved
loop-place-preserved c =
    rises_on c.args.self.now c.args.bits.now c.loop-place.place (length c.args.bits.now - 1 - (c.loop-place.place - 1)) (get_or c.args.bits.now (c.loop-place.place - 1) 0) c.args.clauses.now.items c.loop-place.clauses.items
    c.add_bit_rises.new.clauses.items (search rules) (search rules) refl refl c.loop-place.invariant (search rules)
