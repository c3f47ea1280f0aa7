use Rattle.witness_clauses.proofs.Bounds.{small_part}
use Rattle.witness_clauses.proofs.claims.Claim.own_fall.Goals as goal

pub add_fall-requires : goal.add_fall-requires
add_fall-requires c = small_part c.args.self.now c.args.part.now c.frame_size-frame.ensures.countable.small c.requires.part
