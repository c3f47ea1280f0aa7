use Rattle.obligation_sets.specs.Forks.{leaves_in}
use Rattle.obligation_sets.specs.declared.forks.KnownForks.{KnownForks}
use Rattle.obligation_sets.proofs.SameForks.{learns_one}
use Rattle.obligation_sets.proofs.forks.KnownForks.learn.Goals as goal

pub returns : goal.returns
returns c =
    let after : KnownForks = record { leaves = c.insert.new.self } in
    learns_one (leaves_in c.args.self.now) (leaves_in c.make_room.new.self) (leaves_in after) c.args.fork c.args.leaves c.make_room.ensures c.in_ok-insert.ensures.updates.0
