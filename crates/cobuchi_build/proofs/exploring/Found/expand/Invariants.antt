use Rattle.std.proofs.Common.{◌≡◌, take}
use Rattle.std.specs.Prelude.{fold}
use Rattle.cobuchi_build.specs.Explored.{meeting}
use Rattle.cobuchi_build.specs.Sizes.{HasRoom}
use Rattle.cobuchi_build.proofs.exploring.Found.expand.Given as goal

abbrev pub invariant-loop-cover : goal.invariant-loop-cover
invariant-loop-cover l = record {
  met : l.self ≡ fold (meeting l.untils l.number l.counter) l.initial.self (take l.cover-index l.covers);
  room : HasRoom l.limits l.self;
}
