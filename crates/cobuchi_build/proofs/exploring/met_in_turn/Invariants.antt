use Rattle.std.proofs.Common.{◌≡◌, ◌+◌, drop}
use Rattle.std.specs.List.{position_or_len}
use Rattle.obligation_sets.specs.Ids.{is_among}
use Rattle.cobuchi_build.proofs.exploring.met_in_turn.Given as goal

abbrev pub invariant-loop-number : goal.invariant-loop-number
invariant-loop-number l = position_or_len (is_among l.postponed) l.untils ≡ l.number + position_or_len (is_among l.postponed) (drop l.number l.untils)
