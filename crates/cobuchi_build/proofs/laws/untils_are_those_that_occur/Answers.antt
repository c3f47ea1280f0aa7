use Rattle.cobuchi_build.proofs.Occurs.{untils_are_those_that_occur}
use Rattle.cobuchi_build.proofs.laws.untils_are_those_that_occur.Goals as goal

pub returns : goal.returns
returns c = untils_are_those_that_occur
