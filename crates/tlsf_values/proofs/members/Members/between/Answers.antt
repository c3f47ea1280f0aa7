use Rattle.std.proofs.Common.{rules, FitsSigned, of_z, to_z, w64}
use Rattle.tlsf_values.proofs.LevelLemmas.{run_few}
use Rattle.tlsf_values.proofs.members.Members.between.Goals as goal

pub returns-clause-few : goal.returns-clause-few
returns-clause-few c =
    let low : FitsSigned w64 (to_z w64 (of_z w64 c.in-Ok.next)) = search rules in
    let high : FitsSigned w64 (to_z w64 (of_z w64 c.in-Ok-try_from.last)) = search rules in
    run_few (to_z w64 (of_z w64 c.in-Ok.next)) (to_z w64 (of_z w64 c.in-Ok-try_from.last)) low high
