use Rattle.std.specs.Prelude.{Bool, nat_eq}
use Rattle.std.specs.Hash.{Alike, first_alike, on_Alike, same_Alike, u64}
use Rattle.std.proofs.lemmas.Bool.Decides.{Decides-eqb}
use Rattle.obligation_sets.specs.declared.branches.Fork.{Fork}
use Rattle.obligation_sets.specs.contracts.branches.ForkPartialEq.TheImpl.{ghosts as fork_ghosts}

-- whether two forks are the same, as it is derived: by their digests and parts
abbrev pub same_fork : Fork → Fork → Bool
same_fork = fork_ghosts.eq

-- forks that are the same are hashed alike: their digests are
pub fork_Alike : Alike same_fork (λ (f : Fork). u64 f.digest)
fork_Alike = first_alike _ (on_Alike (λ (f : Fork). f.digest) (same_Alike {E = nat_eq} u64 Decides-eqb))
