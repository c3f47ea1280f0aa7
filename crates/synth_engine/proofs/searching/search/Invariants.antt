use Rattle.synth_engine.specs.Plans.{named_of}
use Rattle.synth_engine.proofs.searching.search.Given as goal

abbrev pub ghosts-run_workers : goal.ghosts-run_workers
ghosts-run_workers g a = record { named = named_of a.plan }
