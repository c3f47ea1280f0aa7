use Rattle.std.proofs.Common.{length}
use Rattle.batch_run.proofs.running.run_all.Given as goal

abbrev pub ghosts-run_workers : goal.ghosts-run_workers
ghosts-run_workers g a = record { places = length a.batch.now.tasks.now }
