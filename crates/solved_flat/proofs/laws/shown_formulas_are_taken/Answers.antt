use Rattle.solved_flat.proofs.Shown.{shown_formulas_are_taken as law}
use Rattle.solved_flat.proofs.laws.shown_formulas_are_taken.Goals as goal

pub returns : goal.returns
returns c = law
