use Rattle.cobuchi_build.proofs.NamedPaths.{true_formulas_have_paths as law}
use Rattle.cobuchi_build.proofs.laws.true_formulas_have_paths.Goals as goal

pub returns : goal.returns
returns c = law
