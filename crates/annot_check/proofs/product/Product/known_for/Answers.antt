use Rattle.std.proofs.Common.{◌≡◌, true, rules}
use Rattle.annot_check.specs.Place.{same_code}
use Rattle.annot_check.proofs.StepLemmas.{code_same}
use Rattle.annot_check.proofs.product.Product.known_for.Goals as goal

pub returns-then-eq-clause-code : goal.returns-then-eq-clause-code
returns-then-eq-clause-code c =
    let same : same_code c.args.known.code c.args.code.now ≡ true = search rules in
    code_same c.args.known.code c.args.code.now same
