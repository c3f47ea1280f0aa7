use Rattle.std.proofs.Common.{◌≡◌, true, sym, subst, ◌∙◌, rules}
use Rattle.obligation_sets.specs.Ids.{IdsRise}
use Rattle.named_annotation.proofs.Taking.{rises_of}
use Rattle.named_annotation.proofs.formula.OfFormula.state.Goals as goal

pub new-requires : goal.new-requires
new-requires c =
    let fits : c.may_be.result ≡ true = search rules in
    subst IdsRise c.deref.ensures.value (rises_of c.args.self.now.formulas.now c.args.self.now.f _ (sym c.may_be.ensures.value ∙ fits))
