use Rattle.std.proofs.Common.{rules, ◌≡◌, sym, subst}
use Rattle.tlsf_values.specs.SetOperations.{combined}
use Rattle.tlsf_values.proofs.MergeLemmas.{rises-combined}
use Rattle.tlsf_values.proofs.RisingLemmas.{Rises}
use Rattle.tlsf_values.proofs.SetLemmas.{is_set_of, rises_from}
use Rattle.tlsf_values.proofs.number_set.NumberSet.combined.Goals as goal

pub of_rising-requires : goal.of_rising-requires
of_rising-requires c =
    let merged : c.in_ok-numbers.numbers.items ≡ combined c.args.operation c.args.self.now c.args.other.now = search rules in
    is_set_of c.in_ok-numbers.numbers.items (subst Rises (sym merged) (rises-combined c.args.operation c.args.self.now c.args.other.now (rises_from c.args.self.now (search rules))))
