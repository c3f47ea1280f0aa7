use Rattle.std.proofs.Common.{◌≡◌, subst}
use Rattle.std.specs.Prelude.{IfOk}
use Rattle.std.proofs.lemmas.List.Filters.{dedup_is}
use Rattle.tlsf_values.proofs.SetLemmas.{set_again, sorted_once}
use Rattle.tlsf_values.proofs.number_set.NumberSet.made.Goals as goal

pub of_rising-requires : goal.of_rising-requires
of_rising-requires c =
    set_again c.args.numbers.items c.dedup.new.self.items
    (sorted_once c.args.numbers.items c.sort_unstable.new.self.items c.dedup.new.self.items c.sort_unstable.ensures.permutation c.sort_unstable.ensures.sorted (dedup_is _ _ _ c.dedup.ensures.filtered))

pub returns : goal.returns
returns c =
    subst (λ l. IfOk c.of_rising.result (λ s. s ≡ l))
    (sorted_once c.args.numbers.items c.sort_unstable.new.self.items c.dedup.new.self.items c.sort_unstable.ensures.permutation c.sort_unstable.ensures.sorted (dedup_is _ _ _ c.dedup.ensures.filtered))
    c.of_rising.ensures
