use Rattle.std.proofs.Common.{◌≡◌, length, ap, ◌∙◌, to_z-of_z}
use Rattle.std.specs.List.Sorted.{IsBinarySearchResult, IsSearchInRange}
use Rattle.std.specs.Ordering.{int_cmp}
use Rattle.tlsf_values.proofs.SetLemmas.{found_in, rises_from}
use Rattle.tlsf_values.proofs.number_set.NumberSet.contains.Goals as goal

pub returns : goal.returns
returns c =
    let list : c.deref-2.result.now ≡ c.args.self.now = c.deref-2.ensures.value ∙ ap (λ v. v.items) c.deref.ensures ∙ c.self.view_is in
    let within : IsSearchInRange c.binary_search.result (length c.args.self.now) = rw list at c.binary_search.ensures.bound in
    let position : IsBinarySearchResult (λ y. int_cmp y c.args.number) c.args.self.now c.binary_search.result = rw (list, to_z-of_z c.ranges.number) at c.binary_search.ensures.position in
    c.is_ok.ensures.value ∙ found_in c.args.self.now c.args.number c.binary_search.result (rises_from c.args.self.now (rw c.self.view_is at c.self.invariant)) within position
