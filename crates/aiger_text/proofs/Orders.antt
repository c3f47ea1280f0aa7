use Rattle.std.proofs.Common.{◌≡◌, ℕ, ◌+◌, ◌<◌, List, [], ◌∷◌, ◌++◌, length, get_or, sym, ap, ◌∙◌, arith, below_more}
use Rattle.std.proofs.lemmas.List.{length_push, get_or_push, get_or_append_left, get_or_default}
use Rattle.aiger_text.specs.declared.circuits.Gate.{Gate}
use Rattle.aiger_text.specs.CircuitType.{ArePlaces, AreSorted, IsOrder}

pub places_more : (n : ℕ) (places : List ℕ) → ArePlaces n places → ArePlaces (n + 1) (places ++ n ∷ [])
places_more n places so = record {
  count = length_push places n ∙ ap (λ k. k + 1) so.count;
  each = below_more (λ k. get_or (places ++ n ∷ []) k 0 ≡ k) n
      (λ k h. get_or_append_left places (n ∷ []) 0 k (rw so.count h) ∙ so.each k h)
      (get_or_push places n 0 n so.count);
}

-- sorted gates are in order as they stand
pub order_of_sorted : (gates : List Gate) (places : List ℕ) → AreSorted gates → ArePlaces (length gates) places → IsOrder gates places
order_of_sorted gates places sorted so = record {
  all = λ k h. (k, rw so.count h, sym (get_or_default places k 0 k (rw so.count h)) ∙ so.each k h);
  places = λ k d h. let within : k < length gates = rw so.count at h in rw (get_or_default places k d 0 h, so.each k within) within;
  once = λ i k less h e.
      let within : k < length gates = rw so.count at h in
      let same : i ≡ k = sym (so.each i (omega arith)) ∙ e ∙ so.each k within in
      omega arith;
  behind = λ i k le h.
      let within : k < length gates = rw so.count at h in
      rw (so.each i (omega arith), so.each k within) (sorted i k le within);
}
