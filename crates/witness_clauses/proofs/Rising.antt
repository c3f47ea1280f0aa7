-- The clauses of a fall, as the code lists them.
use Rattle.std.proofs.Common.{◌≡◌, ℕ, ◌+◌, ◌-◌, ◌^◌, ◌<◌, ◌≤◌, List, [], ◌∷◌, ◌++◌, length, take, drop, get_or, sym, ap, ◌∙◌, arith}
use Rattle.std.proofs.lemmas.List.{append_assoc, drop_more, length-drop}
use Rattle.truth_witness.specs.Clauses.{opposite}
use Rattle.truth_witness.specs.Witness.{Part, Claim}
use Rattle.truth_witness.specs.Variables.{rise_literal}
use Rattle.truth_witness.specs.Frames.{numbered}
use Rattle.truth_witness.specs.Falls.{Awaited, bit_rises, bits_rise, fall, not_awaited, untils}

-- one more bit, going down
pub rises_on : (x : Claim) (bits : List ℕ) (i below bit : ℕ) (old now new : List (List ℕ)) → 0 < i → i ≤ length bits → below ≡ length bits - 1 - (i - 1)
    → get_or bits (i - 1) 0 ≡ bit → now ≡ old ++ bits_rise x (drop i bits) → new ≡ now ++ bit_rises x below bit → new ≡ old ++ bits_rise x (drop (i - 1) bits)
rises_on x bits i below bit old now new some few lower this before grown =
    grown ∙ ap (λ k. k ++ bit_rises x below bit) before
    ∙ append_assoc old (bits_rise x (drop i bits)) (bit_rises x below bit)
    ∙ ap (λ more. old ++ more) (sym (ap (bits_rise x) (drop_more bits (i - 1) 0 (omega arith)) ∙ step))
  where
    next : i - 1 + 1 ≡ i
    next = omega arith

    under : length (drop (i - 1 + 1) bits) ≡ below
    under = let long : length (drop (i - 1 + 1) bits) ≡ length bits - (i - 1 + 1) = length-drop (i - 1 + 1) bits in omega arith

    step : bits_rise x (drop (i - 1 + 1) bits) ++ bit_rises x (length (drop (i - 1 + 1) bits)) (get_or bits (i - 1) 0) ≡ bits_rise x (drop i bits) ++ bit_rises x below bit
    step = λ k. bits_rise x (drop (next k) bits) ++ bit_rises x (under k) (this k)

-- the three pieces of a fall
pub fall_is : (x : Claim) (p : Part) (us named : List Awaited) (old one two new : List (List ℕ)) → us ≡ untils x → named ≡ take (2 ^ length p.index) us
    → one ≡ old ++ numbered (λ j u. (opposite (rise_literal x 0) ∷ not_awaited x p j u) ∷ []) 0 named → two ≡ one ++ bits_rise x p.rank
    → new ≡ two ++ (rise_literal x (length p.rank) ∷ []) ∷ [] → new ≡ old ++ fall x p
fall_is x p us named old one two new all first is_one is_two is_new =
    is_new ∙ ap (λ k. k ++ last) (is_two ∙ ap (λ k. k ++ bits_rise x p.rank) (is_one ∙ ap (λ k. old ++ pieces k) (first ∙ ap (take (2 ^ length p.index)) all)))
    ∙ ap (λ k. k ++ last) (append_assoc old (pieces (take (2 ^ length p.index) (untils x))) (bits_rise x p.rank))
    ∙ append_assoc old (pieces (take (2 ^ length p.index) (untils x)) ++ bits_rise x p.rank) last
  where
    last : List (List ℕ)
    last = (rise_literal x (length p.rank) ∷ []) ∷ []

    pieces : List Awaited → List (List ℕ)
    pieces k = numbered (λ j u. (opposite (rise_literal x 0) ∷ not_awaited x p j u) ∷ []) 0 k
