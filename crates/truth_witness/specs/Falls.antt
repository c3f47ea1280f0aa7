-- How a step lets the rank of a part fall, or awaits an until (the rule of justice of Manna and Pnueli; that a step which does neither
-- is refuted by clauses is this project's own).
use Rattle.std.specs.Prelude.{ℕ, ◌+◌, ◌^◌, List, [], ◌∷◌, ◌++◌, map, length, take, if◌then◌else◌}
use Rattle.std.specs.List.{flat_map}
use Rattle.letters_and_lassos.specs.Signals.{has}
use Rattle.ltl_formula.specs.declared.nodes.Node.{Node}
use Rattle.ltl_formula.specs.declared.nodes.Node.TheVariants.{Until}
use Rattle.ltl_formula.specs.Nodes.{node_at}
use Rattle.truth_witness.specs.Clauses.{opposite}
use Rattle.truth_witness.specs.Witness.{Part, Claim}
use Rattle.truth_witness.specs.Variables.{ids, truth_literal, shifted, rise_literal}
use Rattle.truth_witness.specs.Frames.{as_id, numbered}

-- an until that occurs: the literals of its own truth and of that of its right part
pub record Awaited : Type 0 where
  pub until : ℕ
  pub right : ℕ

abbrev pub awaited_in : Claim → ℕ → Node → List Awaited
awaited_in x g (Until a b) = record { until = truth_literal x (as_id g); right = truth_literal x b } ∷ []
awaited_in x g _ = []

-- the untils that occur, by rising ids
abbrev pub untils : Claim → List Awaited
untils x = flat_map (λ g. awaited_in x g (node_at x.nodes g)) (ids x)

-- the untils that the index of a part can name
abbrev pub named_untils : Claim → Part → List Awaited
named_untils x p = take (2 ^ length p.index) (untils x)

-- the bits, the greatest first, aren't those of j
abbrev pub differs : ℕ → List ℕ → List ℕ
differs j [] = []
differs j (bit ∷ bits) = (if has j (length bits) then opposite bit else bit) ∷ differs j bits

-- the part doesn't await until j in this step: its index doesn't name it before and after, or the until is false or its right part true
abbrev pub not_awaited : Claim → Part → ℕ → Awaited → List ℕ
not_awaited x p j u = differs j p.index ++ map (shifted x) (differs j p.index) ++ opposite u.until ∷ u.right ∷ []

-- where this is the bit above the n lowest ones: if the numbers of the bits from it down rise, or stay where the lower ones did, then
-- the bit rises, or stays and the lower ones did so
abbrev pub bit_rises : Claim → ℕ → ℕ → List (List ℕ)
bit_rises x n bit =
    (opposite (rise_literal x (n + 1)) ∷ shifted x bit ∷ opposite bit ∷ [])
    ∷ (opposite (rise_literal x (n + 1)) ∷ shifted x bit ∷ rise_literal x n ∷ [])
    ∷ (opposite (rise_literal x (n + 1)) ∷ opposite bit ∷ rise_literal x n ∷ []) ∷ []

-- the same of each bit, of which the greatest stands first, from the lowest on
abbrev pub bits_rise : Claim → List ℕ → List (List ℕ)
bits_rise x [] = []
bits_rise x (bit ∷ bits) = bits_rise x bits ++ bit_rises x (length bits) bit

-- The step neither lets the rank of the part fall nor awaits an until while the rank stays: no named until is awaited where the lowest
-- 0 bits "rise", and all bits of the rank rise, or stay where that is so.
abbrev pub fall : Claim → Part → List (List ℕ)
fall x p =
    numbered (λ j u. (opposite (rise_literal x 0) ∷ not_awaited x p j u) ∷ []) 0 (named_untils x p)
    ++ bits_rise x p.rank
    ++ (rise_literal x (length p.rank) ∷ []) ∷ []
