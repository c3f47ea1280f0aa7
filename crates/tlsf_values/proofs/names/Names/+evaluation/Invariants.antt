use Rattle.std.proofs.Common.{◌≡◌, ◌+◌, ◌*◌, ◌^◌, length, [], map, drop, reverse}
use Rattle.tlsf_values.specs.LevelsSeen.{inner_of, onward, turns_left}
use Rattle.ltl_formula.specs.Nodes.{Grows}
use Rattle.tlsf_values.specs.NamesSeen.{names_seen}
use Rattle.tlsf_values.specs.PartsSeen.{numbers_at, parts_seen}
use Rattle.tlsf_values.proofs.PartLemmas.{numbers_after}
use Rattle.tlsf_syntax.specs.Seen.{alternative_seen, expr_seen, link_list_seen, range_list_seen, trees_seen, word_seen}
use Rattle.tlsf_values.specs.Values.{arguments_at, big_value, chain_value, chosen_value, evaluator, span_start}
use Rattle.tlsf_values.proofs.names.Names.+evaluation.Given as goal

abbrev pub decreases-value : goal.decreases-value
decreases-value l = 2 ^ 70 * l.left

abbrev pub decreases-form : goal.decreases-form
decreases-form l = 2 ^ 70 * l.left + 2 ^ 66 + 2

abbrev pub decreases-meaning_value : goal.decreases-meaning_value
decreases-meaning_value l = 2 ^ 70 * l.left + 1

abbrev pub decreases-body : goal.decreases-body
decreases-body l = 2 ^ 70 * l.left

abbrev pub decreases-chosen : goal.decreases-chosen
decreases-chosen l = 2 ^ 70 * l.left + 2

abbrev pub decreases-guard : goal.decreases-guard
decreases-guard l = 2 ^ 70 * l.left + 1

abbrev pub decreases-call : goal.decreases-call
decreases-call l = 2 ^ 70 * l.left + 2

abbrev pub decreases-arguments : goal.decreases-arguments
decreases-arguments l = 2 ^ 70 * l.left + 1

abbrev pub decreases-index : goal.decreases-index
decreases-index l = 2 ^ 70 * l.left + 2

abbrev pub decreases-part_numbers : goal.decreases-part_numbers
decreases-part_numbers l = 2 ^ 70 * l.left + 1

abbrev pub decreases-steps : goal.decreases-steps
decreases-steps l = 2 ^ 70 * l.left + 1

abbrev pub decreases-chain : goal.decreases-chain
decreases-chain l = 2 ^ 70 * l.left + 1

abbrev pub decreases-pair : goal.decreases-pair
decreases-pair l = 2 ^ 70 * l.left + 1

abbrev pub decreases-counted : goal.decreases-counted
decreases-counted l = 2 ^ 70 * l.left + 1

abbrev pub decreases-windowed : goal.decreases-windowed
decreases-windowed l = 2 ^ 70 * l.left + 1

abbrev pub decreases-big : goal.decreases-big
decreases-big l = 2 ^ 70 * l.left + 2 ^ 66 + 1

abbrev pub decreases-over_ranges : goal.decreases-over_ranges
decreases-over_ranges l = 2 ^ 70 * l.left + 2

abbrev pub decreases-inward : goal.decreases-inward
decreases-inward l = 2 ^ 70 * l.left + 1

abbrev pub invariant-chosen-loop-alternative : goal.invariant-chosen-loop-alternative
invariant-chosen-loop-alternative l =
    let r = evaluator (names_seen l.self) l.left in
    let b = l.fn.bound in
    (l.bound ≡ l.fn.bound) × Grows l.fn.work.formulas l.work.formulas ×
    (chosen_value r b l.place (map alternative_seen l.alternatives) l.fn.work ≡ chosen_value r b l.place (map alternative_seen (drop l.alternative-index l.alternatives)) l.work)

abbrev pub invariant-arguments-loop-i : goal.invariant-arguments-loop-i
invariant-arguments-loop-i l =
    let r = evaluator (names_seen l.self) l.left in
    let b = l.fn.bound in
    (l.bound ≡ l.fn.bound) × Grows l.fn.work.formulas l.work.formulas ×
    (arguments_at r b [] (map word_seen l.words) (trees_seen l.arguments) l.fn.work ≡ arguments_at r b l.inner (map word_seen (drop l.i l.words)) (trees_seen (drop l.i l.arguments)) l.work)

abbrev pub invariant-part_numbers-loop-part : goal.invariant-part_numbers-loop-part
invariant-part_numbers-loop-part l =
    let r = evaluator (names_seen l.self) l.left in
    let b = l.fn.bound in
    (l.bound ≡ l.fn.bound) × Grows l.fn.work.formulas l.work.formulas ×
    (numbers_at r b (trees_seen l.parts) l.fn.work ≡ numbers_after r b (parts_seen l.wrong l.numbers.items) (trees_seen (drop l.part-index l.parts)) l.work)

abbrev pub invariant-chain-loop-link : goal.invariant-chain-loop-link
invariant-chain-loop-link l =
    let names = names_seen l.self in
    let r = evaluator names l.left in
    let b = l.fn.bound in
    let t = expr_seen l.first in
    (l.bound ≡ l.fn.bound) × Grows l.fn.work.formulas l.work.formulas ×
    (chain_value names r b l.place (span_start t) l.initial.value (link_list_seen l.rest) l.initial.work ≡ chain_value names r b l.place (span_start t) l.value (link_list_seen (drop l.link-index l.rest)) l.work)

abbrev pub invariant-over_ranges-loop-levels : goal.invariant-over_ranges-loop-levels
invariant-over_ranges-loop-levels l =
    let r = evaluator (names_seen l.self) l.left in
    (drop (length (reverse l.levels.items)) l.bound ≡ l.fn.bound) × Grows l.fn.work.formulas l.work.formulas ×
    (big_value r l.big.place l.big.connective l.fn.bound (range_list_seen l.ranges) (expr_seen l.big.part.now) l.fn.work ≡ onward r l.big l.bound (inner_of l.ranges (reverse l.levels.items)) (reverse l.levels.items) l.work)

abbrev pub decreases-over_ranges-loop-levels : goal.decreases-over_ranges-loop-levels
decreases-over_ranges-loop-levels l = turns_left l.ranges (reverse l.levels.items)
