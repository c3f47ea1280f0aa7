use Rattle.std.proofs.Common.{◌≡◌, ◌+◌, ◌-◌, ◌*◌, ◌<◌, ◌≤◌, ◌⊎◌, List, length}
use Rattle.tlsf_syntax.specs.Tree.{tree_span}
use Rattle.tlsf_syntax.specs.Lexemes.{Lexeme}
use Rattle.tlsf_syntax.specs.Reading.{taken, level_number, readers, links_end}
use Rattle.tlsf_syntax.specs.Seen.{expr_seen, link_list_seen, range_seen}
use Rattle.tlsf_reader.specs.Descent.{Eventually, Builds, put_tree, put_link}
use Rattle.tlsf_reader.proofs.expression.+expression.Given as goal

abbrev pub decreases-expression : goal.decreases-expression
decreases-expression l = 8 * length l.ahead.now + 5

abbrev pub decreases-climb : goal.decreases-climb
decreases-climb l = 8 * length l.ahead.now + 7

abbrev pub decreases-extended : goal.decreases-extended
decreases-extended l = 8 * length l.ahead.now + 6

abbrev pub decreases-chain : goal.decreases-chain
decreases-chain l = 8 * length l.ahead.now + 5

abbrev pub decreases-pair : goal.decreases-pair
decreases-pair l = 8 * length l.ahead.now + 5

abbrev pub decreases-signed : goal.decreases-signed
decreases-signed l = 8 * length l.ahead.now + 4

abbrev pub decreases-prefixed : goal.decreases-prefixed
decreases-prefixed l = 8 * length l.ahead.now + 6

abbrev pub decreases-counted : goal.decreases-counted
decreases-counted l = 8 * length l.ahead.now + 6

abbrev pub decreases-windowed : goal.decreases-windowed
decreases-windowed l = 8 * length l.ahead.now + 6

abbrev pub decreases-big : goal.decreases-big
decreases-big l = 8 * length l.ahead.now + 6

abbrev pub decreases-ranges : goal.decreases-ranges
decreases-ranges l = 8 * length l.ahead.now + 7

abbrev pub decreases-range : goal.decreases-range
decreases-range l = 8 * length l.ahead.now + 6

abbrev pub decreases-primary : goal.decreases-primary
decreases-primary l = 8 * length l.ahead.now + 3

abbrev pub decreases-grouped : goal.decreases-grouped
decreases-grouped l = 8 * length l.ahead.now + 6

abbrev pub decreases-word : goal.decreases-word
decreases-word l = 8 * length l.ahead.now + 6

abbrev pub decreases-set : goal.decreases-set
decreases-set l = 8 * length l.ahead.now + 6

abbrev pub decreases-longer_set : goal.decreases-longer_set
decreases-longer_set l = 8 * length l.ahead.now + 6

abbrev pub decreases-expressions : goal.decreases-expressions
decreases-expressions l = 8 * length l.ahead.now + 6

abbrev pub invariant-climb-loop-next : goal.invariant-climb-loop-next
invariant-climb-loop-next l = record {
  read : (ls : List Lexeme) → Eventually (λ d. (readers d).level l.ends l.initial.at ls) (taken (expr_seen l.initial.tree) l.initial.ahead) → Eventually (λ d. (readers d).level l.ends l.at ls) (taken (expr_seen l.tree) l.ahead);
  up : level_number l.at ≤ level_number l.to;
  no_sign : (level_number l.to < 9) ⊎ (9 ≤ level_number l.at);
  shorter : length l.ahead ≤ length l.initial.ahead;
}

abbrev pub decreases-climb-loop-next : goal.decreases-climb-loop-next
decreases-climb-loop-next l = level_number l.to - level_number l.at

abbrev pub invariant-chain-loop-op : goal.invariant-chain-loop-op
invariant-chain-loop-op l = record {
  builds : Builds put_link (λ d. (readers d).links l.ends l.level l.initial.ahead) l.rest.items (λ d. (readers d).links l.ends l.level l.ahead);
  end : l.end ≡ links_end (tree_span (expr_seen l.first)).end (link_list_seen l.rest.items);
  shorter : length l.ahead ≤ length l.initial.ahead;
}

abbrev pub decreases-chain-loop-op : goal.decreases-chain-loop-op
decreases-chain-loop-op l = length l.ahead

abbrev pub invariant-expressions-loop-list : goal.invariant-expressions-loop-list
invariant-expressions-loop-list l = record {
  builds : Builds put_tree (λ d. (readers d).list l.initial.ahead) l.list.items (λ d. (readers d).list l.ahead);
  shorter : length l.ahead ≤ length l.initial.ahead;
}

abbrev pub decreases-expressions-loop-list : goal.decreases-expressions-loop-list
decreases-expressions-loop-list l = length l.ahead

abbrev pub invariant-ranges-loop-ranges : goal.invariant-ranges-loop-ranges
invariant-ranges-loop-ranges l = record {
  builds : Builds range_seen (λ d. (readers d).ranges l.initial.ahead) l.ranges.items (λ d. (readers d).ranges l.ahead);
  shorter : length l.ahead ≤ length l.initial.ahead;
}

abbrev pub decreases-ranges-loop-ranges : goal.decreases-ranges-loop-ranges
decreases-ranges-loop-ranges l = length l.ahead
