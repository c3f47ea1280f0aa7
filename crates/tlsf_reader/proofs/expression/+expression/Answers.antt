use Rattle.std.proofs.Common.{◌≡◌, inl, inr, false, List, [], ◌∷◌, ◌++◌, length, refl, sym, ap, ◌∙◌, arith, rules}
use Rattle.tlsf_syntax.specs.declared.expr.Link.{Link, roll-Link, the_lemmas}
use Rattle.tlsf_syntax.specs.declared.expr.Span.{Span}
use Rattle.tlsf_tokens.specs.declared.symbol.Symbol.TheVariants as symbol
use Rattle.tlsf_syntax.specs.Tree.{Tree, tree_span, index, named, set, tree, no_trees}
use Rattle.tlsf_syntax.specs.Lexemes.{Lexeme, lexeme_span, word_of}
use Rattle.tlsf_syntax.specs.declared.level.Level.TheVariants.{Primary, Memberships, Prefixes, Releases}
use Rattle.tlsf_syntax.specs.declared.level.Joins.TheVariants as joins
use Rattle.tlsf_syntax.specs.Reading.{Answer, taken, go_on, expect, from_to, level_number, operator_here, readers, Readers, if_next, set_second, close_set}
use Rattle.tlsf_reader.specs.declared.ahead.SignKind.TheVariants.{Plain, Counted, Windowed, Big}
use Rattle.tlsf_reader.specs.Seen.{seen}
use Rattle.tlsf_syntax.specs.Seen.{expr_seen, trees_seen, range_seen}
use Rattle.tlsf_reader.specs.Descent.{put_link, put_tree, ranges_seen}
use Rattle.tlsf_reader.proofs.Descending.{read_go, read_stop, read_expected, read_unexpected, read_built, read_here, read_nothing, read_level, read_refused, no_sign_from, builds_none, builds_more, link_more, ends_last, read_next, read_other, read_primary, read_no_primary, read_no_front, list_more, range_more, range_refused, read_between, read_bounds, read_unbounded, members_read, members_refused, between_read}
use Rattle.tlsf_reader.proofs.Climbing.{read_exit, climbed, climbed_to, read_extended, chain_refused, read_chain, read_none, pair_refused, pair_read, read_unsigned, read_signed}
use Rattle.tlsf_syntax.specs.declared.expr.Expr.{Expr}
use Rattle.tlsf_reader.proofs.Lists.{list_stops, list_ends, range_exit, ranges_stop, ranges_end, read_closed}
use Rattle.tlsf_reader.proofs.expression.+expression.Goals as goal

pub expression-returns-in_err-operand-clause-read : goal.expression-returns-in_err-operand-clause-read
expression-returns-in_err-operand-clause-read t c =
    read_exit _ c.from_residual.ensures.1
    (read_refused c.args.ends c.args.level Primary c.args.ahead.now (omega arith) (inl (omega arith)) (read_level c.args.ends Primary c.args.ahead.now c.in_err-operand.ensures.read))

pub expression-climb-requires : goal.expression-climb-requires
expression-climb-requires t c = (omega (arith, c.in_ok-operand.ensures.shorter), (omega arith, inl (omega arith)))

pub expression-returns-then-rank-clause-read : goal.expression-returns-then-rank-clause-read
expression-returns-then-rank-clause-read t c =
    let operand = read_level c.args.ends Primary c.args.ahead.now c.in_ok-operand.ensures.read in
    c.climb.ensures.read c.args.ahead.now (operand.ok _ refl)

pub expression-returns-in_err-tree-clause-read : goal.expression-returns-in_err-tree-clause-read
expression-returns-in_err-tree-clause-read t c =
    read_exit _ c.from_residual-in_err-tree.ensures.1 (read_refused c.args.ends c.args.level Prefixes c.args.ahead.now (omega arith) (inr (omega arith)) c.in_err-tree.ensures.read)

pub expression-climb-requires-2 : goal.expression-climb-requires-2
expression-climb-requires-2 t c = (omega (arith, c.in_ok-tree.ensures.shorter), (omega arith, inr (omega arith)))

pub expression-returns-clause-read : goal.expression-returns-clause-read
expression-returns-clause-read t c = c.climb-2.ensures.read c.args.ahead.now (c.in_ok-tree.ensures.read.ok _ refl)

pub climb-loop-next-init : goal.climb-loop-next-init
climb-loop-next-init t c = record { read = λ ls h. h; up = c.requires.up; no_sign = c.requires.no_sign; shorter = omega arith }

pub climb-extended-requires : goal.climb-extended-requires
climb-extended-requires t c = (omega arith, c.in-Some.ensures.upwards)

pub climb-returns-in_err-tree-clause-read : goal.climb-returns-in_err-tree-clause-read
climb-returns-in_err-tree-clause-read t c =
    λ ls h.
    let i = c.loop-next.invariant in
    let s = c.in-Some.ensures in
    let to = c.args.to in
    let m = c.in-Some.next in
    let n = c.loop-next.at in
    read_exit _ c.from_residual.ensures.1
    (read_refused c.args.ends to m ls s.within (no_sign_from (level_number to) (level_number n) (level_number m) i.no_sign (omega (arith, s.above)))
    (climbed c.args.ends to m n ls s.upwards s.above s.within i.no_sign (i.read ls h) c.in_err-tree.ensures.read))

pub climb-loop-next-smaller : goal.climb-loop-next-smaller
climb-loop-next-smaller t c = omega (arith, c.in-Some.ensures.above, c.in-Some.ensures.within)

pub climb-loop-next-preserved : goal.climb-loop-next-preserved
climb-loop-next-preserved t c =
    let i = c.loop-next.invariant in
    let s = c.in-Some.ensures in
    let to = c.args.to in
    let m = c.in-Some.next in
    let n = c.loop-next.at in
    record {
      read = λ ls h. let up = climbed c.args.ends to m n ls s.upwards s.above s.within i.no_sign (i.read ls h) c.in_ok-tree.ensures.read in up.ok _ refl;
      up = s.within;
      no_sign = no_sign_from (level_number to) (level_number n) (level_number m) i.no_sign (omega (arith, s.above));
      shorter = omega (arith, c.in_ok-tree.ensures.shorter);
    }

pub climb-returns-clause-read : goal.climb-returns-clause-read
climb-returns-clause-read t c =
    λ ls h. let i = c.loop-next.invariant in climbed_to c.args.ends c.args.to c.loop-next.at ls i.up c.in_default.ensures.last (i.read ls h)

pub extended-chain-requires : goal.extended-chain-requires
extended-chain-requires t c = (omega arith, c.requires)

pub extended-returns-in-Left-clause-read : goal.extended-returns-in-Left-clause-read
extended-returns-in-Left-clause-read t c =
    read_extended c.args.ends c.args.level c.args.tighter (expr_seen c.args.tree) c.args.ahead.now joins.Left (sym c.joins.ensures ∙ c.in-Left.is) c.chain.ensures.read

pub extended-returns-in-Once-clause-read : goal.extended-returns-in-Once-clause-read
extended-returns-in-Once-clause-read t c =
    read_extended c.args.ends c.args.level c.args.tighter (expr_seen c.args.tree) c.args.ahead.now joins.Once (sym c.joins.ensures ∙ c.in-Once.is) c.pair.ensures.read

pub extended-returns-in-Right-clause-read : goal.extended-returns-in-Right-clause-read
extended-returns-in-Right-clause-read t c =
    read_extended c.args.ends c.args.level c.args.tighter (expr_seen c.args.tree) c.args.ahead.now joins.Right (sym c.joins.ensures ∙ c.in-Right.is) c.pair-in-Right.ensures.read

pub extended-returns-in-None-clause-read : goal.extended-returns-in-None-clause-read
extended-returns-in-None-clause-read t c =
    read_extended c.args.ends c.args.level c.args.tighter (expr_seen c.args.tree) c.args.ahead.now joins.None (sym c.joins.ensures ∙ c.in-None.is) (read_here refl)

pub chain-loop-op-init : goal.chain-loop-op-init
chain-loop-op-init t c = record {
  builds = builds_none put_link _ _ (cc);
  end = rw c.new-rest.ensures.items (ap (λ (s : Span). s.end) c.span-end.ensures);
  shorter = omega arith;
}

pub chain-returns-in_err-right-clause-read : goal.chain-returns-in_err-right-clause-read
chain-returns-in_err-right-clause-read t c =
    read_exit _ c.from_residual.ensures.1
    (chain_refused c.args.ends c.args.level c.args.tighter c.args.ahead.now c.loop-op.ahead _ c.in-Some.op (expr_seen c.args.first) c.loop-op.rest.items c.requires c.in-Some.ensures.value c.in-Some.ensures.some
    c.loop-op.invariant.builds c.in_err-right.ensures.read)

pub chain-returns-in_err-push-clause-read : goal.chain-returns-in_err-push-clause-read
chain-returns-in_err-push-clause-read t c = read_exit _ c.from_residual-in_err-push.ensures.1 (read_nothing refl)

pub chain-loop-op-preserved : goal.chain-loop-op-preserved
chain-loop-op-preserved t c =
    let s = c.in-Some.ensures in
    let l : Link = roll-Link (record { op = c.in-Some.op; right = c.in_ok-right.right }) in
    let pushed : c.push.new.self.items ≡ c.loop-op.rest.items ++ l ∷ [] = search rules in
    let op_is : l.op ≡ c.in-Some.op = search (rules, the_lemmas) in
    let right_is : l.right ≡ c.in_ok-right.right = search (rules, the_lemmas) in
    record {
      builds = builds_more c.push.new.self.items pushed c.loop-op.invariant.builds
          (link_more c.args.ends c.args.level c.args.tighter c.loop-op.ahead _ c.expression.new.ahead c.in-Some.op l (expr_seen c.in_ok-right.right) c.requires (sym s.value) s.some op_is (ap expr_seen right_is) (c.in_ok-right.ensures.read.ok _ refl));
      end = ap (λ (x : Span). x.end) c.span-end-in-Some.ensures ∙ ap (λ (e : Expr). (tree_span (expr_seen e)).end) (sym right_is) ∙ ends_last (tree_span (expr_seen c.args.first)).end c.loop-op.rest.items l c.push.new.self.items pushed;
      shorter = omega (arith, s.shorter, c.in_ok-right.ensures.shorter);
    }

pub chain-chain-requires : goal.chain-chain-requires
chain-chain-requires t c = c.loop-op.invariant.end

pub chain-returns-clause-read : goal.chain-returns-clause-read
chain-returns-clause-read t c =
    read_chain c.args.ends c.args.level c.args.tighter c.args.ahead.now c.loop-op.ahead _ (expr_seen c.args.first) c.loop-op.rest.items c.requires c.in_default.ensures.value c.in_default.ensures.none
    c.loop-op.invariant.builds c.chain.ensures

pub pair-returns-in_default-clause-read : goal.pair-returns-in_default-clause-read
pair-returns-in_default-clause-read t c = read_none _ (expr_seen c.args.left) c.args.ahead.now _ _ c.in_default.ensures.value c.in_default.ensures.none refl

pub pair-returns-in_err-right-clause-read : goal.pair-returns-in_err-right-clause-read
pair-returns-in_err-right-clause-read t c =
    read_exit _ c.from_residual.ensures.1
    (pair_refused c.args.ends c.args.operand (operator_here c.args.ends c.args.level c.args.ahead.now) c.in-Some.op (expr_seen c.args.left) c.args.ahead.now _ c.in-Some.ensures.value c.in-Some.ensures.some
    c.in_err-right.ensures.read)

pub pair-returns-clause-read : goal.pair-returns-clause-read
pair-returns-clause-read t c =
    pair_read c.args.ends c.args.operand (operator_here c.args.ends c.args.level c.args.ahead.now) c.in-Some.op (expr_seen c.args.left) c.args.ahead.now _ c.in-Some.ensures.value c.in-Some.ensures.some
    c.in_ok-right.ensures.read c.pair.ensures

pub signed-returns-in_err-tree-clause-read : goal.signed-returns-in_err-tree-clause-read
signed-returns-in_err-tree-clause-read t c =
    read_exit _ c.from_residual.ensures.1
    (read_unsigned c.args.ends c.args.ahead.now c.sign.new.self c.in_default.ensures.sign c.in_default.ensures.same
    (read_refused c.args.ends Memberships Primary c.sign.new.self (omega arith) (inl (omega arith)) (read_level c.args.ends Primary c.sign.new.self c.in_err-tree.ensures.read)))

pub signed-climb-requires : goal.signed-climb-requires
signed-climb-requires t c = (omega (arith, c.in_ok-tree.ensures.shorter, ap length c.in_default.ensures.same), (omega arith, inl (omega arith)))

pub signed-returns-in_default-clause-read : goal.signed-returns-in_default-clause-read
signed-returns-in_default-clause-read t c =
    let operand = read_level c.args.ends Primary c.sign.new.self c.in_ok-tree.ensures.read in
    read_unsigned c.args.ends c.args.ahead.now c.sign.new.self c.in_default.ensures.sign c.in_default.ensures.same (c.climb.ensures.read c.sign.new.self (operand.ok _ refl))

pub signed-returns-in-Plain-clause-read : goal.signed-returns-in-Plain-clause-read
signed-returns-in-Plain-clause-read t c =
    read_signed c.args.ends c.args.ahead.now _ c.in-Some.sign (Plain c.in-Plain.op) c.in-Some.ensures.sign c.in-Plain.is (c.prefixed.ensures.read (seen c.in-Some.sign.first) refl)

pub signed-returns-in-Counted-clause-read : goal.signed-returns-in-Counted-clause-read
signed-returns-in-Counted-clause-read t c =
    read_signed c.args.ends c.args.ahead.now _ c.in-Some.sign Counted c.in-Some.ensures.sign c.in-Counted.is (c.counted.ensures.read (seen c.in-Some.sign.first) refl)

pub signed-returns-in-Windowed-clause-read : goal.signed-returns-in-Windowed-clause-read
signed-returns-in-Windowed-clause-read t c =
    read_signed c.args.ends c.args.ahead.now _ c.in-Some.sign (Windowed c.in-Windowed.op) c.in-Some.ensures.sign c.in-Windowed.is (c.windowed.ensures.read (seen c.in-Some.sign.first) refl)

pub signed-returns-in-Big-clause-read : goal.signed-returns-in-Big-clause-read
signed-returns-in-Big-clause-read t c =
    read_signed c.args.ends c.args.ahead.now _ c.in-Some.sign (Big c.in-Big.op) c.in-Some.ensures.sign c.in-Big.is (c.big.ensures.read (seen c.in-Some.sign.first) refl)

pub prefixed-returns-in_err-part-clause-read : goal.prefixed-returns-in_err-part-clause-read
prefixed-returns-in_err-part-clause-read t c = λ l is. read_exit _ c.from_residual.ensures.1 (read_stop _ c.in_err-part.ensures.read)

pub prefixed-returns-clause-read : goal.prefixed-returns-clause-read
prefixed-returns-clause-read t c = λ l is. read_go _ c.in_ok-part.ensures.read (read_built (rw is c.prefix.ensures))

pub counted-returns-in_err-count-clause-read : goal.counted-returns-in_err-count-clause-read
counted-returns-in_err-count-clause-read t c = λ l is. read_exit _ c.from_residual.ensures.1 (read_stop _ c.in_err-count.ensures.read)

pub counted-returns-in_err-expect-clause-read : goal.counted-returns-in_err-expect-clause-read
counted-returns-in_err-expect-clause-read t c =
    λ l is.
    read_exit _ c.from_residual-in_err-expect.ensures.1
    (read_go _ c.in_ok-count.ensures.read (read_unexpected _ c.in_err-expect.ensures.next))

pub counted-returns-in_err-part-clause-read : goal.counted-returns-in_err-part-clause-read
counted-returns-in_err-part-clause-read t c =
    λ l is.
    read_exit _ c.from_residual-in_err-part.ensures.1
    (read_go _ c.in_ok-count.ensures.read (read_expected _ c.in_ok-expect.ensures.next
    (read_stop _ c.in_err-part.ensures.read)))

pub counted-returns-clause-read : goal.counted-returns-clause-read
counted-returns-clause-read t c =
    λ l is.
    read_go _ c.in_ok-count.ensures.read (read_expected _ c.in_ok-expect.ensures.next
    (read_go _ c.in_ok-part.ensures.read (read_built (rw is c.count.ensures))))

pub windowed-returns-in_err-from-clause-read : goal.windowed-returns-in_err-from-clause-read
windowed-returns-in_err-from-clause-read t c = λ l is. read_exit _ c.from_residual.ensures.1 (read_stop _ c.in_err-from.ensures.read)

pub windowed-returns-in_err-expect-clause-read : goal.windowed-returns-in_err-expect-clause-read
windowed-returns-in_err-expect-clause-read t c =
    λ l is.
    read_exit _ c.from_residual-in_err-expect.ensures.1
    (read_go _ c.in_ok-from.ensures.read (read_unexpected _ c.in_err-expect.ensures.next))

pub windowed-returns-in_err-to-clause-read : goal.windowed-returns-in_err-to-clause-read
windowed-returns-in_err-to-clause-read t c =
    λ l is.
    read_exit _ c.from_residual-in_err-to.ensures.1
    (read_go _ c.in_ok-from.ensures.read (read_expected _ c.in_ok-expect.ensures.next
    (read_stop _ c.in_err-to.ensures.read)))

pub windowed-returns-in_err-expect-2-clause-read : goal.windowed-returns-in_err-expect-2-clause-read
windowed-returns-in_err-expect-2-clause-read t c =
    λ l is.
    read_exit _ c.from_residual-in_err-expect-2.ensures.1
    (read_go _ c.in_ok-from.ensures.read (read_expected _ c.in_ok-expect.ensures.next
    (read_go _ c.in_ok-to.ensures.read (read_unexpected _ c.in_err-expect-2.ensures.next))))

pub windowed-returns-in_err-part-clause-read : goal.windowed-returns-in_err-part-clause-read
windowed-returns-in_err-part-clause-read t c =
    λ l is.
    read_exit _ c.from_residual-in_err-part.ensures.1
    (read_go _ c.in_ok-from.ensures.read (read_expected _ c.in_ok-expect.ensures.next
    (read_go _ c.in_ok-to.ensures.read (read_expected _ c.in_ok-expect-2.ensures.next
    (read_stop _ c.in_err-part.ensures.read)))))

pub windowed-returns-clause-read : goal.windowed-returns-clause-read
windowed-returns-clause-read t c =
    λ l is.
    read_go _ c.in_ok-from.ensures.read (read_expected _ c.in_ok-expect.ensures.next
    (read_go _ c.in_ok-to.ensures.read (read_expected _ c.in_ok-expect-2.ensures.next
    (read_go _ c.in_ok-part.ensures.read (read_built (rw is c.window.ensures))))))

pub big-returns-in_err-expect-clause-read : goal.big-returns-in_err-expect-clause-read
big-returns-in_err-expect-clause-read t c = λ l is. read_exit _ c.from_residual.ensures.1 (read_unexpected _ c.in_err-expect.ensures.next)

pub big-returns-in_err-ranges-clause-read : goal.big-returns-in_err-ranges-clause-read
big-returns-in_err-ranges-clause-read t c =
    λ l is. read_exit _ c.from_residual-in_err-ranges.ensures.1 (read_expected _ c.in_ok-expect.ensures.next (read_stop _ c.in_err-ranges.ensures.read))

pub big-returns-in_err-expect-2-clause-read : goal.big-returns-in_err-expect-2-clause-read
big-returns-in_err-expect-2-clause-read t c =
    λ l is. read_exit _ c.from_residual-in_err-expect-2.ensures.1 (read_expected _ c.in_ok-expect.ensures.next (read_go _ c.in_ok-ranges.ensures.read (read_unexpected _ c.in_err-expect-2.ensures.next)))

pub big-returns-in_err-part-clause-read : goal.big-returns-in_err-part-clause-read
big-returns-in_err-part-clause-read t c =
    λ l is.
    read_exit _ c.from_residual-in_err-part.ensures.1
    (read_expected _ c.in_ok-expect.ensures.next (read_go _ c.in_ok-ranges.ensures.read (read_expected _ c.in_ok-expect-2.ensures.next (read_stop _ c.in_err-part.ensures.read))))

pub big-returns-clause-read : goal.big-returns-clause-read
big-returns-clause-read t c =
    λ l is.
    read_expected _ c.in_ok-expect.ensures.next (read_go _ c.in_ok-ranges.ensures.read (read_expected _ c.in_ok-expect-2.ensures.next (read_go _ c.in_ok-part.ensures.read (read_built (rw is c.big.ensures)))))

pub ranges-loop-ranges-init : goal.ranges-loop-ranges-init
ranges-loop-ranges-init t c = record { builds = builds_none range_seen _ _ c.new-ranges.ensures.items; shorter = omega arith }

pub ranges-returns-in_err-range-clause-read : goal.ranges-returns-in_err-range-clause-read
ranges-returns-in_err-range-clause-read t c = read_exit _ c.from_residual.ensures.1 (ranges_stop c.loop-ranges.invariant.builds c.in_err-range.ensures.read)

pub ranges-returns-in_err-push-clause-read : goal.ranges-returns-in_err-push-clause-read
ranges-returns-in_err-push-clause-read t c = read_exit _ c.from_residual-in_err-push.ensures.1 (read_nothing refl)

pub ranges-loop-ranges-preserved : goal.ranges-loop-ranges-preserved
ranges-loop-ranges-preserved t c =
    let pushed : c.push.new.self.items ≡ c.loop-ranges.ranges.items ++ c.in_ok-range.range ∷ [] = search rules in
    record {
      builds = builds_more c.push.new.self.items pushed c.loop-ranges.invariant.builds (range_more _ _ _ _ _ c.in_ok-range.ensures.read c.in-Some.ensures.next);
      shorter = omega (arith, c.in_ok-range.ensures.shorter, c.in-Some.ensures.shorter);
    }

pub ranges-returns-in_default-clause-read : goal.ranges-returns-in_default-clause-read
ranges-returns-in_default-clause-read t c =
    let pushed : c.push.new.self.items ≡ c.loop-ranges.ranges.items ++ c.in_ok-range.range ∷ [] = search rules in
    ranges_end c.push.new.self pushed c.loop-ranges.invariant.builds c.in_ok-range.ensures.read c.in_default.ensures.next

pub range-returns-in_err-set-clause-read : goal.range-returns-in_err-set-clause-read
range-returns-in_err-set-clause-read t c = range_exit _ c.from_residual.ensures.1 (members_refused _ _ _ _ _ c.in-Some.ensures.name c.in_err-set.ensures.read)

pub range-returns-in-Some-clause-read : goal.range-returns-in-Some-clause-read
range-returns-in-Some-clause-read t c = members_read _ _ _ _ _ _ c.in-Some.ensures.name (c.in_ok-set.ensures.read.ok _ refl) c.members.ensures

pub range-returns-in_err-low-clause-read : goal.range-returns-in_err-low-clause-read
range-returns-in_err-low-clause-read t c =
    range_exit _ c.from_residual-in_err-low.ensures.1 (range_refused {seen_as = ranges_seen} _ c.expression-2.new.ahead _ _ (read_between _ _ c.in_default.ensures.name (read_stop _ c.in_err-low.ensures.read)))

pub range-returns-in_err-low_strict-clause-read : goal.range-returns-in_err-low_strict-clause-read
range-returns-in_err-low_strict-clause-read t c =
    range_exit _ c.from_residual-in_err-low_strict.ensures.1
    (range_refused {seen_as = ranges_seen} _ c.bound.new.self _ _ (read_between _ _ c.in_default.ensures.name (read_go _ c.in_ok-low.ensures.read (read_unbounded _ c.in_err-low_strict.ensures.bound))))

pub range-returns-in_err-name-clause-read : goal.range-returns-in_err-name-clause-read
range-returns-in_err-name-clause-read t c =
    range_exit _ c.from_residual-in_err-name.ensures.1
    (range_refused {seen_as = ranges_seen} _ c.expect.new.self _ _ (read_between _ _ c.in_default.ensures.name (read_go _ c.in_ok-low.ensures.read (read_bounds _ c.in_ok-low_strict.ensures.bound
    (read_unexpected _ c.in_err-name.ensures.next)))))

pub range-returns-in_err-high_strict-clause-read : goal.range-returns-in_err-high_strict-clause-read
range-returns-in_err-high_strict-clause-read t c =
    range_exit _ c.from_residual-in_err-high_strict.ensures.1
    (range_refused {seen_as = ranges_seen} _ c.bound-2.new.self _ _ (read_between _ _ c.in_default.ensures.name (read_go _ c.in_ok-low.ensures.read (read_bounds _ c.in_ok-low_strict.ensures.bound
    (read_expected _ c.in_ok-name.ensures.next (read_unbounded _ c.in_err-high_strict.ensures.bound))))))

pub range-returns-in_err-high-clause-read : goal.range-returns-in_err-high-clause-read
range-returns-in_err-high-clause-read t c =
    range_exit _ c.from_residual-in_err-high.ensures.1
    (range_refused {seen_as = ranges_seen} _ c.expression-3.new.ahead _ _ (read_between _ _ c.in_default.ensures.name (read_go _ c.in_ok-low.ensures.read (read_bounds _ c.in_ok-low_strict.ensures.bound
    (read_expected _ c.in_ok-name.ensures.next (read_bounds _ c.in_ok-high_strict.ensures.bound (read_stop _ c.in_err-high.ensures.read)))))))

pub range-returns-clause-read : goal.range-returns-clause-read
range-returns-clause-read t c =
    between_read _ _ _ _ _ _ _ _ _ _ _ _ _ c.in_default.ensures.name (c.in_ok-low.ensures.read.ok _ refl) c.in_ok-low_strict.ensures.bound c.in_ok-name.ensures.next c.in_ok-high_strict.ensures.bound
    (c.in_ok-high.ensures.read.ok _ refl) c.between.ensures

pub primary-returns-in_default-clause-read : goal.primary-returns-in_default-clause-read
primary-returns-in_default-clause-read t c = read_no_front _ c.in_default.ensures.taken c.refusal-refusal.ensures

pub primary-returns-in_err-part-in-SizeOf-clause-read : goal.primary-returns-in_err-part-in-SizeOf-clause-read
primary-returns-in_err-part-in-SizeOf-clause-read t c =
    read_exit _ c.from_residual.ensures.1
    (read_primary _ _ _ symbol.SizeOf c.in-Some.ensures.taken c.in-SizeOf.is (read_stop _ (read_level false Primary c.take.new.self c.in_err-part-in-SizeOf.ensures.read)))

pub primary-returns-in-Number-clause-read : goal.primary-returns-in-Number-clause-read
primary-returns-in-Number-clause-read t c = read_primary _ _ _ symbol.Number c.in-Some.ensures.taken c.in-Number.is (read_here c.number.ensures)

pub primary-returns-in-True-clause-read : goal.primary-returns-in-True-clause-read
primary-returns-in-True-clause-read t c = read_primary _ _ _ symbol.True c.in-Some.ensures.taken c.in-True.is (read_here c.truth.ensures)

pub primary-returns-in-False-clause-read : goal.primary-returns-in-False-clause-read
primary-returns-in-False-clause-read t c = read_primary _ _ _ symbol.False c.in-Some.ensures.taken c.in-False.is (read_here c.truth-in-False.ensures)

pub primary-returns-in-Ident-clause-read : goal.primary-returns-in-Ident-clause-read
primary-returns-in-Ident-clause-read t c = read_primary _ _ _ symbol.Ident c.in-Some.ensures.taken c.in-Ident.is c.word.ensures.read

pub primary-returns-in_ok-part-in-SizeOf-clause-read : goal.primary-returns-in_ok-part-in-SizeOf-clause-read
primary-returns-in_ok-part-in-SizeOf-clause-read t c =
    read_primary _ _ _ symbol.SizeOf c.in-Some.ensures.taken c.in-SizeOf.is
    (read_go _ (read_level false Primary c.take.new.self c.in_ok-part-in-SizeOf.ensures.read) (read_built c.size_of.ensures))

pub primary-returns-in-OpenParen-clause-read : goal.primary-returns-in-OpenParen-clause-read
primary-returns-in-OpenParen-clause-read t c = read_primary _ _ _ symbol.OpenParen c.in-Some.ensures.taken c.in-OpenParen.is c.grouped.ensures.read

pub primary-returns-in-OpenBrace-clause-read : goal.primary-returns-in-OpenBrace-clause-read
primary-returns-in-OpenBrace-clause-read t c = read_primary _ _ _ symbol.OpenBrace c.in-Some.ensures.taken c.in-OpenBrace.is c.set.ensures.read

pub primary-returns-in_default-symbol : goal.primary-returns-in_default-symbol
primary-returns-in_default-symbol t c =
    let n = c.in_default-symbol in
    record {
      read = read_no_primary _ _ _ c.in-Some.ensures.taken c.refusal-refusal.ensures n.not-Number n.not-True n.not-False n.not-Ident n.not-SizeOf n.not-OpenParen n.not-OpenBrace;
      shorter = tt;
    }

pub grouped-returns-in_err-inner-clause-read : goal.grouped-returns-in_err-inner-clause-read
grouped-returns-in_err-inner-clause-read t c = read_exit _ c.from_residual.ensures.1 (read_stop _ c.in_err-inner.ensures.read)

pub grouped-returns-in_err-last-clause-read : goal.grouped-returns-in_err-last-clause-read
grouped-returns-in_err-last-clause-read t c = read_exit _ c.from_residual-in_err-last.ensures.1 (read_go _ c.in_ok-inner.ensures.read (read_unexpected _ c.in_err-last.ensures.next))

pub grouped-returns-clause-read : goal.grouped-returns-clause-read
grouped-returns-clause-read t c = read_go _ c.in_ok-inner.ensures.read (read_expected _ c.in_ok-last.ensures.next (read_built c.paren.ensures))

-- an index, or the name alone
abbrev index_with : Readers → Lexeme → List Lexeme → Answer Tree
index_with r l ls =
    if_next symbol.OpenBracket ls (λ _ inner. go_on (r.level false Releases inner) (λ t rest. expect symbol.CloseBracket rest (λ last after. taken (index (from_to l.start last.end) (word_of l) t) after)))
    (taken (named (lexeme_span l) l.text) ls)

pub word-returns-in_err-arguments-clause-read : goal.word-returns-in_err-arguments-clause-read
word-returns-in_err-arguments-clause-read t c = read_exit _ c.from_residual.ensures.1 (read_next _ _ c.in-Some.ensures.next (read_stop _ c.in_err-arguments.ensures.read))

pub word-returns-in_err-last-clause-read : goal.word-returns-in_err-last-clause-read
word-returns-in_err-last-clause-read t c =
    read_exit _ c.from_residual-in_err-last.ensures.1 (read_next _ _ c.in-Some.ensures.next (read_go _ c.in_ok-arguments.ensures.read (read_unexpected _ c.in_err-last.ensures.next)))

pub word-returns-in-Some-clause-read : goal.word-returns-in-Some-clause-read
word-returns-in-Some-clause-read t c = read_next _ _ c.in-Some.ensures.next (read_go _ c.in_ok-arguments.ensures.read (read_expected _ c.in_ok-last.ensures.next (read_built c.call.ensures)))

pub word-returns-in_err-index-clause-read : goal.word-returns-in_err-index-clause-read
word-returns-in_err-index-clause-read t c =
    read_exit _ c.from_residual-in_err-index.ensures.1
    (read_other _ (λ d. index_with (readers d) (seen c.args.first)) c.in_default.ensures.next (read_next _ _ c.in-Some-next_if.ensures.next (read_stop _ c.in_err-index.ensures.read)))

pub word-returns-in_err-last-2-clause-read : goal.word-returns-in_err-last-2-clause-read
word-returns-in_err-last-2-clause-read t c =
    read_exit _ c.from_residual-in_err-last-2.ensures.1
    (read_other _ (λ d. index_with (readers d) (seen c.args.first)) c.in_default.ensures.next (read_next _ _ c.in-Some-next_if.ensures.next
    (read_go _ c.in_ok-index.ensures.read (read_unexpected _ c.in_err-last-2.ensures.next))))

pub word-returns-in-Some-next_if-clause-read : goal.word-returns-in-Some-next_if-clause-read
word-returns-in-Some-next_if-clause-read t c =
    read_other _ (λ d. index_with (readers d) (seen c.args.first)) c.in_default.ensures.next (read_next _ _ c.in-Some-next_if.ensures.next
    (read_go _ c.in_ok-index.ensures.read (read_expected _ c.in_ok-last-2.ensures.next (read_built c.index.ensures))))

pub word-returns-clause-read : goal.word-returns-clause-read
word-returns-clause-read t c =
    let l = seen c.args.first in
    read_other _ (λ d. index_with (readers d) l) c.in_default.ensures.next (read_other _ (λ d. taken (named (lexeme_span l) l.text)) c.in_default-next_if.ensures.next (read_built c.named.ensures))

-- a set with a member, and a set with one member
abbrev filled : Readers → Lexeme → List Lexeme → Answer Tree
filled r l ls = go_on (r.level false Releases ls) (λ t rest. set_second r l t rest)

pub set-returns-in-Some-clause-read : goal.set-returns-in-Some-clause-read
set-returns-in-Some-clause-read t c =
    let l = seen c.args.first in
    read_next _ _ c.in-Some.ensures.next
    (read_here (c.set.ensures ∙ ap (λ (es : List Expr). set (from_to l.start (seen c.in-Some.last).end) (trees_seen es)) c.new.ensures.items))

pub set-returns-in_err-one-clause-read : goal.set-returns-in_err-one-clause-read
set-returns-in_err-one-clause-read t c = read_exit _ c.from_residual.ensures.1 (read_other _ (λ d. filled (readers d) (seen c.args.first)) c.in_default.ensures.next (read_stop _ c.in_err-one.ensures.read))

pub set-returns-in_err-two-clause-read : goal.set-returns-in_err-two-clause-read
set-returns-in_err-two-clause-read t c =
    read_exit _ c.from_residual-in_err-two.ensures.1
    (read_other _ (λ d. filled (readers d) (seen c.args.first)) c.in_default.ensures.next (read_go _ c.in_ok-one.ensures.read (read_next _ _ c.in-Some-next_if.ensures.next (read_stop _ c.in_err-two.ensures.read))))

pub set-returns-in-Some-next_if-clause-read : goal.set-returns-in-Some-next_if-clause-read
set-returns-in-Some-next_if-clause-read t c =
    read_other _ (λ d. filled (readers d) (seen c.args.first)) c.in_default.ensures.next (read_go _ c.in_ok-one.ensures.read (read_next _ _ c.in-Some-next_if.ensures.next
    (read_go _ c.in_ok-two.ensures.read c.longer_set.ensures.read)))

pub set-returns-in_err-members-clause-read : goal.set-returns-in_err-members-clause-read
set-returns-in_err-members-clause-read t c = read_exit _ c.from_residual-in_err-members.ensures.1 (read_nothing c.in_err-members.ensures)

pub set-returns-clause-read : goal.set-returns-clause-read
set-returns-clause-read t c =
    let l = seen c.args.first in
    let one = c.in_ok-one.one in
    read_other _ (λ d. filled (readers d) l) c.in_default.ensures.next (read_go _ c.in_ok-one.ensures.read (read_other _ (λ d. close_set l (tree (expr_seen one) no_trees)) c.in_default-next_if.ensures.next
    (read_closed l c.next_if-2.new.self c.in_ok-members.members.items (one ∷ []) c.in_ok-members.ensures c.close_set.ensures.read)))

-- no steps: more members, or the end of the set
abbrev more_members : Readers → Lexeme → Tree → Tree → List Lexeme → Answer Tree
more_members r l t u rest = if_next symbol.Comma rest (λ _ inner. go_on (r.list inner) (λ more last. close_set l (tree t (tree u more)) last)) (close_set l (tree t (tree u no_trees)) rest)

pub longer_set-returns-in_err-three-clause-read : goal.longer_set-returns-in_err-three-clause-read
longer_set-returns-in_err-three-clause-read t c = read_exit _ c.from_residual.ensures.1 (read_next _ _ c.in-Some.ensures.next (read_stop _ c.in_err-three.ensures.read))

pub longer_set-returns-in_err-last-clause-read : goal.longer_set-returns-in_err-last-clause-read
longer_set-returns-in_err-last-clause-read t c =
    read_exit _ c.from_residual-in_err-last.ensures.1 (read_next _ _ c.in-Some.ensures.next (read_go _ c.in_ok-three.ensures.read (read_unexpected _ c.in_err-last.ensures.next)))

pub longer_set-returns-in-Some-clause-read : goal.longer_set-returns-in-Some-clause-read
longer_set-returns-in-Some-clause-read t c = read_next _ _ c.in-Some.ensures.next (read_go _ c.in_ok-three.ensures.read (read_expected _ c.in_ok-last.ensures.next (read_built c.steps.ensures)))

pub longer_set-returns-in_err-members-clause-read : goal.longer_set-returns-in_err-members-clause-read
longer_set-returns-in_err-members-clause-read t c = read_exit _ c.from_residual-in_err-members.ensures.1 (read_nothing c.in_err-members.ensures)

pub longer_set-returns-in_default-next_if-clause-read : goal.longer_set-returns-in_default-next_if-clause-read
longer_set-returns-in_default-next_if-clause-read t c =
    let l = seen c.args.first in
    let t = expr_seen c.args.one in
    let u = expr_seen c.args.two in
    read_other _ (λ d. more_members (readers d) l t u) c.in_default.ensures.next (read_other _ (λ d. close_set l (tree t (tree u no_trees))) c.in_default-next_if.ensures.next
    (read_closed l c.next_if-2.new.self c.in_ok-members.members.items (c.args.one ∷ c.args.two ∷ []) c.in_ok-members.ensures c.close_set.ensures.read))

pub longer_set-returns-in_err-more-clause-read : goal.longer_set-returns-in_err-more-clause-read
longer_set-returns-in_err-more-clause-read t c =
    read_exit _ c.from_residual-in_err-more.ensures.1
    (read_other _ (λ d. more_members (readers d) (seen c.args.first) (expr_seen c.args.one) (expr_seen c.args.two)) c.in_default.ensures.next (read_next _ _ c.in-Some-next_if.ensures.next
    (read_stop _ c.in_err-more.ensures.read)))

pub longer_set-returns-in_err-members-2-clause-read : goal.longer_set-returns-in_err-members-2-clause-read
longer_set-returns-in_err-members-2-clause-read t c = read_exit _ c.from_residual-in_err-members-2.ensures.1 (read_nothing c.in_err-members-2.ensures)

pub longer_set-returns-clause-read : goal.longer_set-returns-clause-read
longer_set-returns-clause-read t c =
    let l = seen c.args.first in
    let more = c.in_ok-more.more.items in
    read_other _ (λ d. more_members (readers d) l (expr_seen c.args.one) (expr_seen c.args.two)) c.in_default.ensures.next (read_next _ _ c.in-Some-next_if.ensures.next (read_go _ c.in_ok-more.ensures.read
    (read_closed l c.expressions.new.ahead c.in_ok-members-2.members.items (c.args.one ∷ c.args.two ∷ more) (c.in_ok-members-2.ensures ∙ ap (λ (es : List Expr). es ++ more) c.in_ok-members.ensures)
    c.close_set-2.ensures.read)))

pub expressions-loop-list-init : goal.expressions-loop-list-init
expressions-loop-list-init t c = record { builds = builds_none put_tree _ _ c.new-list.ensures.items; shorter = omega arith }

pub expressions-returns-in_err-tree-clause-read : goal.expressions-returns-in_err-tree-clause-read
expressions-returns-in_err-tree-clause-read t c = read_exit _ c.from_residual.ensures.1 (list_stops c.loop-list.ahead c.loop-list.invariant.builds c.in_err-tree.ensures.read)

pub expressions-returns-in_err-push-clause-read : goal.expressions-returns-in_err-push-clause-read
expressions-returns-in_err-push-clause-read t c = read_exit _ c.from_residual-in_err-push.ensures.1 (read_nothing refl)

pub expressions-loop-list-preserved : goal.expressions-loop-list-preserved
expressions-loop-list-preserved t c =
    let pushed : c.push.new.self.items ≡ c.loop-list.list.items ++ c.in_ok-tree.tree ∷ [] = search rules in
    record {
      builds = builds_more c.push.new.self.items pushed c.loop-list.invariant.builds (list_more _ _ _ _ _ (c.in_ok-tree.ensures.read.ok _ refl) c.in-Some.ensures.next);
      shorter = omega (arith, c.in_ok-tree.ensures.shorter, c.in-Some.ensures.shorter);
    }

pub expressions-returns-in_default-clause-read : goal.expressions-returns-in_default-clause-read
expressions-returns-in_default-clause-read t c =
    let pushed : c.push.new.self.items ≡ c.loop-list.list.items ++ c.in_ok-tree.tree ∷ [] = search rules in
    list_ends c.loop-list.ahead c.push.new.self pushed c.loop-list.invariant.builds c.in_ok-tree.ensures.read c.in_default.ensures.next
