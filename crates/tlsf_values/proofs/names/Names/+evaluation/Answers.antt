use Rattle.std.proofs.Common.{◌≡◌, ◌+◌, ◌^◌, ◌≤◌, [], ◌∷◌, rules, ap, arith, drop, length, reverse, ◌∙◌}
use Rattle.std.proofs.lemmas.Result.{err_from_is_err_and}
use Rattle.tlsf_values.proofs.GrowLemmas.{nodes_grow}
use Rattle.tlsf_values.proofs.OutcomeLemmas.{checked_fault}
use Rattle.tlsf_values.proofs.EvaluatorLemmas.{value_too_deep, value_deeper, body_too_deep, body_deeper}
use Rattle.tlsf_values.proofs.EvaluationLemmas.{call_fits, call_misfits, index_is, big_empty, big_of_set, big_of_run, rest_whole, arguments_more, chain_more, at_item, some_item, arguments_step, chosen_step}
use Rattle.tlsf_values.proofs.SeenLemmas.{start_seen}
use Rattle.tlsf_values.proofs.SeenLemmas.{set_form, call_form, chain_form, big_form}
use Rattle.tlsf_values.specs.Outcomes.{gives}
use Rattle.tlsf_values.specs.Sets.{set_of}
use Rattle.tlsf_values.proofs.PartLemmas.{numbers_then, parts_step}
use Rattle.tlsf_values.specs.PartsSeen.{parts_seen}
use Rattle.tlsf_values.specs.Names.{look_up}
use Rattle.tlsf_values.specs.NamesSeen.{names_seen}
use Rattle.tlsf_values.specs.MembersSeen.{members_seen}
use Rattle.tlsf_syntax.specs.Seen.{expr_seen, trees_seen}
use Rattle.tlsf_values.specs.Values.{evaluator, span_start}
use Rattle.tlsf_values.specs.declared.value.Value.TheVariants.{Set}
use Rattle.tlsf_values.specs.ScopeSeen.{code_body_seen}
use Rattle.tlsf_values.proofs.LevelLemmas.{less_than, level_within, opened}
use Rattle.tlsf_values.specs.LevelsSeen.{inner_of, pending, turns}
use Rattle.tlsf_values.proofs.names.Names.+evaluation.Goals as goal
use Rattle.tlsf_values.proofs.names.Names.+evaluation.Goals.{call-in-Definition+else-arguments-words+in_ok-inner-in-Definition, call-in-Undeclared, call-in_default}

pub value-returns-then-left-eq0-clause-value : goal.value-returns-then-left-eq0-clause-value
value-returns-then-left-eq0-clause-value t c =
    rw (value_too_deep (names_seen c.args.self.now) c.args.left c.args.bound.now c.args.expr.now c.args.work.now (search rules)) (search rules)

pub value-returns-in_err-count-clause-value : goal.value-returns-in_err-count-clause-value
value-returns-in_err-count-clause-value t c =
    rw (value_deeper (names_seen c.args.self.now) c.args.left c.args.bound.now c.args.expr.now c.args.work.now (search rules)) (search rules)

pub value-returns-clause-value : goal.value-returns-clause-value
value-returns-clause-value t c =
    rw (value_deeper (names_seen c.args.self.now) c.args.left c.args.bound.now c.args.expr.now c.args.work.now (search rules)) (search rules)

pub body-returns-then-left-eq0 : goal.body-returns-then-left-eq0
body-returns-then-left-eq0 t c =
    rw (body_too_deep (names_seen c.args.self.now) c.args.left c.args.bound.now c.args.place (code_body_seen c.args.body) c.args.work.now (search rules)) (search rules)

pub body-returns-in-Plain : goal.body-returns-in-Plain
body-returns-in-Plain t c =
    rw (body_deeper (names_seen c.args.self.now) c.args.left c.args.bound.now c.args.place (code_body_seen c.args.body) c.args.work.now (search rules)) (search rules)

pub body-returns-in-Guarded : goal.body-returns-in-Guarded
body-returns-in-Guarded t c =
    rw (body_deeper (names_seen c.args.self.now) c.args.left c.args.bound.now c.args.place (code_body_seen c.args.body) c.args.work.now (search rules)) (search rules)

pub call-returns-then-arguments-words-clause-value : goal.call-returns-then-arguments-words-clause-value
call-returns-then-arguments-words-clause-value t c =
    rw (call_misfits (evaluator (names_seen c.args.self.now) c.args.left) c.args.bound.now c.args.place c.args.word.now.span.start (look_up (names_seen c.args.self.now) c.args.bound.now c.args.word.now.name) c.in-Definition.words.now (code_body_seen c.in-Definition.body) c.args.arguments.now c.args.work.now (search rules) (search rules)) (search rules)

pub call-returns-in_err-inner-in-Definition-clause-value : goal.call-returns-in_err-inner-in-Definition-clause-value
call-returns-in_err-inner-in-Definition-clause-value t c =
    rw (call_fits (evaluator (names_seen c.args.self.now) c.args.left) c.args.bound.now c.args.place c.args.word.now.span.start (look_up (names_seen c.args.self.now) c.args.bound.now c.args.word.now.name) c.in-Definition.words.now (code_body_seen c.in-Definition.body) c.args.arguments.now c.args.work.now (search rules) (search rules)) (search rules)

pub call-returns-clause-value : goal.call-returns-clause-value
call-returns-clause-value t c = elim c.match-branch-2.branch [
  | call-in-Definition+else-arguments-words+in_ok-inner-in-Definition w ↦
      rw (w.result-is, w.work-is, call_fits (evaluator (names_seen c.args.self.now) c.args.left) c.args.bound.now c.args.place c.args.word.now.span.start (look_up (names_seen c.args.self.now) c.args.bound.now c.args.word.now.name) w.in-Definition.words.now (code_body_seen w.in-Definition.body) c.args.arguments.now c.args.work.now (search rules) (search rules)) (search rules)
  | call-in-Undeclared w ↦ search rules
  | call-in_default w ↦ search rules
]

pub arguments-returns-in_err-value-clause-value : goal.arguments-returns-in_err-value-clause-value
arguments-returns-in_err-value-clause-value t c =
    let word = some_item c.args.words.now c.loop-i.i (search rules) in
    let e = c.index-arguments-i.result in
    let at = at_item c.args.arguments.now c.loop-i.i e (search rules) c.index-arguments-i.is in
    rw (c.loop-i.invariant.2 ∙ arguments_more (evaluator (names_seen c.args.self.now) c.args.left) c.args.bound.now c.loop-i.inner c.args.words.now c.args.arguments.now c.loop-i.i word.0 e c.loop-i.work word.1 at) (search rules)

pub chain-loop-link-preserved : goal.chain-loop-link-preserved
chain-loop-link-preserved t c =
    let at = at_item c.args.rest.now c.loop-link.link-index c.link-item.result (search rules) c.link-item.is in
    (search rules, search (rules, nodes_grow), c.loop-link.invariant.2 ∙ chain_more (names_seen c.args.self.now) (evaluator (names_seen c.args.self.now) c.args.left) c.args.bound.now c.args.place (span_start (expr_seen c.args.first.now)) c.loop-link.value c.args.rest.now c.loop-link.link-index c.link-item.result c.loop-link.work at ∙ search (rules, start_seen))

pub chain-returns-in_err-value-2-clause-value : goal.chain-returns-in_err-value-2-clause-value
chain-returns-in_err-value-2-clause-value t c =
    let at = at_item c.args.rest.now c.loop-link.link-index c.link-item.result (search rules) c.link-item.is in
    rw (c.in_ok-value.ensures.value, c.loop-link.invariant.2 ∙ chain_more (names_seen c.args.self.now) (evaluator (names_seen c.args.self.now) c.args.left) c.args.bound.now c.args.place (span_start (expr_seen c.args.first.now)) c.loop-link.value c.args.rest.now c.loop-link.link-index c.link-item.result c.loop-link.work at) (search (rules, start_seen))

pub form-returns-in-Call-clause-value : goal.form-returns-in-Call-clause-value
form-returns-in-Call-clause-value t c = rw (call_form c.args.expr.now c.in-Call.word c.in-Call.arguments (search rules)) (search rules)

pub form-returns-in-Chain-clause-value : goal.form-returns-in-Chain-clause-value
form-returns-in-Chain-clause-value t c = rw (chain_form c.args.expr.now c.in-Chain.first c.in-Chain.rest (search rules)) (search rules)

pub form-returns-in-Big-clause-value : goal.form-returns-in-Big-clause-value
form-returns-in-Big-clause-value t c = rw (big_form c.args.expr.now c.in-Big.op c.in-Big.ranges c.in-Big.part (search rules)) (search rules)

pub index-returns-clause-value : goal.index-returns-clause-value
index-returns-clause-value t c =
    rw (index_is (names_seen c.args.self.now) (evaluator (names_seen c.args.self.now) c.args.left) c.args.bound.now c.args.place c.args.word.now c.args.index.now c.args.work.now c.meaning_value.new.work c.value-2.new.work c.in_ok-bus.bus c.in_ok-value-2.value c.in_ok-bus-2.bus c.in_ok-number.number (search rules) (search rules) (search rules) (search rules)) (search rules)

pub arguments-loop-i-preserved : goal.arguments-loop-i-preserved
arguments-loop-i-preserved t c =
    let word = c.index-words-i.result in
    let e = c.index-arguments-i.result in
    let word_at = at_item c.args.words.now c.loop-i.i word (search rules) c.index-words-i.is in
    let at = at_item c.args.arguments.now c.loop-i.i e (search rules) c.index-arguments-i.is in
    let pushed : c.push.new.self ≡ record { name = word.name; value = c.in_ok-value.value } ∷ c.loop-i.inner = search rules in (
      search rules,
      search (rules, nodes_grow),
      c.loop-i.invariant.2 ∙ arguments_step (evaluator (names_seen c.args.self.now) c.args.left) c.args.bound.now c.loop-i.inner c.push.new.self c.args.words.now c.args.arguments.now c.loop-i.i word e c.loop-i.work c.value.new.work c.in_ok-value.value
          word_at at (rw c.loop-i.invariant.0 at c.in_ok-value.ensures.value) pushed,
    )

pub chosen-loop-alternative-preserved : goal.chosen-loop-alternative-preserved
chosen-loop-alternative-preserved t c =
    let at = at_item c.args.alternatives.now c.loop-alternative.alternative-index c.alternative-item.result (search rules) c.alternative-item.is in
    let guard = rw c.loop-alternative.invariant.0 at c.in_ok-guard.ensures.value in (
      search rules,
      search (rules, nodes_grow),
      c.loop-alternative.invariant.2 ∙ chosen_step (evaluator (names_seen c.args.self.now) c.args.left) c.args.bound.now c.args.place c.args.alternatives.now c.loop-alternative.alternative-index c.alternative-item.result c.loop-alternative.work c.guard.new.work
          at (rw c.if-branch.false at guard),
    )

pub inward-returns-in_err-formula-in-empty-clause-fault : goal.inward-returns-in_err-formula-in-empty-clause-fault
inward-returns-in_err-formula-in-empty-clause-fault t c =
    let p = err_from_is_err_and c.from_residual-in_err-formula-in-empty.result c.from_residual-in_err-formula-in-empty.ensures.1 in
    rw (p.1, p.2, big_empty (evaluator (names_seen c.args.self.now) c.args.left) c.args.big.now.place c.args.big.now.connective c.args.bound.now c.args.ranges.now c.args.big.now.part.now c.args.work.now c.in-empty.len_below, c.in_ok-value-in-empty.ensures.value) (checked_fault _ _ _ _ c.in_err-formula-in-empty.ensures)

pub inward-returns-in_ok-begin-in-Members-clause-value : goal.inward-returns-in_ok-begin-in-Members-clause-value
inward-returns-in_ok-begin-in-Members-clause-value t c = λ all.
    opened (evaluator (names_seen c.args.self.now) c.args.left) c.args.big.now c.args.bound.now c.value-in-Members.new.bound c.begin.new.bound (reverse c.args.levels.now.items) (reverse c.begin.new.levels.items) c.new-level.result c.in-Members.word (drop 1 c.args.ranges.now) all (members_seen c.in_ok-members-in-Members.members) _ c.in_ok-begin-in-Members.field-0 c.value-in-Members.new.work
    (big_of_set (evaluator (names_seen c.args.self.now) c.args.left) c.args.big.now.place c.args.big.now.connective c.args.bound.now c.args.ranges.now c.in-Members.word c.in-Members.set (drop 1 c.args.ranges.now) c.args.big.now.part.now c.args.work.now c.value-in-Members.new.work c.in_ok-value-in-Members.value (members_seen c.in_ok-members-in-Members.members) (search rules) (search rules) (search rules))
    c.in_ok-value-in-Members.ensures.bound
    (search rules)
    (ap (λ l. l.inner.now) c.new-level.ensures ∙ rest_whole c.args.ranges.now)
    (ap (λ l. members_seen l.members) c.new-level.ensures)
    (ap (λ l. l.so_far) c.new-level.ensures)
    (c.in_ok-begin-in-Members.ensures.value (evaluator (names_seen c.args.self.now) c.args.left) all c.value-in-Members.new.work)

pub inward-returns-in_ok-begin-in-Members-clause-less : goal.inward-returns-in_ok-begin-in-Members-clause-less
inward-returns-in_ok-begin-in-Members-clause-less t c = λ all.
    let few : length (members_seen c.new-level.result.members) ≤ 2 ^ 65 = rw (ap (λ l. length (members_seen l.members)) c.new-level.ensures) c.in_ok-members-in-Members.ensures.few in
    let inner = ap (λ l. l.inner.now) c.new-level.ensures ∙ rest_whole c.args.ranges.now in
    less_than c.in_ok-begin-in-Members.field-0 all (reverse c.begin.new.levels.items) (pending (c.new-level.result ∷ reverse c.args.levels.now.items)) (turns (length c.args.ranges.now) + pending (reverse c.args.levels.now.items))
    (level_within c.new-level.result (reverse c.args.levels.now.items) c.args.ranges.now few inner (search rules)) (c.in_ok-begin-in-Members.ensures.less all)

pub inward-returns-in_ok-begin-in-Between-clause-value : goal.inward-returns-in_ok-begin-in-Between-clause-value
inward-returns-in_ok-begin-in-Between-clause-value t c = λ all.
    opened (evaluator (names_seen c.args.self.now) c.args.left) c.args.big.now c.args.bound.now c.value-in-Between-2.new.bound c.begin-in-Between.new.bound (reverse c.args.levels.now.items) (reverse c.begin-in-Between.new.levels.items) c.new-level-in-Between.result c.in-Between.word (drop 1 c.args.ranges.now) all (members_seen c.between-members.result) _ c.in_ok-begin-in-Between.field-0 c.value-in-Between-2.new.work
    (big_of_run (evaluator (names_seen c.args.self.now) c.args.left) c.args.big.now.place c.args.big.now.connective c.args.bound.now c.args.ranges.now c.in-Between.word c.in-Between.low c.in-Between.high c.in-Between.low_strict c.in-Between.high_strict (drop 1 c.args.ranges.now) c.args.big.now.part.now c.args.work.now c.value-in-Between.new.work c.value-in-Between-2.new.work c.in_ok-value-in-Between.field-0 c.in_ok-value-in-Between-2.field-0 c.in_ok-first-in-Between.field-0 c.in_ok-last-in-Between.field-0
    (search rules) (search rules) (search rules) (search rules) (search rules) ∙ search rules)
    (c.in_ok-value-in-Between-2.ensures.bound ∙ c.in_ok-value-in-Between.ensures.bound)
    (search rules)
    (ap (λ l. l.inner.now) c.new-level-in-Between.ensures ∙ rest_whole c.args.ranges.now)
    (ap (λ l. members_seen l.members) c.new-level-in-Between.ensures)
    (ap (λ l. l.so_far) c.new-level-in-Between.ensures)
    (c.in_ok-begin-in-Between.ensures.value (evaluator (names_seen c.args.self.now) c.args.left) all c.value-in-Between-2.new.work)

pub inward-returns-in_ok-begin-in-Between-clause-less : goal.inward-returns-in_ok-begin-in-Between-clause-less
inward-returns-in_ok-begin-in-Between-clause-less t c = λ all.
    let few : length (members_seen c.new-level-in-Between.result.members) ≤ 2 ^ 65 = rw (ap (λ l. length (members_seen l.members)) c.new-level-in-Between.ensures) c.between-members.ensures.few in
    let inner = ap (λ l. l.inner.now) c.new-level-in-Between.ensures ∙ rest_whole c.args.ranges.now in
    less_than c.in_ok-begin-in-Between.field-0 all (reverse c.begin-in-Between.new.levels.items) (pending (c.new-level-in-Between.result ∷ reverse c.args.levels.now.items)) (turns (length c.args.ranges.now) + pending (reverse c.args.levels.now.items))
    (level_within c.new-level-in-Between.result (reverse c.args.levels.now.items) c.args.ranges.now few inner (search rules)) (c.in_ok-begin-in-Between.ensures.less all)

pub over_ranges-loop-levels-smaller-in_default : goal.over_ranges-loop-levels-smaller-in_default
over_ranges-loop-levels-smaller-in_default t c =
    let inner : c.inner_ranges-inner.result.now ≡ inner_of c.args.ranges.now (reverse c.loop-levels.levels.items) = search rules in
    rw (c.in_default.is, inner) at c.in_ok-formula.ensures.less c.args.ranges.now

pub over_ranges-loop-levels-preserved-in_default : goal.over_ranges-loop-levels-preserved-in_default
over_ranges-loop-levels-preserved-in_default t c =
    let inner : c.inner_ranges-inner.result.now ≡ inner_of c.args.ranges.now (reverse c.loop-levels.levels.items) = search rules in (
      c.in_ok-formula.ensures.outer ∙ c.loop-levels.invariant.0,
      search (rules, nodes_grow),
      c.loop-levels.invariant.2 ∙ rw (c.in_default.is, inner) at c.in_ok-formula.ensures.value c.args.ranges.now,
    )

pub over_ranges-returns-in_err-whole-clause-value : goal.over_ranges-returns-in_err-whole-clause-value
over_ranges-returns-in_err-whole-clause-value t c =
    let p = err_from_is_err_and c.from_residual-in_err-whole.result c.from_residual-in_err-whole.ensures.1 in
    let inner : c.inner_ranges-inner.result.now ≡ inner_of c.args.ranges.now (reverse c.loop-levels.levels.items) = search rules in
    let whole = c.loop-levels.invariant.2 ∙ rw (c.in-Some.is, inner) at c.in_ok-formula.ensures.value [] in
    rw (p.1, p.2, whole) (c.in_err-whole.ensures.fault (evaluator (names_seen c.args.self.now) c.args.left))

pub over_ranges-returns-in-Some-2-clause-value : goal.over_ranges-returns-in-Some-2-clause-value
over_ranges-returns-in-Some-2-clause-value t c =
    let inner : c.inner_ranges-inner.result.now ≡ inner_of c.args.ranges.now (reverse c.loop-levels.levels.items) = search rules in
    let none = rw c.in-Some-2.is at c.in_ok-whole.ensures.all in
    c.loop-levels.invariant.2 ∙ (rw (c.in-Some.is, inner) at c.in_ok-formula.ensures.value []) ∙ rw (c.in-Some-2.is, none) at c.in_ok-whole.ensures.value (evaluator (names_seen c.args.self.now) c.args.left) []

pub over_ranges-loop-levels-smaller : goal.over_ranges-loop-levels-smaller
over_ranges-loop-levels-smaller t c =
    let inner : c.inner_ranges-inner.result.now ≡ inner_of c.args.ranges.now (reverse c.loop-levels.levels.items) = search rules in
    let first = rw (c.in-Some.is, inner) at c.in_ok-formula.ensures.less [] in
    let next = rw c.in_default-2.is at c.in_ok-whole.ensures.less c.args.ranges.now in
    omega (arith, first, next)

pub over_ranges-loop-levels-preserved : goal.over_ranges-loop-levels-preserved
over_ranges-loop-levels-preserved t c =
    let inner : c.inner_ranges-inner.result.now ≡ inner_of c.args.ranges.now (reverse c.loop-levels.levels.items) = search rules in (
      c.in_ok-whole.ensures.outer ∙ c.in_ok-formula.ensures.outer ∙ c.loop-levels.invariant.0,
      search (rules, nodes_grow),
      c.loop-levels.invariant.2 ∙ (rw (c.in-Some.is, inner) at c.in_ok-formula.ensures.value []) ∙ rw c.in_default-2.is at c.in_ok-whole.ensures.value (evaluator (names_seen c.args.self.now) c.args.left) c.args.ranges.now,
    )

pub part_numbers-loop-part-preserved : goal.part_numbers-loop-part-preserved
part_numbers-loop-part-preserved t c =
    let at = at_item c.args.parts.now c.loop-part.part-index c.part-item.result (search rules) c.part-item.is in (
      search rules,
      search (rules, nodes_grow),
      c.loop-part.invariant.2 ∙ parts_step (evaluator (names_seen c.args.self.now) c.args.left) c.args.bound.now (parts_seen c.loop-part.wrong c.loop-part.numbers.items) (parts_seen c.in_ok-wrong.wrong c.add_part.new.numbers.items) c.args.parts.now c.loop-part.part-index c.part-item.result c.loop-part.work c.value.new.work c.in_ok-value.value
          at (rw c.loop-part.invariant.0 at c.in_ok-value.ensures.value) (search rules),
    )

pub form-returns-in_err-numbers-in-Set-clause-value : goal.form-returns-in_err-numbers-in-Set-clause-value
form-returns-in_err-numbers-in-Set-clause-value t c = rw (set_form c.args.expr.now c.in-Set.parts (search rules), numbers_then (evaluator (names_seen c.args.self.now) c.args.left) c.args.bound.now (trees_seen c.in-Set.parts.items) c.args.work.now (λ zs w. gives (Set (set_of zs)) w)) (search rules)

pub form-returns-in_ok-made-in-Set-clause-value : goal.form-returns-in_ok-made-in-Set-clause-value
form-returns-in_ok-made-in-Set-clause-value t c = rw (set_form c.args.expr.now c.in-Set.parts (search rules), numbers_then (evaluator (names_seen c.args.self.now) c.args.left) c.args.bound.now (trees_seen c.in-Set.parts.items) c.args.work.now (λ zs w. gives (Set (set_of zs)) w)) (search rules)

pub steps-returns-clause-value : goal.steps-returns-clause-value
steps-returns-clause-value t c =
    let bound = c.in_ok-first_value.ensures.bound in
    let second = rw bound at c.in_ok-second_value.ensures.value in
    let last = rw (c.in_ok-second_value.ensures.bound ∙ bound) at c.in_ok-last_value.ensures.value in
    rw (c.in_ok-first_value.ensures.value, second, last, start_seen c.args.first.now, start_seen c.args.second.now, start_seen c.args.last.now) c.steps_over.ensures.value

pub counted-returns-clause-value : goal.counted-returns-clause-value
counted-returns-clause-value t c =
    let second = rw c.in_ok-number_value.ensures.bound at c.in_ok-value.ensures.value in
    rw (c.in_ok-number_value.ensures.value, second, start_seen c.args.number.now, start_seen c.args.part.now) c.counted_next.ensures.value

pub windowed-returns-clause-value : goal.windowed-returns-clause-value
windowed-returns-clause-value t c =
    let bound = c.in_ok-first.ensures.bound in
    let second = rw bound at c.in_ok-last.ensures.value in
    let last = rw (c.in_ok-last.ensures.bound ∙ bound) at c.in_ok-value.ensures.value in
    rw (← c.in-Some.ensures, c.in_ok-first.ensures.value, second, last, start_seen c.args.from.now, start_seen c.args.to.now, start_seen c.args.part.now) c.window_over.ensures.value
