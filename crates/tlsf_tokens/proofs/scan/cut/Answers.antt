use Rattle.std.proofs.Common.{◌<◌, ◌≤◌, ◌+◌, length, ◌∙◌, arith}
use Rattle.tlsf_tokens.proofs.Cutting.{found_fits, bad_byte, faulty, gap_found, token_found, all_cut}
use Rattle.tlsf_tokens.proofs.scan.cut.Goals as goal
use Rattle.tlsf_tokens.proofs.scan.cut.Goals.{in-Gap, in-Token+in_ok-push-in-Token}

pub returns-in_default-clause-cut : goal.returns-in_default-clause-cut
returns-in_default-clause-cut c = bad_byte _ _ _ _ c.loop-at.invariant c.loop-at-test.true c.front.ensures c.in_default.not-Some

pub returns-in-Fault-clause-cut : goal.returns-in-Fault-clause-cut
returns-in-Fault-clause-cut c = faulty _ _ _ _ _ c.loop-at.invariant c.loop-at-test.true (c.front.ensures ∙ c.in-Some.is) c.in-Fault.is

pub overflow_add-end : goal.overflow_add-end
overflow_add-end c = let f : (0 < c.in-Some.found.len) × (c.loop-at.at + c.in-Some.found.len ≤ length c.args.text.now) = found_fits _ _ _ c.loop-at-test.true (c.front.ensures ∙ c.in-Some.is) in omega arith

pub overflow_add-at : goal.overflow_add-at
overflow_add-at c = let f : (0 < c.in-Some.found.len) × (c.loop-at.at + c.in-Some.found.len ≤ length c.args.text.now) = found_fits _ _ _ c.loop-at-test.true (c.front.ensures ∙ c.in-Some.is) in omega arith

pub loop-at-smaller : goal.loop-at-smaller
loop-at-smaller c = let f : (0 < c.in-Some.found.len) × (c.loop-at.at + c.in-Some.found.len ≤ length c.args.text.now) = found_fits _ _ _ c.loop-at-test.true (c.front.ensures ∙ c.in-Some.is) in omega arith

pub loop-at-preserved : goal.loop-at-preserved
loop-at-preserved c =
    elim c.match-found.branch [
      | in-Gap w ↦ rw w.tokens-is (gap_found _ _ _ _ c.loop-at.invariant c.loop-at-test.true (c.front.ensures ∙ c.in-Some.is) w.in-Gap.is)
      | in-Token+in_ok-push-in-Token w ↦
          rw (w.tokens-is, w.in_ok-push-in-Token.ensures.items) (token_found _ _ _ _ _ c.loop-at.invariant c.loop-at-test.true (c.front.ensures ∙ c.in-Some.is) w.in-Token.is)
    ]

pub returns-clause-cut : goal.returns-clause-cut
returns-clause-cut c = all_cut _ _ _ _ c.loop-at.invariant (omega arith)
