use Rattle.std.proofs.Common.{sym, ◌∙◌, arith}
use Rattle.tlsf_tokens.proofs.Comment.{opened, opened_fits, nests, closes, passes, longest_comment, longest_unclosed}
use Rattle.tlsf_tokens.proofs.scan.comment.Goals as goal
use Rattle.tlsf_tokens.proofs.scan.comment.Goals.{then-loop-level-test+else-at-rest, else-loop-level-test}

pub loop-level-init : goal.loop-level-init
loop-level-init c = record { leaves = opened _ c.requires; below = omega arith; begun = omega arith; within = opened_fits _ c.requires }

pub loop-level-preserved-then-is_pair : goal.loop-level-preserved-then-is_pair
loop-level-preserved-then-is_pair c = record {
  leaves = nests _ _ _ c.loop-level.invariant.leaves (omega arith) (omega arith) (sym c.is_pair.ensures ∙ c.if-is_pair.true);
  below = omega arith;
  begun = omega arith;
  within = omega arith;
}

pub loop-level-preserved-then-is_pair-2 : goal.loop-level-preserved-then-is_pair-2
loop-level-preserved-then-is_pair-2 c = record {
  leaves = closes _ _ _ c.loop-level.invariant.leaves (omega arith) (omega arith) (sym c.is_pair-else-is_pair.ensures ∙ c.if-is_pair-2.true);
  below = omega arith;
  begun = omega arith;
  within = omega arith;
}

pub loop-level-preserved : goal.loop-level-preserved
loop-level-preserved c = record {
  leaves = passes _ _ _ c.loop-level.invariant.leaves (omega arith) (omega arith) (sym c.is_pair.ensures ∙ c.if-is_pair.false) (sym c.is_pair-else-is_pair.ensures ∙ c.if-is_pair-2.false);
  below = omega arith;
  begun = omega arith;
  within = omega arith;
}

pub returns-then-level-eq0 : goal.returns-then-level-eq0
returns-then-level-eq0 c = longest_comment _ _ _ c.loop-level.invariant.leaves c.if-level-eq0.true (omega arith) c.loop-level.invariant.within

pub returns-else-level-eq0 : goal.returns-else-level-eq0
returns-else-level-eq0 c =
    elim c.loop-level-test.branch [
      | then-loop-level-test+else-at-rest w ↦ longest_unclosed _ _ _ c.loop-level.invariant.leaves (omega arith) (omega arith) c.loop-level.invariant.within (omega arith)
      | else-loop-level-test w ↦ absurd (omega arith)
    ]
