use Rattle.std.proofs.Common.{◌≤◌, ◌∷◌, reverse, ◌∙◌, ap}
use Rattle.tlsf_syntax.specs.Frames.{frame_number, frames_after}
use Rattle.tlsf_syntax.specs.declared.nesting.Role.{Role}
use Rattle.tlsf_syntax.proofs.Tracks.{goes_on, not_deep}
use Rattle.tlsf_syntax.proofs.nesting.first_too_deep.Goals as goal

pub loop-i-preserved : goal.loop-i-preserved
loop-i-preserved c =
    let low : frame_number c.in_ok-here.here ≤ 128 = not_deep _ _ c.is_too_deep.ensures c.if-is_too_deep.false in
    record {
      follows = goes_on _ _ _ _ _ _ c.loop-i.invariant.follows c.loop-i-test.true c.first.ensures _ _
          (c.in_ok-here.ensures ∙ ap (λ (r : Role). frames_after r (c.loop-i.here ∷ reverse c.loop-i.outer.items)) c.role_of-role.ensures) low;
      low = low;
    }
