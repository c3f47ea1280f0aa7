use Rattle.std.proofs.Common.{◌≡◌, ◌++◌, ◌∙◌, ap, append_assoc}
use Rattle.input_output.proofs.EdgeLemmas.{Gains-append}
use Rattle.input_output.proofs.GainLemmas.{front_more, front_of_fault}
use Rattle.boundsyn_top.proofs.SinkLemmas.{cut_joins}
use Rattle.boundsyn_top.proofs.lines.put_lines.Goals as goal

pub returns-in-Err-clause-front : goal.returns-in-Err-clause-front
returns-in-Err-clause-front g c =
    let before = c.loop-rest.invariant.0 in
    let cut : c.split_at.result.0.now ++ c.split_at.result.1.now ≡ c.loop-rest.rest.now =
    cut_joins c.line_len.result _ _ _ c.split_at.ensures.front c.split_at.ensures.back in
    front_more _ _ _ before.0 _ _ _ _ before.2
    (front_of_fault c.in-Err.fault _ _ _ c.in-Err.ensures.front c.in-Err.ensures.no_memory) cut before.1

pub loop-rest-preserved : goal.loop-rest-preserved
loop-rest-preserved g c =
    let before = c.loop-rest.invariant.0 in
    let cut : c.split_at.result.0.now ++ c.split_at.result.1.now ≡ c.loop-rest.rest.now =
    cut_joins c.line_len.result _ _ _ c.split_at.ensures.front c.split_at.ensures.back in (
      (
        before.0 ++ c.split_at.result.0.now,
        append_assoc before.0 c.split_at.result.0.now c.split_at.result.1.now ∙ ap (λ t. before.0 ++ t) cut ∙ before.1,
        Gains-append _ _ _ before.0 c.split_at.result.0.now before.2 c.in-Ok.ensures.ok,
      ),
      c.in-Ok.ensures.not_failed (λ e. cc) ∙ c.loop-rest.invariant.1,
    )
