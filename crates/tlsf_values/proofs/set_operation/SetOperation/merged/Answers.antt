use Rattle.std.proofs.Common.{rules, ◌≡◌, [], ◌∷◌, ◌++◌, cond, of_z, to_z, w64}
use Rattle.tlsf_values.specs.SetOperations.{is_first, keeps}
use Rattle.tlsf_values.proofs.SetLemmas.{rises_from}
use Rattle.tlsf_values.proofs.MergeLemmas.{kept_step, rises-behind}
use Rattle.tlsf_values.proofs.set_operation.SetOperation.merged.Goals as goal
use Rattle.tlsf_values.proofs.set_operation.SetOperation.merged.Goals.{then-keeps+in_ok-push, else-keeps}

pub loop-number-init : goal.loop-number-init
loop-number-init c = (rises_from c.args.left.now c.requires.left, rises_from c.args.right.now c.requires.right, search rules)

pub loop-number-preserved : goal.loop-number-preserved
loop-number-preserved c =
    let same : to_z w64 (of_z w64 c.in-Some.number) ≡ c.in-Some.number = search rules in
    let keep : c.keeps.result ≡ keeps c.args.self (is_first c.in-Some.number c.loop-number.left.now) (is_first c.in-Some.number c.loop-number.right.now) = search rules in
    let more : c.if-keeps.kept.items ≡ c.loop-number.kept.items ++ cond c.keeps.result (c.in-Some.number ∷ []) [] = elim c.if-keeps.branch [
      | then-keeps+in_ok-push w ↦ search rules
      | else-keeps w ↦ search rules
    ] in
    rw (rw same at c.behind-left.ensures, rw same at c.behind-right.ensures) (
      rises-behind _ _ c.loop-number.invariant.0,
      rises-behind _ _ c.loop-number.invariant.1,
      kept_step c.args.self _ c.loop-number.kept.items c.if-keeps.kept.items c.loop-number.left.now c.loop-number.right.now c.in-Some.number c.loop-number.invariant.0 c.loop-number.invariant.1 (search rules) c.loop-number.invariant.2 (rw keep at more),
    )
