use Rattle.std.proofs.Common.{◌≡◌, ◌+◌, ◌<◌, Bool, List, ◌∷◌, [], ◌++◌, length, get_or, sym, ap, ◌∙◌, subst, arith}
use Rattle.std.proofs.lemmas.List.{length-append}
use Rattle.annot_check.specs.declared.steps.Reaction.{Reaction}
use Rattle.annot_check.specs.Steps.{IsReaction}
use Rattle.annot_check.proofs.StepLemmas.{each_pushed}
use Rattle.annot_check.proofs.steps.all_reactions.Goals as goal

pub loop-read-preserved : goal.loop-read-preserved
loop-read-preserved c =
    let step : Reaction = record { letter = c.react-letter.result; next = c.in_ok-next.next } in
    let items : c.push.new.self.items ≡ c.loop-read.steps.items ++ step ∷ [] = c.in_ok-push.ensures.items in
    let count = c.loop-read.invariant.count in
    let size : length c.push.new.self.items ≡ length c.loop-read.steps.items + 1 =
    ap (λ (xs : List Reaction). length xs) items ∙ length-append c.loop-read.steps.items (step ∷ []) in
    let one : IsReaction c.args.side c.args.circuit.now c.args.code (length c.loop-read.steps.items) step.letter step.next =
    subst (λ n. IsReaction c.args.side c.args.circuit.now c.args.code n step.letter step.next) (sym c.loop-read.invariant.count)
    (subst (λ (next : List Bool). IsReaction c.args.side c.args.circuit.now c.args.code c.loop-read.read step.letter next) (sym c.in_ok-next.ensures) c.react-letter.ensures.reaction) in
    record {
      fits = c.react-letter.ensures.fits;
      count = omega (arith, size, count);
      each = λ k d h.
          subst (λ (xs : List Reaction). IsReaction c.args.side c.args.circuit.now c.args.code k (get_or xs k d).letter (get_or xs k d).next) (sym items)
          (each_pushed c.args.side c.args.circuit.now c.args.code c.loop-read.steps.items step c.loop-read.invariant.each one k d (subst (λ (xs : List Reaction). k < length xs) items h));
    }
