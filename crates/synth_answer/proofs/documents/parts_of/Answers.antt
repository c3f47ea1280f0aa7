use Rattle.std.proofs.Common.{◌≡◌, List, [], ◌∷◌, ◌++◌, map, sym, ap, ◌∙◌}
use Rattle.std.proofs.lemmas.List.Elements.{All-push}
use Rattle.synth_answer.specs.Reply.{IsShort, part_of}
use Rattle.synth_answer.proofs.Places.{map-append}
use Rattle.synth_answer.proofs.documents.parts_of.Goals as goal

pushed : {A B : Type 0} (f : A → B) (xs : List A) (x : A) (ys : List B) (y : B) (new : List B) → new ≡ ys ++ y ∷ [] → ys ≡ map f xs → y ≡ f x → new ≡ map f (xs ++ x ∷ [])
pushed f xs x ys y new e h here = e ∙ ap (λ l. l ++ y ∷ []) h ∙ ap (λ v. map f xs ++ v ∷ []) here ∙ sym (map-append f xs (x ∷ []))

pub loop-log-preserved : goal.loop-log-preserved
loop-log-preserved c = record {
  parts = pushed part_of c.loop-log.yielded c.in-Some.log c.loop-log.parts.items c.in_ok-part_of.field-0 c.push.new.self.items
      c.in_ok-push.ensures.items c.loop-log.invariant.parts c.in_ok-part_of.ensures.part;
  short = All-push IsShort c.loop-log.yielded c.in-Some.log c.loop-log.invariant.short c.in_ok-part_of.ensures.short;
}
