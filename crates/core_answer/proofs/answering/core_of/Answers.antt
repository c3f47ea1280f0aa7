use Rattle.std.proofs.Common.{IfOk, map, ◌∙◌, subst}
use Rattle.std.proofs.lemmas.List.{length-map}
use Rattle.unrealizable_core.specs.Laws.{is_kept, kept_in}
use Rattle.unrealizable_core.proofs.Standings.{all_needed, none_asked}
use Rattle.core_answer.specs.Core.{core_lines}
use Rattle.core_answer.specs.Known.{IsShrunk}
use Rattle.core_answer.proofs.Steps.{at_last}
use Rattle.core_answer.proofs.answering.core_of.Goals as goal

pub returns-clause-told : goal.returns-clause-told
returns-clause-told g c = λ text kind t tells.
    let core = c.in_ok-core.core in
    let s = core.shrink in
    let others = map (λ o. o.items) core.others.items in
    let shown : IsShrunk text kind c.args.settings s core.document.items others =
    subst (λ r. IfOk r (λ k. IsShrunk text kind c.args.settings k.shrink k.document.items (map (λ o. o.items) k.others.items))) c.in_ok-core.was (c.shrunk.ensures.shrunk text kind t tells) in
    let keep_is = c.deref.ensures.value ∙ c.in_ok-keep.ensures in
    record {
      keep = kept_in s;
      each = length-map s is_kept ∙ c.in_ok-core.ensures.length;
      document = core.document.items;
      defeated = shown.defeated;
      others = others;
      spared = at_last text kind c.args.settings s core.document.items others shown (λ n is. all_needed s (none_asked s c.in_ok-core.ensures.none_open) n is);
      lines = c.in_ok-bytes.ensures ∙ (λ i. core_lines (keep_is i) (c.deref-2.ensures.value i) (map (λ o. o.items) (c.deref-3.ensures.value i)));
    }
