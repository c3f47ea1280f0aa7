use Rattle.std.proofs.Common.{All, map, sym, ap, subst, ◌∙◌}
use Rattle.ltl_formula.specs.Nodes.{IsNodeIn, tree_at}
use Rattle.tlsf_values.specs.Results.{IsOutcomeAs}
use Rattle.unrealizable_core.specs.Put.{put_all}
use Rattle.unrealizable_core.proofs.Reducing.{kept_all, kept_map}
use Rattle.unrealizable_core.proofs.whole.put_kept.Goals as goal

pub put_all-requires-clause-stand : goal.put_all-requires-clause-stand
put_all-requires-clause-stand c =
    let is = c.deref.ensures.value ∙ c.in_ok-ids.ensures in
    subst (λ ids. All (IsNodeIn c.args.from.now) ids) (sym is) (kept_all (IsNodeIn c.args.from.now) c.args.keep.now c.args.ids.now c.requires.stand)

pub returns : goal.returns
returns c =
    let is = c.deref.ensures.value ∙ c.in_ok-ids.ensures in
    record {
      value = subst (λ ts. IsOutcomeAs (λ put. put.items) c.put_all.result c.put_all.new.work (put_all ts c.args.work.now))
          (ap (map (tree_at c.args.from.now)) is ∙ kept_map (tree_at c.args.from.now) c.args.keep.now c.args.ids.now) c.put_all.ensures.value;
    }
