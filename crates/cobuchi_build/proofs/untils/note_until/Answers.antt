use Rattle.std.proofs.Common.{ap, sym, ◌∙◌}
use Rattle.std.proofs.lemmas.Option.{get_or_from_slice_get}
use Rattle.ltl_formula.specs.declared.nodes.Node.TheVariants.{False}
use Rattle.cobuchi_build.specs.Occurring.{is_until}
use Rattle.cobuchi_build.proofs.Meeting.{none_noted}
use Rattle.cobuchi_build.proofs.untils.note_until.Goals as goal

pub returns-else-is_until : goal.returns-else-is_until
returns-else-is_until c =
    none_noted c.args.untils.now.items c.args.id _
    (ap is_until (get_or_from_slice_get c.args.formulas.now c.args.id.0 c.node.result False c.node.ensures.value) ∙ sym c.is_until.ensures ∙ c.if-is_until.false)
