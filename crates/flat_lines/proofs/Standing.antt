-- The formulas of a text that was expanded stand in its list, and speak of signals that have names.
use Rattle.std.proofs.Common.{List, [], ◌∷◌, ◌++◌, All, map, length-append, subst, sym}
use Rattle.std.proofs.lemmas.List.Elements.{All-append, All-cons, All-head, All-nil, All-tail}
use Rattle.ltl_formula.specs.declared.nodes.FormulaId.{FormulaId}
use Rattle.ltl_formula.specs.declared.nodes.Node.{Node}
use Rattle.ltl_formula.specs.ListSignals.{HasSignalsBelow}
use Rattle.ltl_formula.specs.Nodes.{IsNodeIn}
use Rattle.tlsf_tokens.specs.declared.symbol.Section.{Section}
use Rattle.tlsf_tokens.specs.declared.symbol.Section.TheVariants.{Initially, Preset, Require, Assert, Assume, Guarantee}
use Rattle.tlsf_expand.specs.Expansion.{Expanded}
use Rattle.tlsf_expand.specs.Standing.{SectionsStand}
use Rattle.tlsf_expand.proofs.Expanded.{is_made}
use Rattle.tlsf_expand.proofs.Sectioned.{sections_stand}
use Rattle.tlsf_expand.proofs.Laid.{any_word}
use Rattle.flat_lines.specs.declared.lines.Line.{Line}
use Rattle.flat_lines.specs.declared.lines.Line.TheVariants.{Kinds, Inputs, Outputs, Formula}
use Rattle.flat_lines.specs.FlatLines.{LineStands, lines_in}
use Rattle.flat_lines.specs.Laws.{ExpandedCanBeWritten}

module _ (nodes : List Node) where
  abbrev P : Line → Type 0
  P = LineStands nodes

  of_section : (section : Section) (ids : List FormulaId) → All (IsNodeIn nodes) ids → All P (map (Formula section) ids)
  of_section section [] h = All-nil P
  of_section section (id ∷ ids) h =
      All-cons P (Formula section id) (map (Formula section) ids) (All-head (IsNodeIn nodes) id ids h) (of_section section ids (All-tail (IsNodeIn nodes) id ids h))

  and_section : (before : List Line) (section : Section) (ids : List FormulaId) → All P before → All (IsNodeIn nodes) ids → All P (before ++ map (Formula section) ids)
  and_section before section ids h stand = All-append P before (map (Formula section) ids) h (of_section section ids stand)

  lines_stand : (x : Expanded) → SectionsStand nodes x.sections → All P (lines_in x)
  lines_stand x h =
      let s = x.sections in
      let heads : List Line = Kinds ∷ Inputs ∷ Outputs ∷ [] in
      let one : List Line = heads ++ map (Formula Initially) s.initially in
      let two : List Line = one ++ map (Formula Preset) s.preset in
      let three : List Line = two ++ map (Formula Require) s.require in
      let four : List Line = three ++ map (Formula Assert) s.assert in
      let five : List Line = four ++ map (Formula Assume) s.assume in
      let h0 : All P heads = All-cons P Kinds (Inputs ∷ Outputs ∷ []) tt (All-cons P Inputs (Outputs ∷ []) tt (All-cons P Outputs [] tt (All-nil P))) in
      let h1 = and_section heads Initially s.initially h0 h.initially in
      let h2 = and_section one Preset s.preset h1 h.preset in
      let h3 = and_section two Require s.require h2 h.require in
      let h4 = and_section three Assert s.assert h3 h.assert in
      and_section five Guarantee s.guarantee (and_section four Assume s.assume h4 h.assume) h.guarantee

pub expanded_can_be_written : ExpandedCanBeWritten
expanded_can_be_written limits text kind flat is =
    let m = is_made limits any_word text kind flat is in
    let x = flat.expanded in
    record {
      list = m.good.list;
      stand = lines_stand flat.formulas x (sections_stand m.have);
      named = subst (λ n. HasSignalsBelow n flat.formulas) (sym (length-append x.inputs x.outputs)) m.good.below;
    }
