-- What a valid annotation over named states shows.
use Rattle.std.proofs.Common.{subst}
use Rattle.machine_model.specs.Automaton.{AutomatonModel}
use Rattle.cobuchi_build.specs.Laws.{TrueFormulasHavePaths}
use Rattle.annot_check.specs.Valid.{IsValidPairList}
use Rattle.named_annotation.specs.Laws.{ValidNamedListsShow}
use Rattle.named_annotation.proofs.Counting.{never_true}
use Rattle.named_annotation.proofs.StatedFacts.{IsNamedFor, stated_for}

pub valid_named_lists_show : TrueFormulasHavePaths → ValidNamedListsShow
valid_named_lists_show paths side c kind ns f bytes latches inputs named list stands normal stated valid =
    let of : IsNamedFor ns f named = stated_for ns f latches inputs named bytes stated in
    never_true paths side c kind ns f named.states named.list.pairs list stands normal of.list
    (subst (λ (a : AutomatonModel). IsValidPairList side c kind a named.list.pairs) of.automaton valid)
