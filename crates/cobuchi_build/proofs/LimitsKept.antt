-- The automaton of a formula names no signals but those of the list, and has few states where it passes no limit.
use Rattle.std.proofs.Common.{◌≡◌, ◌==◌, ◌<◌, ◌≤◌, inl, inr, ℕ, ◌^◌, List, All, length, sym, ◌∙◌, ap, subst, arith}
use Rattle.std.specs.Prelude.{Contains}
use Rattle.std.proofs.lemmas.Bool.{cases_lt}
use Rattle.std.proofs.lemmas.List.{length-map}
use Rattle.std.proofs.lemmas.List.Elements.{All-contains}
use Rattle.std_lemmas.proofs.Lists.{All-from_contains}
use Rattle.letters_and_lassos.specs.declared.cubes.Cube.{Cube}
use Rattle.ltl_formula.specs.declared.nodes.FormulaId.{FormulaId}
use Rattle.ltl_formula.specs.declared.nodes.Node.{Node}
use Rattle.ltl_formula.specs.ListSignals.{HasSignalsBelow}
use Rattle.ltl_formula.specs.NormalForm.{IsNormal}
use Rattle.ltl_formula.specs.Nodes.{IsNodeList, IsNodeIn, tree_at}
use Rattle.obligation_sets.specs.declared.sets.Covering.{Covering}
use Rattle.obligation_sets.specs.Reduced.{covers_by}
use Rattle.text_limits.specs.declared.AutomatonLimits.{AutomatonLimits}
use Rattle.obligation_sets.specs.CoverSignals as cover
use Rattle.obligation_sets.proofs.NamedSignals.{covers_name_signals}
use Rattle.machine_model.specs.declared.automata.Edge.{Edge}
use Rattle.machine_model.specs.Automaton.{AutomatonModel, states_of}
use Rattle.machine_model.specs.Problem.{NamesSignals}
use Rattle.cobuchi_build.specs.declared.exploring.State.{State}
use Rattle.cobuchi_build.specs.Built.{IsAutomatonOf, IsTooLarge, PassesLimit, automaton_from}
use Rattle.cobuchi_build.specs.Explored.{explored}
use Rattle.cobuchi_build.specs.Limits.{AutomataKeepLimits, NamesSignalsOf}
use Rattle.cobuchi_build.specs.Occurring.{untils_of}
use Rattle.cobuchi_build.proofs.Along.{start_normal}
use Rattle.cobuchi_build.proofs.Sound.{FromCover, IsSound, explored_sound}

edge_named : (covering : Covering) (n : ℕ) (ns : List Node) → HasSignalsBelow n ns → (f : FormulaId) (rounds : ℕ) → IsNodeList ns → IsNodeIn ns f → IsNormal (tree_at ns f)
    → (e : Edge) → Contains (explored covering ns (untils_of ns f) f rounds).edges e → NamesSignals n e
edge_named covering n ns below f rounds list stands normal e there =
    let sound : IsSound covering ns (untils_of ns f) f rounds (explored covering ns (untils_of ns f) f rounds) = explored_sound covering ns (untils_of ns f) list f (start_normal ns f stands normal) rounds in
    let from : FromCover covering ns (untils_of ns f) (explored covering ns (untils_of ns f) f rounds) e = sound.edges e there in
    let named : cover.NamesSignals n from.cover = All-contains (cover.NamesSignals n) (covers_by covering ns from.state.set) from.cover ((covers_name_signals covering ns from.state.set).named n below) from.is_cover in
    record {
      must = subst (λ (c : Cube). c.must < 2 ^ n) (sym from.cube) named.must;
      none_of = subst (λ (c : Cube). c.not < 2 ^ n) (sym from.cube) named.none_of;
    }

signals_named : (covering : Covering) (ns : List Node) (f : FormulaId) (a : AutomatonModel) → IsNodeList ns → IsNodeIn ns f → IsNormal (tree_at ns f) → IsAutomatonOf covering ns f a → NamesSignalsOf ns a
signals_named covering ns f a list stands normal is = record {
  named = λ n below.
      subst (λ (x : AutomatonModel). All (NamesSignals n) x.edges) (sym (is.is ∙ ap (automaton_from (untils_of ns f)) is.finished.is))
      (All-from_contains (NamesSignals n) (explored covering ns (untils_of ns f) f is.finished.rounds).edges (edge_named covering n ns below f is.finished.rounds list stands normal));
}

few_states : (covering : Covering) (limits : AutomatonLimits) (ns : List Node) (f : FormulaId) (a : AutomatonModel) → IsAutomatonOf covering ns f a → (PassesLimit covering limits ns f → ⊥) → states_of a ≤ limits.states
few_states covering limits ns f a is within =
    let many : states_of a ≡ length is.found.states = ap states_of is.is ∙ length-map is.found.states (λ (state : State). state.counter == length (untils_of ns f)) in
    elim (cases_lt limits.states (length is.found.states)) [
      | inl passed ↦ absurd (within (record { rounds = is.finished.rounds; passes = subst (IsTooLarge limits ns) is.finished.is (inl (inl passed)) }))
      | inr few ↦ omega arith
    ]

pub automata_keep_limits : AutomataKeepLimits
automata_keep_limits = record { signals = signals_named; states = few_states }
