use Rattle.std.proofs.Common.{◌≡◌, ℕ, suc, ◌<◌, true, false, eqb, List, [], Some, length, slice_get, sym, ◌∙◌, ap, subst, arith}
use Rattle.std.specs.Prelude.{Contains}
use Rattle.std.proofs.lemmas.Bool.{eqb-true}
use Rattle.std.proofs.lemmas.List.{get_or-map}
use Rattle.std.proofs.lemmas.Option.{get_or_from_slice_get, slice_get_within}
use Rattle.std_lemmas.proofs.Lists.{Contains-head}
use Rattle.letters_and_lassos.specs.Word.{Word, HasRing, lasso_len, after}
use Rattle.letters_and_lassos.proofs.Positions.{after_within}
use Rattle.ltl_formula.specs.declared.nodes.FormulaId.{FormulaId}
use Rattle.ltl_formula.specs.declared.nodes.Node.{Node}
use Rattle.ltl_formula.specs.declared.nodes.Node.TheVariants.{Until}
use Rattle.ltl_formula.specs.NormalForm.{IsNormal}
use Rattle.ltl_formula.specs.Nodes.{IsNodeList, IsNodeIn, node_at, tree_at}
use Rattle.ltl_formula.specs.Truth.{holds}
use Rattle.obligation_sets.specs.declared.sets.Covering.{Covering}
use Rattle.obligation_sets.proofs.Implied.AsksFor.{in_set}
use Rattle.machine_model.specs.Accepts.{Accepts}
use Rattle.machine_model.specs.Automaton.{AutomatonModel}
use Rattle.machine_model.proofs.Paths.{path_ends}
use Rattle.cobuchi_build.specs.declared.exploring.State.{State}
use Rattle.cobuchi_build.specs.Built.{AcceptsExactly, IsFinished, automaton_from}
use Rattle.cobuchi_build.specs.Explored.{Explored, start_state}
use Rattle.cobuchi_build.specs.Laws.{TheAutomatonAcceptsExactly}
use Rattle.cobuchi_build.specs.Occurring.{OccursIn, is_until, untils_of}
use Rattle.cobuchi_build.specs.Occurring.OccursIn.{itself}
use Rattle.cobuchi_build.proofs.AcceptedTrue.{set_is_true}
use Rattle.cobuchi_build.proofs.Along.{start_normal}
use Rattle.cobuchi_build.proofs.Moves.{Walk, path_walk}
use Rattle.cobuchi_build.proofs.Occurs.{untils_are_those_that_occur}
use Rattle.cobuchi_build.proofs.Sound.{IsSound, explored_sound}
use Rattle.cobuchi_build.proofs.NamedPaths.{true_formulas_have_paths}
use Rattle.cobuchi_build.proofs.TrueAccepted.{accepted}

module _ (covering : Covering) (ns : List Node) (f : FormulaId) (list : IsNodeList ns) (stands : IsNodeIn ns f) (normal : IsNormal (tree_at ns f)) (found : Explored) (finished : IsFinished covering ns f found) where
  sound : IsSound covering ns (untils_of ns f) f finished.rounds found
  sound = subst (λ (x : Explored). IsSound covering ns (untils_of ns f) f finished.rounds x) (sym finished.is) (explored_sound covering ns (untils_of ns f) list f (start_normal ns f stands normal) finished.rounds)

  numbered : (g : FormulaId) → OccursIn ns f g → (h k : FormulaId) → node_at ns g.0 ≡ Until h k → Contains (untils_of ns f) g
  numbered g occurs h k is = ((untils_are_those_that_occur ns f list stands).exact g).1 (occurs, ap is_until is)

  module _ (w : Word) (ring : HasRing w) where
    true_where_accepted : Accepts (automaton_from (untils_of ns f) found) w → holds w (tree_at ns f) 0 ≡ true
    true_where_accepted a =
        let first : (t : State) × (slice_get found.states a.state ≡ Some t) × Walk covering ns list (untils_of ns f) w a.steps 0 (start_state f) a.position t =
        path_walk covering ns list (untils_of ns f) w f finished.rounds found sound a.steps 0 0 a.position a.state a.path (start_state f) sound.start in
        let loop : (t : State) × (slice_get found.states a.state ≡ Some t) × Walk covering ns list (untils_of ns f) w (suc a.further) a.position first.0 a.position t =
        path_walk covering ns list (untils_of ns f) w f finished.rounds found sound (suc a.further) a.position a.state a.position a.state a.cycle first.0 first.1 in
        let back : Some loop.0 ≡ Some first.0 = sym loop.1 ∙ first.1 in
        let same : loop.0 ≡ first.0 = cc in
        let cycle : Walk covering ns list (untils_of ns f) w (suc a.further) a.position first.0 a.position first.0 = subst (λ (t : State). Walk covering ns list (untils_of ns f) w (suc a.further) a.position first.0 a.position t) same loop.2 in
        let ends : after w 0 a.steps ≡ a.position = path_ends (automaton_from (untils_of ns f) found) w a.steps 0 0 a.position a.state a.path in
        let begins : 0 < lasso_len w = omega arith in
        let inside : a.position < lasso_len w = subst (λ (i : ℕ). i < lasso_len w) ends (after_within w 0 a.steps ring begins) in
        let rejects : eqb first.0.counter (length (untils_of ns f)) ≡ true =
        ap (λ (s : State). eqb s.counter (length (untils_of ns f))) (sym (get_or_from_slice_get found.states a.state first.0 first.0 first.1))
        ∙ sym (get_or-map (λ (s : State). eqb s.counter (length (untils_of ns f))) found.states a.state first.0 false (slice_get_within found.states a.state first.0 first.1))
        ∙ a.rejecting in
        set_is_true covering ns list (untils_of ns f) w ring f numbered a.position first.0 inside (eqb-true first.0.counter (length (untils_of ns f)) rejects) a.further cycle a.steps 0 (start_state f) begins first.2 f itself (in_set (Contains-head f []))

    accepted_where_true : holds w (tree_at ns f) 0 ≡ true → Accepts (automaton_from (untils_of ns f) found) w
    accepted_where_true h = accepted covering ns w ring f finished.rounds found sound finished.all (true_formulas_have_paths covering ns f w list stands normal ring h)

pub the_automaton_accepts_exactly : TheAutomatonAcceptsExactly
the_automaton_accepts_exactly covering ns f a list stands normal it =
    subst (λ (x : AutomatonModel). AcceptsExactly ns f x) (sym it.is) (record {
      lassos = λ w ring. (true_where_accepted covering ns f list stands normal it.found it.finished w ring, accepted_where_true covering ns f list stands normal it.found it.finished w ring);
    })
