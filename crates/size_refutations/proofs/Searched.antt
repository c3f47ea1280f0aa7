-- What is kept of a ground gives the problem of each size.
use Rattle.std.proofs.Common.{◌≡◌, ℕ, ◌+◌, ◌≤◌, true, List, sym, ap, subst, ◌∙◌, arith}
use Rattle.std.specs.Prelude.{All}
use Rattle.letters_and_lassos.specs.declared.kinds.Side.{Side}
use Rattle.letters_and_lassos.specs.declared.kinds.Side.TheVariants.{System, Environment}
use Rattle.machine_model.specs.Automaton.{AutomatonModel, states_of}
use Rattle.machine_model.specs.Counting.{CountsBy}
use Rattle.machine_model.specs.Problem.{NamesSignals, Parts, automaton_of, parts_of, reads_of, sized}
use Rattle.machine_model.specs.declared.problems.Problem.{Problem}
use Rattle.machine_model.proofs.CountingLemmas.{counts_in_by, counts_locally_by}
use Rattle.text_limits.specs.declared.TheConstants.{LARGE_LIMITS}
use Rattle.letter_clauses.specs.Letters.{IsLetterList, IsLetterProblem}
use Rattle.size_refutations.specs.Ground.{IsAutomatonFor, IsSizeOf, LogGround}
use Rattle.size_refutations.specs.Heads.{is_number_of_states}
use Rattle.size_refutations.specs.Parts.{IsSearchOf}
use Rattle.size_refutations.proofs.HeadLemmas.{states_of_test}

few_by : (inputs outputs : ℕ) (side : Side) → inputs ≤ 16 → outputs ≤ 16 → elim side [ System ↦ inputs | Environment ↦ outputs ] ≤ 16
few_by inputs outputs System i o = i
few_by inputs outputs Environment i o = o

module _ (g : LogGround) (s : Problem) (n : ℕ) (p : Problem) (is : IsSearchOf g s) (same : parts_of p ≡ parts_of (sized s n)) where
  same_automaton : automaton_of p ≡ automaton_of s
  same_automaton = ap (λ (x : Parts). x.automaton) same

  pub size_is : IsSizeOf g n p
  size_is = record {
    automaton = subst (IsAutomatonFor g) (sym same_automaton) is.problem.automaton;
    inputs = ap (λ (x : Parts). x.inputs) same ∙ is.problem.inputs;
    outputs = ap (λ (x : Parts). x.outputs) same ∙ is.problem.outputs;
    of_side = ap (λ (x : Parts). x.side) same ∙ is.problem.of_side;
    kind_is = ap (λ (x : Parts). x.kind) same ∙ is.problem.kind_is;
    states = ap (λ (x : Parts). x.size) same;
    counting = subst (λ (x : Parts). CountsBy x.automaton x.counting) (sym same) is.problem.counting;
  }

  pub few_reads : reads_of p ≤ LARGE_LIMITS.signals
  few_reads =
      let inputs : p.inputs ≡ g.inputs = size_is.inputs in
      let outputs : p.outputs ≡ g.outputs = size_is.outputs in
      let i : g.inputs ≤ 16 = is.few_inputs in
      let o : g.outputs ≤ 16 = is.few_outputs in
      few_by p.inputs p.outputs p.side (omega (arith, inputs, i)) (omega (arith, outputs, o))

  pub letter_size : (letters : List ℕ) → is_number_of_states n ≡ true → IsLetterList (reads_of p) letters → IsLetterProblem p letters
  letter_size letters states list =
      let few = states_of_test n states in
      let size : p.size ≡ n = size_is.states in
      let inputs : p.inputs ≡ g.inputs = size_is.inputs in
      let outputs : p.outputs ≡ g.outputs = size_is.outputs in
      let i : g.inputs ≤ 16 = is.few_inputs in
      let o : g.outputs ≤ 16 = is.few_outputs in
      let some : 1 ≤ n = few.some in
      let most : n ≤ 16 = few.few in
      let both : g.inputs + g.outputs ≡ p.inputs + p.outputs = omega (arith, inputs, outputs) in
      record {
        within = record {
          inputs = omega (arith, inputs, i);
          outputs = omega (arith, outputs, o);
          some = omega (arith, size, some);
          size = omega (arith, size, most);
          states = subst (λ (a : AutomatonModel). states_of a ≤ LARGE_LIMITS.automaton.states) (sym same_automaton) is.states;
          signals = subst (λ (k : ℕ). All (NamesSignals k) (automaton_of p).edges) both size_is.automaton.signals;
          counting = counts_in_by (automaton_of p) p.counting size_is.counting;
        };
        local = counts_locally_by (automaton_of p) p.counting size_is.counting;
        list = list;
      }
