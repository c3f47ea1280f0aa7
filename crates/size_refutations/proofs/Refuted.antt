-- A log that holds refutes its size.
use Rattle.std.proofs.Common.{◌≡◌, ℕ, ◌+◌, ◌≤◌, ◌<◌, ◌^◌, true, not, None, List, [], ◌∷◌, length, sym, ap, subst, ◌∙◌, arith, true≢false}
use Rattle.std.specs.Prelude.{All, slice_index_or}
use Rattle.std.specs.List.{range_with_len}
use Rattle.std.proofs.lemmas.Bool.{not-true}
use Rattle.std.proofs.lemmas.Nat.{pow_pos}
use Rattle.std.proofs.lemmas.List.FromFn.{get_or-range_with_len, length-range_with_len}
use Rattle.letters_and_lassos.specs.declared.kinds.Side.{Side}
use Rattle.letters_and_lassos.specs.declared.kinds.Side.TheVariants.{System, Environment}
use Rattle.letters_and_lassos.specs.Word.{Word, HasRing}
use Rattle.ltl_formula.specs.Nodes.{tree_at}
use Rattle.ltl_formula.specs.Truth.{holds}
use Rattle.obligation_sets.specs.declared.sets.Covering.{Covering}
use Rattle.text_limits.specs.declared.TheConstants.{LARGE_LIMITS}
use Rattle.machine_model.specs.Machine.{MachineModel}
use Rattle.machine_model.specs.Problem.{IsMachineOf, NamesSignals, automaton_of, reads_of, writes_of}
use Rattle.machine_model.specs.declared.problems.Problem.{Problem}
use Rattle.machine_model.proofs.CountingLemmas.{counts_in_by, counts_locally_by}
use Rattle.machine_model.specs.Run.{IsRun, IsRunLasso}
use Rattle.cobuchi_build.specs.Built.{AcceptsExactly}
use Rattle.cobuchi_build.specs.Laws.{TheAutomatonAcceptsExactly}
use Rattle.cobuchi_build.specs.Limits.{AutomataKeepLimits}
use Rattle.annotation_encode.specs.Laws.{HasNoAccepted}
use Rattle.satisfaction.specs.Satisfaction.{EachCanLose, IsEnvironmentFor, NoneSatisfies}
use Rattle.satisfaction.specs.Wanted.{Wanted}
use Rattle.letter_clauses.specs.Laws.{ClosedLogsRefute}
use Rattle.letter_clauses.specs.Letters.{IsLetterList, IsLetterProblem}
use Rattle.solved_text.specs.declared.letters.Letters.{Letters}
use Rattle.solved_text.specs.declared.letters.Letters.TheVariants as written
use Rattle.solved_text.specs.Parts.{SizeLog}
use Rattle.size_refutations.specs.Ground.{LogGround}
use Rattle.size_refutations.specs.Heads.{letters_for, letters_named, variables_for}
use Rattle.size_refutations.specs.Holds.{AreLetters, LogHolds}
use Rattle.size_refutations.specs.Laws.{HoldingLogsRefute, IsGroundFor}

-- ---- the letters that a head names are some, below the end and rising

not_nil : (letters : List ℕ) (n : ℕ) → length letters ≡ n → 0 < n → letters ≡ [] → ⊥
not_nil [] n is some none = omega (arith, is, some)
not_nil (x ∷ xs) n is some none = absurd (cc)

pub all_letters_listed : (signals : ℕ) → IsLetterList signals (range_with_len 0 (2 ^ signals))
all_letters_listed signals =
    let many : length (range_with_len 0 (2 ^ signals)) ≡ 2 ^ signals = length-range_with_len 0 (2 ^ signals) in
    let some : 0 < 2 ^ signals = pow_pos signals in
    record {
      some = not_nil (range_with_len 0 (2 ^ signals)) (2 ^ signals) many some;
      below = λ k d h.
          let place : k < 2 ^ signals = omega (arith, h, many) in
          let at : slice_index_or (range_with_len 0 (2 ^ signals)) k d ≡ 0 + k = get_or-range_with_len 0 (2 ^ signals) k d place in
          omega (arith, at, place);
      rising = λ i j d less h.
          let place : j < 2 ^ signals = omega (arith, h, many) in
          let first : slice_index_or (range_with_len 0 (2 ^ signals)) i d ≡ 0 + i = get_or-range_with_len 0 (2 ^ signals) i d (omega (arith, place, less)) in
          let second : slice_index_or (range_with_len 0 (2 ^ signals)) j d ≡ 0 + j = get_or-range_with_len 0 (2 ^ signals) j d place in
          omega (arith, first, second, less);
    }

pub are_listed : (signals : ℕ) (letters : Letters) → AreLetters signals letters → IsLetterList signals (letters_named signals letters)
are_listed signals written.All are = all_letters_listed signals
are_listed signals (written.Few letters) are = are.list

-- ---- its problem is one over these letters

reads_system : (p : Problem) → p.side ≡ System → reads_of p ≡ p.inputs
reads_system p side = ap (λ (s : Side). elim s [ System ↦ p.inputs | Environment ↦ p.outputs ]) side

writes_system : (p : Problem) → p.side ≡ System → writes_of p ≡ p.outputs
writes_system p side = ap (λ (s : Side). elim s [ System ↦ p.outputs | Environment ↦ p.inputs ]) side

reads_environment : (p : Problem) → p.side ≡ Environment → reads_of p ≡ p.outputs
reads_environment p side = ap (λ (s : Side). elim s [ System ↦ p.inputs | Environment ↦ p.outputs ]) side

writes_environment : (p : Problem) → p.side ≡ Environment → writes_of p ≡ p.inputs
writes_environment p side = ap (λ (s : Side). elim s [ System ↦ p.outputs | Environment ↦ p.inputs ]) side

module _ (keep : AutomataKeepLimits) (exactly : TheAutomatonAcceptsExactly) (refute : ClosedLogsRefute) (g : LogGround) (l : SizeLog) (x : Wanted) (fit : IsGroundFor g x) (h : LogHolds g l) where
  is_letter_problem : IsLetterProblem h.problem (letters_for h.problem l)
  is_letter_problem =
      let size = h.is_size in
      let states : h.problem.size ≡ l.size = size.states in
      let inputs : h.problem.inputs ≡ g.inputs = size.inputs in
      let outputs : h.problem.outputs ≡ g.outputs = size.outputs in
      let few_inputs : g.inputs ≤ 16 = fit.few_inputs in
      let few_outputs : g.outputs ≤ 16 = fit.few_outputs in
      let some : 1 ≤ l.size = h.some in
      let few : l.size ≤ 16 = h.few in
      let both : g.inputs + g.outputs ≡ h.problem.inputs + h.problem.outputs = omega (arith, inputs, outputs) in
      record {
        within = record {
          inputs = omega (arith, inputs, few_inputs);
          outputs = omega (arith, outputs, few_outputs);
          some = omega (arith, states, some);
          size = omega (arith, states, few);
          states = keep.states Covering.Reduced LARGE_LIMITS.automaton g.nodes g.form (automaton_of h.problem) size.automaton.automaton size.automaton.within;
          signals = subst (λ (n : ℕ). All (NamesSignals n) (automaton_of h.problem).edges) both size.automaton.signals;
          counting = counts_in_by (automaton_of h.problem) h.problem.counting size.counting;
        };
        local = counts_locally_by (automaton_of h.problem) h.problem.counting size.counting;
        list = are_listed (reads_of h.problem) l.letters h.letters;
      }

  none_accepted : HasNoAccepted h.problem
  none_accepted = refute h.problem (letters_for h.problem l) (variables_for h.problem l) None l.entries is_letter_problem h.is_size.automaton.made h.closed

  accepts : AcceptsExactly g.nodes g.form (automaton_of h.problem)
  accepts = exactly Covering.Reduced g.nodes g.form (automaton_of h.problem) fit.list fit.stands fit.normal h.is_size.automaton.automaton

  -- where the form is false on each run of a machine of the system, its side accepts it
  pub none_satisfies : g.side ≡ System → g.kind ≡ x.kind → ((w : Word) → HasRing w → holds w (tree_at g.nodes g.form) 0 ≡ not (x.means w)) → NoneSatisfies x l.size
  none_satisfies side kind says m size satisfies =
      let system = satisfies.system in
      let its_side : h.problem.side ≡ System = h.is_size.of_side ∙ side in
      none_accepted.none (record {
        machine = m;
        made = system.machine;
        looked_for = record {
          kind = system.kind ∙ sym kind ∙ sym h.is_size.kind_is;
          size = size ∙ sym h.is_size.states;
          reads = system.reads ∙ sym fit.inputs ∙ sym h.is_size.inputs ∙ sym (reads_system h.problem its_side);
          writes = system.writes ∙ sym fit.outputs ∙ sym h.is_size.outputs ∙ sym (writes_system h.problem its_side);
        };
        accepted = λ w run accepted.
            let here : IsRun m System w = subst (λ (s : Side). IsRun m s w) its_side run in
            let form : holds w (tree_at g.nodes g.form) 0 ≡ true = (accepts.lassos w here.1.ring).0 accepted in
            let lost : not (x.means w) ≡ true = sym (says w here.1.ring) ∙ form in
            true≢false (sym (satisfies.means w here) ∙ not-true (x.means w) lost);
      })

  -- where the form is true on a run of a machine of the environment, it can lose
  pub each_can_lose : g.side ≡ Environment → ((e : MachineModel) → IsEnvironmentFor x e → e.kind ≡ g.kind) → ((w : Word) → HasRing w → holds w (tree_at g.nodes g.form) 0 ≡ x.means w) → EachCanLose x l.size
  each_can_lose side kinds says e size environment =
      let its_side : h.problem.side ≡ Environment = h.is_size.of_side ∙ side in
      let fits : IsMachineOf h.problem e = record {
        kind = kinds e environment ∙ sym h.is_size.kind_is;
        size = size ∙ sym h.is_size.states;
        reads = environment.reads ∙ sym fit.outputs ∙ sym h.is_size.outputs ∙ sym (reads_environment h.problem its_side);
        writes = environment.writes ∙ sym fit.inputs ∙ sym h.is_size.inputs ∙ sym (writes_environment h.problem its_side);
      } in
      let rejected = none_accepted.each_rejected e environment.machine fits in
      record {
        word = rejected.word;
        run = (rejected.states, subst (λ (s : Side). IsRunLasso e s rejected.word rejected.states) its_side rejected.run);
        means = sym (says rejected.word rejected.run.ring) ∙ (accepts.lassos rejected.word rejected.run.ring).0 rejected.accepted;
      }

pub holding_logs_refute : AutomataKeepLimits → TheAutomatonAcceptsExactly → ClosedLogsRefute → HoldingLogsRefute
holding_logs_refute keep exactly refute = record {
  systems = λ g l x is h. none_satisfies keep exactly refute g l x is.ground_for h is.of_system is.kind_is is.says;
  environments = λ g l x is h. each_can_lose keep exactly refute g l x is.ground_for h is.of_environment (λ e environment. environment.kind ∙ sym is.kind_is) is.says;
}
