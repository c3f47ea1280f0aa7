-- An answer of `synth` and an accepted document of version 6.
use Rattle.std.proofs.Common.{◌≡◌, ℕ, List, Option, length, refl, sym, ap, subst, ◌∙◌}
use Rattle.text_limits.specs.declared.TheConstants.{SMALL_LIMITS}
use Rattle.letters_and_lassos.specs.declared.kinds.Kind.{Kind}
use Rattle.document_text.specs.Laws.{DocumentsAreDetermined}
use Rattle.document_text.specs.Parts.{Document}
use Rattle.document_text.specs.States.{States}
use Rattle.circuit_machines.specs.Laws.{CircuitsAreMachines}
use Rattle.tlsf_expand.specs.Expansion.{expanded_as}
use Rattle.tlsf_expand.specs.FlatText.{flat_in}
use Rattle.satisfaction.specs.Wanted.{Wanted}
use Rattle.text_ground.specs.Ground.{IsWantedBy}
use Rattle.limit_laws.specs.Taken.{IsSameWanted, TakenTextsWantTheSame}
use Rattle.synth_answer.specs.Numbers.{AskAlike, told_number}
use Rattle.synth_answer.proofs.Numbers.{RealAt, UnrealAt, real_at, unreal_at}
use Rattle.solved_text.specs.declared.documents.Verdict.{Verdict}
use Rattle.solved_text.specs.declared.documents.Verdict.TheVariants.{Realizable, Unrealizable}
use Rattle.solved_text.specs.Parts as solved
use Rattle.solve_check.specs.Accepted.{IsAcceptedSolved, IsController, IsCounterStrategy, IsTrueOf}
use Rattle.solve_check.specs.Laws.{LeastLieBetween, LiesBetween}
use Rattle.bound_laws.specs.Laws.{AnswersAgree}
use Rattle.bound_laws.proofs.Same.{circuit_and_machine, defeats, each_can_lose, machine_and_circuit, none_satisfies, satisfies}

-- what a text wants under one way to ask for a kind it wants under another one that asks for the same
wanted_alike : (text : List ℕ) (kind given : Option Kind) (x : Wanted) → AskAlike text kind given → IsWantedBy text kind x → IsWantedBy text given x
wanted_alike text kind given x alike is = record {
  flat = is.flat;
  is_flat = record {
    tree = is.is_flat.tree;
    read = is.is_flat.read;
    expanded = ap (λ k. flat_in (expanded_as SMALL_LIMITS k is.is_flat.tree)) (sym (alike is.is_flat.tree is.is_flat.read)) ∙ is.is_flat.expanded;
    meaning = is.is_flat.meaning;
  };
  inputs = is.inputs;
  outputs = is.outputs;
  kind_is = is.kind_is;
  tree = is.tree;
  read = is.read;
  meaning = is.meaning;
}

module _ (documents : DocumentsAreDetermined) (machines : CircuitsAreMachines) (taken : TakenTextsWantTheSame) (least : LeastLieBetween)
    (text : List ℕ) (kind given : Option Kind) (alike : AskAlike text kind given) (bytes more : List ℕ) (e : solved.Document)
    (is : IsAcceptedSolved text given more e) where
  same_as : (x : Wanted) → IsWantedBy text kind x → IsSameWanted x is.wanted
  same_as x by = taken text given x is.flat is.wanted (wanted_alike text kind given x alike by) is.taken

  controller : (n : ℕ) → e.verdict ≡ Realizable n → IsController is.wanted n (length e.logs) e
  controller n verdict = subst (λ (v : Verdict). IsTrueOf is.wanted e v) verdict is.verdict

  counter_strategy : (n : ℕ) → e.verdict ≡ Unrealizable n → IsCounterStrategy is.wanted n (length e.logs) e
  counter_strategy n verdict = subst (λ (v : Verdict). IsTrueOf is.wanted e v) verdict is.verdict

  told_by : (d f : Document) (n : ℕ) → States bytes d → States bytes f → told_number f.verdict ≡ n → n ≡ told_number d.verdict
  told_by d f n states others told = sym told ∙ ap (λ (g : Document). told_number g.verdict) (documents.one_document bytes f d others states)

  pub real_between : RealAt text kind bytes → (d : Document) (n : ℕ) → States bytes d → e.verdict ≡ Realizable n → LiesBetween (length e.logs) (told_number d.verdict) n
  real_between at d n states verdict =
      let same = same_as at.wanted at.by in
      subst (λ (k : ℕ). LiesBetween (length e.logs) k n) (told_by d at.document at.n states at.states at.told)
      (least.of_system is.wanted n (length e.logs) at.n e (controller n verdict) (record {
        machine = at.some.machine;
        size = at.some.size;
        satisfies = satisfies at.wanted is.wanted same at.some.machine at.some.satisfies;
        smaller = λ k some less. none_satisfies at.wanted is.wanted same k (at.none k some less);
      }))

  pub unreal_between : UnrealAt text kind bytes → (d : Document) (n : ℕ) → States bytes d → e.verdict ≡ Unrealizable n → LiesBetween (length e.logs) (told_number d.verdict) n
  unreal_between at d n states verdict =
      let same = same_as at.wanted at.by in
      subst (λ (k : ℕ). LiesBetween (length e.logs) k n) (told_by d at.document at.n states at.states at.told)
      (least.of_environment is.wanted n (length e.logs) at.n e (counter_strategy n verdict) (record {
        machine = at.some.machine;
        size = at.some.size;
        defeats = defeats at.wanted is.wanted same at.some.machine at.some.defeats;
        smaller = λ k some less. each_can_lose at.wanted is.wanted same k (at.each k some less);
      }))

  pub not_defeated : RealAt text kind bytes → (n : ℕ) → e.verdict ≡ Unrealizable n → ⊥
  not_defeated at n verdict =
      let counter = counter_strategy n verdict in
      machine_and_circuit at.wanted is.wanted (same_as at.wanted at.by) at.some.machine counter.circuit at.some.satisfies counter.defeats

  pub not_satisfied : UnrealAt text kind bytes → (n : ℕ) → e.verdict ≡ Realizable n → ⊥
  not_satisfied at n verdict =
      let control = controller n verdict in
      circuit_and_machine machines at.wanted is.wanted (same_as at.wanted at.by) n control.circuit control.is_circuit control.states at.some.machine control.satisfies
      at.some.defeats

pub answers_agree : DocumentsAreDetermined → CircuitsAreMachines → TakenTextsWantTheSame → LeastLieBetween → AnswersAgree
answers_agree documents machines taken least = record {
  realizable = λ text kind given settings bytes more d e n alike a states is verdict.
      real_between documents machines taken least text kind given alike bytes more e is (real_at a refl) d n states verdict;
  unrealizable = λ text kind given settings bytes more d e n alike a states is verdict.
      unreal_between documents machines taken least text kind given alike bytes more e is (unreal_at a refl) d n states verdict;
  never_defeated = λ text kind given settings bytes more e n alike a is verdict.
      not_defeated documents machines taken least text kind given alike bytes more e is (real_at a refl) n verdict;
  never_satisfied = λ text kind given settings bytes more e n alike a is verdict.
      not_satisfied documents machines taken least text kind given alike bytes more e is (unreal_at a refl) n verdict;
}
