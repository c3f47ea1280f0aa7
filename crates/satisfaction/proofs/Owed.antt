use Rattle.std.proofs.Common.{◌≡◌, ◌≢◌, true, false, refl, sym, ◌∙◌, subst}
use Rattle.letters_and_lassos.specs.declared.kinds.Kind.{Kind}
use Rattle.letters_and_lassos.specs.declared.kinds.Kind.TheVariants.{Mealy, Moore}
use Rattle.letters_and_lassos.specs.declared.kinds.Side.TheVariants.{System, Environment}
use Rattle.letters_and_lassos.specs.Kinds.{other_kind}
use Rattle.letters_and_lassos.specs.Word.{Word}
use Rattle.ltl_formula.specs.Tree.{Tree}
use Rattle.machine_model.specs.Machine.{MachineModel, IsMachine}
use Rattle.machine_model.specs.Run.{ArePartners, IsPlay, IsRun}
use Rattle.side_automata.specs.Defeat.{DefeatsAll, EachRunMakes}
use Rattle.side_automata.proofs.Repeats.{is_machine, is_play, repeats}
use Rattle.side_automata.proofs.Repeats.{are_partners as repeating}
use Rattle.side_automata.proofs.Defeats.{accepted_counter_machines_defeat, accepted_machines_make}
use Rattle.aiger_text.specs.Circuit.{IsCircuitOfKind}
use Rattle.satisfaction.specs.Wanted.{Wanted, Says}
use Rattle.satisfaction.specs.Satisfaction.{IsSystemFor, IsEnvironmentFor, Satisfies, Defeats, CanLose, CircuitSatisfies, CircuitDefeats}
use Rattle.satisfaction.specs.Laws.{AcceptedSystemsSatisfy, AcceptedEnvironmentsDefeat, RejectedEnvironmentsCanLose, IsCircuitFor, CircuitsSatisfy, CircuitsDefeat, DefeatingCannotLose}

pub accepted_systems_satisfy : AcceptedSystemsSatisfy
accepted_systems_satisfy x f a m says exact system =
    let made = accepted_machines_make true f a System m exact in (
      λ accepts. record { system = system; means = λ w run. sym (says.same w) ∙ (made.0 accepts).runs w run },
      λ satisfies. made.1 (record { runs = λ w run. says.same w ∙ satisfies.means w run }),
    )

pub not_the_other : (k : Kind) → k ≡ other_kind k → ⊥
not_the_other Mealy e = absurd (cc)
not_the_other Moore e = absurd (cc)

the_one : (k l : Kind) → l ≢ other_kind k → l ≡ k
the_one Mealy Mealy ne = refl
the_one Mealy Moore ne = absurd (ne refl)
the_one Moore Mealy ne = absurd (ne refl)
the_one Moore Moore ne = refl

are_partners : (x : Wanted) (m e : MachineModel) → IsSystemFor x m → IsEnvironmentFor x e → ArePartners m e
are_partners x m e system environment = record {
  kinds = λ same. not_the_other x.kind (sym system.kind ∙ same ∙ environment.kind);
  inputs = system.reads ∙ sym environment.writes;
  outputs = system.writes ∙ sym environment.reads;
}

is_system : (x : Wanted) (m e : MachineModel) → IsMachine m → IsEnvironmentFor x e → ArePartners m e → IsSystemFor x m
is_system x m e machine environment partners = record {
  machine = machine;
  kind = the_one x.kind m.kind (λ same. partners.kinds (same ∙ sym environment.kind));
  reads = partners.inputs ∙ environment.writes;
  writes = partners.outputs ∙ environment.reads;
}

pub accepted_environments_defeat : AcceptedEnvironmentsDefeat
accepted_environments_defeat x f a e says exact environment =
    let made = accepted_counter_machines_defeat f a e environment.machine exact in (
      λ accepts. record {
        environment = environment;
        plays = λ m system. (made.0 accepts).plays m system.machine (are_partners x m e system environment);
        loses = λ m w system play. sym (says.same w) ∙ (made.0 accepts).loses m w system.machine (are_partners x m e system environment) play;
      },
      λ defeats. made.1 (record {
        plays = λ m machine partners. defeats.plays m (is_system x m e machine environment partners);
        loses = λ m w machine partners play. says.same w ∙ defeats.loses m w (is_system x m e machine environment partners) play;
      }),
    )

pub rejected_environments_can_lose : RejectedEnvironmentsCanLose
rejected_environments_can_lose x f a e w says exact run accepted = record {
  word = w;
  run = run;
  means = sym (says.same w) ∙ (exact.lassos w run.1.ring).0 accepted;
}

-- its run lasso is a play against the machine that repeats it
pub defeating_cannot_lose : DefeatingCannotLose
defeating_cannot_lose x e defeats loses =
    let states = loses.run.0 in
    let run = loses.run.1 in
    let repeated = repeats e loses.word states run in
    let system = is_system x repeated e (is_machine e loses.word states run) defeats.environment (repeating e loses.word states run) in
    let lost = defeats.loses repeated loses.word system (is_play e loses.word states run) in
    let both : true ≡ false = sym loses.means ∙ lost in
    absurd (let never : ⊥ = cc in never)

pub circuits_satisfy : CircuitsSatisfy
circuits_satisfy x m c satisfies circuit inputs outputs = record {
  kind = subst (λ k. IsCircuitOfKind k c) satisfies.system.kind circuit.kind;
  inputs = inputs;
  outputs = outputs;
  means = λ w run. satisfies.means w ((circuit.runs.runs System w).0 run);
}

pub circuits_defeat : CircuitsDefeat
circuits_defeat x e c defeats circuit inputs outputs = record {
  kind = subst (λ k. IsCircuitOfKind k c) defeats.environment.kind circuit.kind;
  inputs = inputs;
  outputs = outputs;
  plays = λ m system.
      let played = defeats.plays m system in
      (played.0, record { of_system = played.1.of_system; of_circuit = (circuit.runs.runs Environment played.0).1 played.1.of_environment });
  loses = λ m w system play.
      defeats.loses m w system (record { of_system = play.of_system; of_environment = (circuit.runs.runs Environment w).0 play.of_circuit });
}
