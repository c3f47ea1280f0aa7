use Rattle.std.proofs.Common.{◌≡◌, Bool, true, false, not, refl, sym, ◌∙◌}
use Rattle.letters_and_lassos.specs.declared.kinds.Side.TheVariants.{Environment}
use Rattle.ltl_formula.specs.Tree.{Tree}
use Rattle.ltl_formula.specs.Truth.{holds}
use Rattle.machine_model.specs.Machine.{MachineModel, IsMachine}
use Rattle.side_automata.specs.Defeat.{DefeatsAll, EachRunMakes}
use Rattle.side_automata.specs.Laws.{AcceptedCounterMachinesDefeat, AcceptedMachinesMake, TheDefeatedDoNotSatisfy}
use Rattle.side_automata.proofs.PlayLaws.{every_pair_has_a_play}
use Rattle.side_automata.proofs.Repeats.{are_partners, is_machine, is_play, repeats}

-- a truth that isn't the other one is this one
the_other : (t b : Bool) → (b ≡ not t → ⊥) → b ≡ t
the_other true true h = refl
the_other true false h = absurd (h refl)
the_other false true h = absurd (h refl)
the_other false false h = refl

not_both : (t b : Bool) → b ≡ t → b ≡ not t → ⊥
not_both true b e d = absurd (let x : true ≡ false = sym e ∙ d in cc)
not_both false b e d = absurd (let x : false ≡ true = sym e ∙ d in cc)

pub accepted_machines_make : AcceptedMachinesMake
accepted_machines_make truth f a side m exact = (
  λ accepts. record { runs = λ w run. the_other truth (holds w f 0) (λ e. accepts w run ((exact.lassos w run.1.ring).1 e)) },
  λ make w run accepted. not_both truth (holds w f 0) (make.runs w run) ((exact.lassos w run.1.ring).0 accepted),
)

defeats_all : (f : Tree) (environment : MachineModel) → IsMachine environment → EachRunMakes false f Environment environment → DefeatsAll f environment
defeats_all f environment is_environment make = record {
  plays = λ system is_system partners. every_pair_has_a_play system environment is_system is_environment partners;
  loses = λ system w is_system partners play. make.runs w play.of_environment;
}

-- each run lasso is a play against the machine that repeats it
each_run_loses : (f : Tree) (environment : MachineModel) → DefeatsAll f environment → EachRunMakes false f Environment environment
each_run_loses f e defeats = record {
  runs = λ w run. defeats.loses (repeats e w run.0 run.1) w (is_machine e w run.0 run.1) (are_partners e w run.0 run.1) (is_play e w run.0 run.1);
}

pub accepted_counter_machines_defeat : AcceptedCounterMachinesDefeat
accepted_counter_machines_defeat f a environment is_environment exact =
    let made = accepted_machines_make false f a Environment environment exact in
    (λ accepts. defeats_all f environment is_environment (made.0 accepts), λ defeats. made.1 (each_run_loses f environment defeats))

pub the_defeated_do_not_satisfy : TheDefeatedDoNotSatisfy
the_defeated_do_not_satisfy f system environment is_system partners defeats satisfies =
    let played = defeats.plays system is_system partners in
    not_both true (holds played.0 f 0) (satisfies.runs played.0 played.1.of_system) (defeats.loses system played.0 is_system partners played.1)
