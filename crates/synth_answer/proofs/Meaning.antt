-- What accepted machines and their circuits do for a text.
use Rattle.std.proofs.Common.{ℕ, subst}
use Rattle.letters_and_lassos.specs.declared.kinds.Side.{Side}
use Rattle.letters_and_lassos.specs.declared.kinds.Side.TheVariants.{System, Environment}
use Rattle.ltl_formula.specs.Tree.{Tree}
use Rattle.machine_model.specs.Accepts.{SideAccepts}
use Rattle.machine_model.specs.Machine.{MachineModel}
use Rattle.machine_model.specs.Problem.{automaton_of, sized}
use Rattle.machine_model.specs.declared.problems.Problem.{Problem}
use Rattle.aiger_text.specs.Circuit.{Circuit}
use Rattle.circuit_names.specs.Names.{Names, read_names, written_names}
use Rattle.satisfaction.specs.Wanted.{Says, Wanted}
use Rattle.size_search.specs.Decided.{IsAcceptedOf}
use Rattle.text_ground.proofs.Meaning.{IsSideOf, environment_for_text, system_for}
use Rattle.synth_answer.specs.Answer.{DoesItsPart, SomeDefeats, SomeSatisfies}
use Rattle.synth_answer.specs.Reply.{IsCircuitWith, LawsHold}

module _ (laws : LawsHold) (x : Wanted) (f : Tree) (says : Says f x) where
  abbrev wanted_names : Names
  wanted_names = record { inputs = x.inputs; outputs = x.outputs }

  -- an accepted machine satisfies, or defeats every machine
  pub some_satisfies : (p : Problem) (n : ℕ) (m : MachineModel) → IsSideOf x f System p → IsAcceptedOf (sized p n) m → SomeSatisfies x n
  some_satisfies p n m known accepted =
      let system = system_for laws.sides x f says p n m known accepted.machine accepted.looked_for in
      let accepts = subst (λ side. SideAccepts (automaton_of p) side m) known.of_side accepted.accepted in
      record { machine = m; size = accepted.looked_for.size; satisfies = (laws.sides.systems x f (automaton_of p) m says known.accepts system).0 accepts }

  pub some_defeats : (p : Problem) (n : ℕ) (m : MachineModel) → IsSideOf x f Environment p → IsAcceptedOf (sized p n) m → SomeDefeats x n
  some_defeats p n m known accepted =
      let environment = environment_for_text laws.sides x f says p n m known accepted.machine accepted.looked_for in
      let accepts = subst (λ side. SideAccepts (automaton_of p) side m) known.of_side accepted.accepted in
      record { machine = m; size = accepted.looked_for.size; defeats = (laws.sides.environments x f (automaton_of p) m says known.accepts environment).0 accepts }

  -- the circuit of an accepted machine does its side's part
  pub does_its_part : (side : Side) (p : Problem) (n : ℕ) (m : MachineModel) (c : Circuit) → IsSideOf x f side p → IsAcceptedOf (sized p n) m
      → IsCircuitWith m (read_names wanted_names side) (written_names wanted_names side) c → DoesItsPart x side c
  does_its_part System p n m c known accepted circuit =
      let system = system_for laws.sides x f says p n m known accepted.machine accepted.looked_for in
      let accepts = subst (λ side. SideAccepts (automaton_of p) side m) known.of_side accepted.accepted in
      laws.circuits x m c ((laws.sides.systems x f (automaton_of p) m says known.accepts system).0 accepts)
      (record { kind = circuit.kind; runs = circuit.runs }) circuit.inputs circuit.outputs
  does_its_part Environment p n m c known accepted circuit =
      let environment = environment_for_text laws.sides x f says p n m known accepted.machine accepted.looked_for in
      let accepts = subst (λ side. SideAccepts (automaton_of p) side m) known.of_side accepted.accepted in
      laws.counters x m c ((laws.sides.environments x f (automaton_of p) m says known.accepts environment).0 accepts)
      (record { kind = circuit.kind; runs = circuit.runs }) circuit.inputs circuit.outputs
