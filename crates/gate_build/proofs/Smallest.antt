-- A smallest machine meets all of its states, and the states that a machine meets are those of either side.
use Rattle.std.proofs.Common.{◌≡◌, ℕ, ◌<◌, ◌≤◌, List, [], ◌∷◌, get_or, inl, inr, refl, subst, ◌∙◌, arith}
use Rattle.std.specs.Prelude.{Contains}
use Rattle.std.proofs.lemmas.Bool.{cases_lt}
use Rattle.std.proofs.lemmas.List.{get_or_default}
use Rattle.letters_and_lassos.specs.declared.kinds.Side.{Side}
use Rattle.letters_and_lassos.specs.declared.kinds.Side.TheVariants.{System}
use Rattle.machine_model.specs.Accepts.{SideAccepts}
use Rattle.machine_model.specs.Machine.{IsMachine, MachineModel, size_of}
use Rattle.machine_model.specs.Problem.{IsMachineOf, automaton_of, sized}
use Rattle.machine_model.proofs.Tables.{size_pos}
use Rattle.gate_build.specs.Laws.{EitherSideMeetsTheStates, HasCut, IsMetFor, MeetsStates, MeetsStatesFor, SmallestMeetsAllStates}
use Rattle.gate_build.proofs.Cuts.{machines_can_be_cut}
use Rattle.gate_build.proofs.Listing.{IsComplete, all_there, complete, listed_first, met_of_reached}

pub smallest_meets_all : SmallestMeetsAllStates
smallest_meets_all p m smallest =
    let has : HasCut m = machines_can_be_cut m smallest.made in
    let few : size_of has.cut ≤ size_of m = has.few in
    let some : 0 < size_of has.cut = size_pos has.cut has.is_machine.shape in
    let fits : IsMachineOf (sized p (size_of has.cut)) has.cut = record {
      kind = has.kind ∙ smallest.looked_for.kind;
      size = refl;
      reads = has.reads ∙ smallest.looked_for.reads;
      writes = has.writes ∙ smallest.looked_for.writes;
    } in
    let accepts : SideAccepts (automaton_of p) p.side has.cut = λ w run word. smallest.accepted w ((has.runs p.side w).0 run) word in
    elim (cases_lt (size_of has.cut) (size_of m)) [
      | inl less ↦ absurd (smallest.none_smaller (size_of has.cut) has.cut (omega arith) less has.is_machine fits accepts)
      | inr not_less ↦ let same : size_of has.cut ≡ size_of m = omega (arith, not_less) in subst (λ (n : ℕ). MeetsStates m n) same has.meets
    ]

module _ (m : MachineModel) (machine : IsMachine m) where
  states : (xs : List ℕ) × IsComplete m machine xs
  states = complete m machine (size_of m) (0 ∷ []) (listed_first m machine) (omega arith)

  -- a state that is met as one side is met as the other
  as_other : (one other : Side) (state : ℕ) → IsMetFor one m state → IsMetFor other m state
  as_other one other state met =
      let there : Contains states.0 state = all_there m machine states.0 states.1 one state met in
      subst (λ (t : ℕ). IsMetFor other m t) (get_or_default states.0 there.0 0 state there.1 ∙ there.2)
      (met_of_reached m machine other (get_or states.0 there.0 0) (states.1.listed.reached there.0 there.1))

  as_many : (one other : Side) (n : ℕ) → MeetsStatesFor one m n → MeetsStatesFor other m n
  as_many one other n all = record {
    states = all.states;
    count = all.count;
    different = all.different;
    each_met = λ k d h. as_other one other (get_or all.states k d) (all.each_met k d h);
    all_there = λ state met. all.all_there state (as_other other one state met);
  }

pub either_side_meets : EitherSideMeetsTheStates
either_side_meets m machine = record {
  met = λ side state. (as_other m machine side System state, as_other m machine System side state);
  number = λ side n. (as_many m machine side System n, as_many m machine System side n);
}
