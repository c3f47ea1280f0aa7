use Rattle.std.proofs.Common.{◌≡◌, ℕ, ◌+◌, ◌<◌, ◌≤◌, Option, Some, None, refl, sym, ap, subst, arith}
use Rattle.text_limits.specs.declared.TheConstants.{SMALL_LIMITS}
use Rattle.letters_and_lassos.specs.declared.kinds.Side.{Side}
use Rattle.machine_model.specs.Machine.{MachineModel, size_of}
use Rattle.size_board.specs.Names.{Named, IsSearchable, SideHas, sizes_of, sought_by, sought_of}
use Rattle.machine_model.specs.Problem.{IsProblem, sized}
use Rattle.machine_model.specs.declared.problems.Problem.{Problem}
use Rattle.std.specs.Option.{option_map_or}
use Rattle.size_board.specs.Board.{BoardModel, IsSoundBoard, high_of, machine_of}
use Rattle.size_board.specs.Laws.{BoundsAreTrue, HasHigh, SoughtIsProblem, SoughtOfProblem}

has_high : (names : Named) (b : BoardModel) (side : Side) (o : Option MachineModel) → machine_of b side ≡ o → IsSoundBoard names b → high_of names b side ≤ sizes_of names side → HasHigh names b side
has_high names b side None is sound h =
    let e : high_of names b side ≡ sizes_of names side + 1 = ap (λ x. option_map_or size_of x (sizes_of names side + 1)) is in
    absurd (omega (arith, e, h))
has_high names b side (Some m) is sound h =
    let e : high_of names b side ≡ size_of m = ap (λ x. option_map_or size_of x (sizes_of names side + 1)) is in
    record { machine = m; kept = is; size = sym e; accepted = subst (λ (n : ℕ). SideHas (sought_by names side) n m) (sym e) (sound.kept side m is).accepted }

pub bounds_are_true : BoundsAreTrue
bounds_are_true names b side low sound least = record {
  below = λ n some less. sound.refuted side n (least.below n some less);
  high = λ h. has_high names b side (machine_of b side) refl sound h;
}

pub sought_of_problem : SoughtOfProblem
sought_of_problem p m = (
  λ is. (is.machine, record { kind = is.kind; size = is.size; reads = is.reads; writes = is.writes }, is.accepted),
  λ is. record { machine = is.0; kind = is.1.kind; size = is.1.size; reads = is.1.reads; writes = is.1.writes; accepted = is.2 },
)

pub sized_problem : (p : Problem) (n : ℕ) → IsSearchable (sought_of p) → 0 < n → n ≤ SMALL_LIMITS.machine → IsProblem (sized p n)
sized_problem p n s some few = record {
  inputs = s.inputs;
  outputs = s.outputs;
  some = some;
  size = few;
  states = s.states;
  signals = s.signals;
  counting = s.counting;
}

pub searchable : (p : Problem) → IsProblem p → IsSearchable (sought_of p)
searchable p is = record {
  inputs = is.inputs;
  outputs = is.outputs;
  states = is.states;
  signals = is.signals;
  counting = is.counting;
}

pub sought_is_problem : SoughtIsProblem
sought_is_problem = record {
  searchable = searchable;
  problem = sized_problem;
  parts = λ p q same size. λ i. record {
    automaton = (same i).automaton;
    inputs = (same i).inputs;
    outputs = (same i).outputs;
    side = (same i).side;
    kind = (same i).kind;
    size = size i;
    counting = (same i).counting;
  };
}
