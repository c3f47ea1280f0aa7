-- A problem with the parts of another one.
use Rattle.std.proofs.Common.{◌≡◌, subst}
use Rattle.machine_model.specs.Machine.{MachineModel}
use Rattle.machine_model.specs.Problem.{AreAlike, IsMachineOf, IsProblem, Parts, parts_of}
use Rattle.machine_model.specs.declared.problems.Problem.{Problem}

-- these parts, with the automaton kept where that of the problem is
abbrev pub kept_at : Problem → Parts → Problem
kept_at p parts = record {
  automaton = record { ptr = p.automaton.ptr; value = parts.automaton };
  inputs = parts.inputs;
  outputs = parts.outputs;
  side = parts.side;
  kind = parts.kind;
  size = parts.size;
  counting = parts.counting;
}

same_limits : (p q : Problem) → parts_of p ≡ parts_of q → IsProblem p → IsProblem q
same_limits p q same problem =
    let there : IsProblem (kept_at p (parts_of q)) = subst (λ parts. IsProblem (kept_at p parts)) same (record {
      inputs = problem.inputs;
      outputs = problem.outputs;
      some = problem.some;
      size = problem.size;
      states = problem.states;
      signals = problem.signals;
      counting = problem.counting;
    }) in
    record {
      inputs = there.inputs;
      outputs = there.outputs;
      some = there.some;
      size = there.size;
      states = there.states;
      signals = there.signals;
      counting = there.counting;
    }

same_machines : (p q : Problem) → parts_of p ≡ parts_of q → (m : MachineModel) → IsMachineOf p m → IsMachineOf q m
same_machines p q same m fits =
    let there : IsMachineOf (kept_at p (parts_of q)) m = subst (λ parts. IsMachineOf (kept_at p parts) m) same fits in
    record {
      kind = there.kind;
      size = there.size;
      reads = there.reads;
      writes = there.writes;
    }

pub alike : (p q : Problem) → parts_of p ≡ parts_of q → AreAlike p q
alike p q same = record { problem = same_limits p q same; machines = same_machines p q same }
