use Rattle.std.specs.Prelude.{◌≡◌, ℕ, ◌+◌, ◌-◌, ◌^◌, ◌<◌, ◌≤◌, List, IsTrue, length, map, take, drop, slice_index_or}
use Rattle.letters_and_lassos.specs.declared.letters.Letter.{Letter}
use Rattle.letters_and_lassos.specs.Word.{Word}
use Rattle.machine_model.specs.Automaton.{HasEdge, rejects}
use Rattle.machine_model.specs.Course.{letter_of}
use Rattle.machine_model.specs.Machine.{MachineModel, next_of, size_of}
use Rattle.machine_model.specs.Problem.{automaton_of}
use Rattle.machine_model.specs.declared.problems.Problem.{Problem}
use Rattle.product_bound.specs.declared.laws.ProductStep.{ProductStep}

-- the step at a place of a path, by default the start
abbrev pub step_at : List ProductStep → ℕ → ProductStep
step_at path k = slice_index_or path k (record { t = 0; q = 0; letter = 0 })

-- the second step stands where the first one leads: the machine moves on its letter, and an edge fits the whole letter
pub record Leads (p : Problem) (m : MachineModel) (step after : ProductStep) : Type 0 where
  pub letter : step.letter < 2 ^ m.reads
  pub moves : after.t ≡ next_of m step.t step.letter
  pub edge : HasEdge (automaton_of p) (letter_of p.side m step.t step.letter) step.q after.q

-- a step of the machine's: one of its states, and a letter that it reads
pub record IsStepOf (m : MachineModel) (step : ProductStep) : Type 0 where
  pub state : step.t < size_of m
  pub letter : step.letter < 2 ^ m.reads

-- a path of the product of machine and automaton: it begins at the pair (0, 0), and each step leads to the one after
-- it (bounded synthesis of Finkbeiner and Schewe)
pub record IsProductPath (p : Problem) (m : MachineModel) (path : List ProductStep) : Type 0 where
  pub start_t : (step_at path 0).t ≡ 0
  pub start_q : (step_at path 0).q ≡ 0
  pub leads : (k : ℕ) → k + 1 < length path → Leads p m (step_at path k) (step_at path (k + 1))

-- a path that comes back at its end to the pair at place `from`, and meets a rejecting state from there on
-- (the same source)
pub record IsRejectingCycle (p : Problem) (m : MachineModel) (path : List ProductStep) (from : ℕ) : Type 0 where
  pub steps : IsProductPath p m path
  pub below : from + 1 < length path
  pub back_t : (step_at path (length path - 1)).t ≡ (step_at path from).t
  pub back_q : (step_at path (length path - 1)).q ≡ (step_at path from).q
  pub met : ℕ
  pub met_from : from ≤ met
  pub met_below : met < length path
  pub rejecting : IsTrue (rejects (automaton_of p) (step_at path met).q)

-- the whole letters of steps
abbrev pub letters_of : Problem → MachineModel → List ProductStep → List Letter
letters_of p m steps = map (λ step. letter_of p.side m step.t step.letter) steps

-- the word of a path that comes back to place `from`: what is read and written before `from` once, and then again
-- and again what is read and written up to the end
abbrev pub word_of_cycle : Problem → MachineModel → List ProductStep → ℕ → Word
word_of_cycle p m path from = record {
  stem = letters_of p m (take from path);
  ring = letters_of p m (drop from (take (length path - 1) path));
}

-- the machine's states along the path, the last one left out
abbrev pub states_of_cycle : List ProductStep → List ℕ
states_of_cycle path = map (λ step. step.t) (take (length path - 1) path)
