use Rattle.std.specs.Prelude.{◌≡◌, ℕ, ◌+◌, ◌<◌, List, ◌++◌, All, drop, length}
use Rattle.letters_and_lassos.specs.declared.kinds.Kind.TheVariants.{Moore}
use Rattle.letters_and_lassos.specs.declared.kinds.Side.{Side}
use Rattle.letters_and_lassos.specs.Word.{Word, HasRing, IsLassoOver, SameWord, nth_letter, unrolled_of}
use Rattle.machine_model.specs.Machine.{MachineModel, IsMachine, size_of}
use Rattle.machine_model.specs.Run.{IsRunLasso, read_lasso, written_part}
use Rattle.machine_model.specs.Automaton.{AutomatonModel}
use Rattle.machine_model.specs.Accepts.{Accepts}

-- a run lasso whose read part is the same word as the given lasso of read letters
pub record HasRunOn (m : MachineModel) (side : Side) (reads : Word) : Type 0 where
  pub word : Word
  pub states : List ℕ
  pub run : IsRunLasso m side word states
  pub same : SameWord (read_lasso side m word) reads

-- every lasso of read letters is the read part, as a word, of a run lasso
abbrev pub EveryReadLassoHasARun : Type 0
EveryReadLassoHasARun = (m : MachineModel) (side : Side) (reads : Word) → IsMachine m → IsLassoOver m.reads reads → HasRunOn m side reads

-- two run lassos of one machine on the same word of read letters are the same word
abbrev pub RunsAreDetermined : Type 0
RunsAreDetermined =
    (m : MachineModel) (side : Side) (v w : Word) (s t : List ℕ) → IsRunLasso m side v s → IsRunLasso m side w t
    → SameWord (read_lasso side m v) (read_lasso side m w) → SameWord v w

-- what a Moore machine writes at step j of a run depends on what it read before step j alone
abbrev pub MooreWritesBeforeReading : Type 0
MooreWritesBeforeReading =
    (m : MachineModel) (side : Side) (v w : Word) (s t : List ℕ) (j : ℕ) → IsMachine m → m.kind ≡ Moore
    → IsRunLasso m side v s → IsRunLasso m side w t
    → ((k : ℕ) → k < j → nth_letter (read_lasso side m v) k ≡ nth_letter (read_lasso side m w) k)
    → written_part side m (nth_letter v j) ≡ written_part side m (nth_letter w j)

-- a run lasso's letters have signals of the machine alone, and its states are the machine's
pub record StaysWithin (m : MachineModel) (w : Word) (states : List ℕ) : Type 0 where
  pub letters : IsLassoOver (m.reads + m.writes) w
  pub in_range : All (λ t. t < size_of m) states

abbrev pub RunsStayWithin : Type 0
RunsStayWithin =
    (m : MachineModel) (side : Side) (w : Word) (states : List ℕ) → IsMachine m → IsRunLasso m side w states
    → StaysWithin m w states

-- a run lasso with one more copy of its ring, and of the ring's states, is a run lasso
abbrev pub RunsUnroll : Type 0
RunsUnroll =
    (m : MachineModel) (side : Side) (w : Word) (states : List ℕ) → IsRunLasso m side w states
    → IsRunLasso m side (unrolled_of w) (states ++ drop (length w.stem) states)

-- a lasso that is the same word as an accepted one is accepted
abbrev pub AcceptanceIsOfTheWord : Type 0
AcceptanceIsOfTheWord =
    (a : AutomatonModel) (v w : Word) → HasRing v → HasRing w → SameWord v w → Accepts a v → Accepts a w

-- of two run lassos of one machine on the same word of read letters, either both are accepted or none
abbrev pub AcceptanceIsOfTheReadWord : Type 0
AcceptanceIsOfTheReadWord =
    (a : AutomatonModel) (m : MachineModel) (side : Side) (v w : Word) (s t : List ℕ) → IsRunLasso m side v s
    → IsRunLasso m side w t → SameWord (read_lasso side m v) (read_lasso side m w) → Accepts a v → Accepts a w
