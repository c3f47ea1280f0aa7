-- Laws of circuits' files: a file without fault states one thing, a file has at most one first fault, and no file has
-- both.
use Rattle.std.specs.Prelude.{◌≡◌, ℕ, List}
use Rattle.aiger_text.specs.declared.faults.CircuitFault.{CircuitFault}
use Rattle.aiger_text.specs.CircuitFile.{File, States, IsFirstFault}

abbrev pub FilesStateOneThing : Type 0
FilesStateOneThing = (bytes : List ℕ) (f g : File) → States bytes f → States bytes g → f ≡ g

abbrev pub FilesHaveOneFault : Type 0
FilesHaveOneFault = (bytes : List ℕ) (f g : CircuitFault) → IsFirstFault bytes f → IsFirstFault bytes g → f ≡ g

abbrev pub FaultsStateNothing : Type 0
FaultsStateNothing = (bytes : List ℕ) (f : File) (fault : CircuitFault) → States bytes f → IsFirstFault bytes fault → ⊥
