-- Whether bytes are a document of version 6.
use Rattle.std.proofs.Common.{◌≡◌, ℕ, true, false, Some, None, List, drop, sym, ap, subst, ◌∙◌, true≢false}
use Rattle.std_lemmas.proofs.Options.{some_none, some_same}
use Rattle.aiger_text.specs.declared.faults.CircuitFault.{CircuitFault}
use Rattle.aiger_text.specs.CircuitFile.{File, IsFirstFault}
use Rattle.aiger_text.specs.CircuitFile as circuit
use Rattle.aiger_text.proofs.FileFacts.{files_state_one_thing, faults_state_nothing}
use Rattle.solved_text.specs.Reading.{IsSixth, alone, commented, begins_sixth}

module _ (bytes : List ℕ) (not_first : begins_sixth bytes ≡ false) where
  pub not_of_fault : (fault : CircuitFault) → IsFirstFault bytes fault → IsSixth bytes → ⊥
  not_of_fault fault x (alone e) = absurd (true≢false (sym e ∙ not_first))
  not_of_fault fault x (commented file at s n e) = absurd (faults_state_nothing bytes file fault s x)

  module _ (file : File) (states : circuit.States bytes file) where
    pub not_uncommented : file.comment_at ≡ None → IsSixth bytes → ⊥
    not_uncommented none (alone e) = absurd (true≢false (sym e ∙ not_first))
    not_uncommented none (commented other at s n e) =
        absurd (some_none other.comment_at at n (ap (λ (f : File). f.comment_at) (files_state_one_thing bytes other file s states) ∙ none))

    pub by_comment : (at : ℕ) → file.comment_at ≡ Some at → IsSixth bytes → begins_sixth (drop at bytes) ≡ true
    by_comment at some (alone e) = absurd (true≢false (sym e ∙ not_first))
    by_comment at some (commented other place s n e) =
        let same : place ≡ at = some_same other.comment_at place at n (ap (λ (f : File). f.comment_at) (files_state_one_thing bytes other file s states) ∙ some) in
        subst (λ (n : ℕ). begins_sixth (drop n bytes) ≡ true) same e
