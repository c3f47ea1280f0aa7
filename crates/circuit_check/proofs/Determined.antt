-- Of a file at most one line is the first bad one, and none where its annotation is valid.
use Rattle.std.proofs.Common.{◌≡◌, ℕ, ◌+◌, Option, Some, None, List, [], length, drop, sym, ap, subst, ◌∙◌}
use Rattle.std.specs.Prelude.{option_map, unwrap_or}
use Rattle.std_lemmas.proofs.Options.{some_same}
use Rattle.aiger_text.specs.declared.faults.CircuitFault.{CircuitFault}
use Rattle.aiger_text.specs.CircuitFile.{File, States}
use Rattle.aiger_text.specs.FileLaws.{FaultsStateNothing, FilesHaveOneFault, FilesStateOneThing}
use Rattle.annot_check.specs.declared.faults.AnnotFault.{AnnotFault}
use Rattle.annot_check.specs.declared.faults.AnnotFault.TheVariants.{NoMemory}
use Rattle.annot_check.proofs.Apart.{causes_are_apart}
use Rattle.document_text.specs.Reading.{fault_line}
use Rattle.circuit_names.specs.Lines.{earliest, faulty_line}
use Rattle.named_annotation.specs.Laws.{NamedReadingsAreApart}
use Rattle.named_annotation.specs.NamedStates.{Named}
use Rattle.circuit_check.specs.Duty.{Owed}
use Rattle.circuit_check.specs.FirstBad.{Annotates, Fits, HasComment, IsBadIn, IsCauseFor, IsFirstBad, IsValidFor, StatesFor, cause_line, comment_of, names_line, no_comment, of_fault, of_line, of_names, of_pairs}
use Rattle.circuit_check.specs.Laws.{FirstBadLinesAreDetermined}

module _ (one_thing : FilesStateOneThing) (one_fault : FilesHaveOneFault) (nothing : FaultsStateNothing) (readings : NamedReadingsAreApart) where
  module _ (owed : Owed) (bytes : List ℕ) where
    -- what two readings of a file find at one and the same place
    no_names_bad : (f g : File) (n : ℕ) → States bytes f → names_line owed f ≡ Some n → Fits owed bytes g → ⊥
    no_names_bad f g n states some fits =
        let same : names_line owed f ≡ names_line owed g = ap (names_line owed) (one_thing bytes f g states fits.states) in
        let fit = fits.fits in absurd (cc)

    not_missing : (f g : File) (comment : List ℕ) → Fits owed bytes f → f.comment_at ≡ None → HasComment owed bytes g comment → ⊥
    not_missing f g comment fits none has =
        let same : comment_of f bytes ≡ comment_of g bytes = ap (λ (x : File). comment_of x bytes) (one_thing bytes f g fits.states has.fitting.states) in
        let no : comment_of f bytes ≡ None = ap (option_map (λ at. drop at bytes)) none in
        let some = has.comment_is in absurd (cc)

    same_file : (f g : File) (c d : List ℕ) → HasComment owed bytes f c → HasComment owed bytes g d → f ≡ g
    same_file f g c d has_c has_d = one_thing bytes f g has_c.fitting.states has_d.fitting.states

    one_comment : (f g : File) (c d : List ℕ) → HasComment owed bytes f c → HasComment owed bytes g d → c ≡ d
    one_comment f g c d has_c has_d =
        let same : comment_of f bytes ≡ comment_of g bytes = ap (λ (x : File). comment_of x bytes) (same_file f g c d has_c has_d) in
        ap (λ (o : Option (List ℕ)). unwrap_or o []) (sym has_c.comment_is ∙ same ∙ has_d.comment_is)

    -- the other's comment and circuit are this one's
    line_moved : (f g : File) (c d : List ℕ) (n : ℕ) → HasComment owed bytes f c → HasComment owed bytes g d → IsBadIn owed g d n → IsBadIn owed f c n
    line_moved f g c d n has_c has_d bad =
        subst (λ (x : List ℕ). IsBadIn owed f x n) (sym (one_comment f g c d has_c has_d))
        (subst (λ (x : File). IsBadIn owed x d n) (sym (same_file f g c d has_c has_d)) bad)

    stated_moved : (f g : File) (c d : List ℕ) (named : Named) → HasComment owed bytes f c → HasComment owed bytes g d → StatesFor owed g d named
        → StatesFor owed f c named
    stated_moved f g c d named has_c has_d states =
        subst (λ (x : List ℕ). StatesFor owed f x named) (sym (one_comment f g c d has_c has_d))
        (subst (λ (x : File). StatesFor owed x d named) (sym (same_file f g c d has_c has_d)) states)

    not_both : (f g : File) (c : List ℕ) (named : Named) (n : ℕ) → HasComment owed bytes f c → IsBadIn owed f c n → Annotates owed bytes g named → ⊥
    not_both f g c named n has bad a =
        readings.apart c (length f.circuit.latches) (length f.circuit.inputs) owed.nodes owed.form named n
        (stated_moved f g c a.comment named has a.commented a.stated) bad

    one_named : (f g : File) (p q : Named) → Annotates owed bytes f p → Annotates owed bytes g q → p ≡ q
    one_named f g p q a b =
        readings.one a.comment (length f.circuit.latches) (length f.circuit.inputs) owed.nodes owed.form p q a.stated
        (stated_moved f g a.comment b.comment q a.commented b.commented b.stated)

    file_of : (f g : File) (p q : Named) → Annotates owed bytes f p → Annotates owed bytes g q → f ≡ g
    file_of f g p q a b = same_file f g a.comment b.comment a.commented b.commented

    one_cause : (f g : File) (p q : Named) (i j : AnnotFault) → Annotates owed bytes f p → Annotates owed bytes g q → (i ≡ NoMemory → ⊥) → (j ≡ NoMemory → ⊥)
        → IsCauseFor owed f p i → IsCauseFor owed g q j → cause_line f p i ≡ cause_line g q j
    one_cause f g p q i j a b some_i some_j cause_i cause_j =
        let file : f ≡ g = file_of f g p q a b in
        let named : p ≡ q = one_named f g p q a b in
        let moved : IsCauseFor owed f p j =
        subst (λ (x : Named). IsCauseFor owed f x j) (sym named) (subst (λ (x : File). IsCauseFor owed x q j) (sym file) cause_j) in
        let fault : i ≡ j = (causes_are_apart f.circuit).one owed.side owed.kind p.automaton p.list.pairs i j cause_i moved some_i some_j in
        λ k. cause_line (file k) (named k) (fault k)

    one_line : (n m : ℕ) → IsFirstBad owed bytes n → IsFirstBad owed bytes m → n ≡ m
    one_line _ _ (of_fault i n first is) (of_fault j m other also) =
        some_same (earliest (Some (fault_line i)) (faulty_line owed.names bytes)) n m is
        (ap (λ (x : CircuitFault). earliest (Some (fault_line x)) (faulty_line owed.names bytes)) (one_fault bytes i j first other) ∙ also)
    one_line _ _ (of_fault i n first is) (of_names g m states some) = absurd (nothing bytes g i states first)
    one_line _ _ (of_fault i n first is) (no_comment g fits none) = absurd (nothing bytes g i fits.states first)
    one_line _ _ (of_fault i n first is) (of_line g d m has bad) = absurd (nothing bytes g i has.fitting.states first)
    one_line _ _ (of_fault i n first is) (of_pairs g q j b some cause) = absurd (nothing bytes g i b.commented.fitting.states first)
    one_line _ _ (of_names f n states some) (of_fault j m other also) = absurd (nothing bytes f j states other)
    one_line _ _ (of_names f n states some) (of_names g m others also) =
        some_same (names_line owed f) n m some (ap (names_line owed) (one_thing bytes f g states others) ∙ also)
    one_line _ _ (of_names f n states some) (no_comment g fits none) = absurd (no_names_bad f g n states some fits)
    one_line _ _ (of_names f n states some) (of_line g d m has bad) = absurd (no_names_bad f g n states some has.fitting)
    one_line _ _ (of_names f n states some) (of_pairs g q j b any cause) = absurd (no_names_bad f g n states some b.commented.fitting)
    one_line _ _ (no_comment f fits none) (of_fault j m other also) = absurd (nothing bytes f j fits.states other)
    one_line _ _ (no_comment f fits none) (of_names g m others also) = absurd (no_names_bad g f m others also fits)
    one_line _ _ (no_comment f fits none) (no_comment g others also) = ap (λ (x : File). x.comment_line) (one_thing bytes f g fits.states others.states)
    one_line _ _ (no_comment f fits none) (of_line g d m has bad) = absurd (not_missing f g d fits none has)
    one_line _ _ (no_comment f fits none) (of_pairs g q j b some cause) = absurd (not_missing f g b.comment fits none b.commented)
    one_line _ _ (of_line f c n has bad) (of_fault j m other also) = absurd (nothing bytes f j has.fitting.states other)
    one_line _ _ (of_line f c n has bad) (of_names g m others also) = absurd (no_names_bad g f m others also has.fitting)
    one_line _ _ (of_line f c n has bad) (no_comment g others none) = absurd (not_missing g f c others none has)
    one_line _ _ (of_line f c n has bad) (of_line g d m other also) =
        let file : f ≡ g = same_file f g c d has other in
        let line : n ≡ m = readings.one_line c (length f.circuit.latches) (length f.circuit.inputs) owed.nodes owed.form n m bad (line_moved f g c d m has other also) in
        λ k. (file k).comment_line + line k
    one_line _ _ (of_line f c n has bad) (of_pairs g q j b some cause) = absurd (not_both f g c q n has bad b)
    one_line _ _ (of_pairs f p i a some cause) (of_fault j m other also) = absurd (nothing bytes f j a.commented.fitting.states other)
    one_line _ _ (of_pairs f p i a some cause) (of_names g m others also) = absurd (no_names_bad g f m others also a.commented.fitting)
    one_line _ _ (of_pairs f p i a some cause) (no_comment g others none) = absurd (not_missing g f a.comment others none a.commented)
    one_line _ _ (of_pairs f p i a some cause) (of_line g d m other also) = absurd (not_both g f d p m other also a)
    one_line _ _ (of_pairs f p i a some cause) (of_pairs g q j b any also) = one_cause f g p q i j a b some any cause also

    valid_has_none : (g : File) (q : Named) (n : ℕ) → Annotates owed bytes g q → IsValidFor owed g q → IsFirstBad owed bytes n → ⊥
    valid_has_none g q _ b valid (of_fault i n first is) = nothing bytes g i b.commented.fitting.states first
    valid_has_none g q _ b valid (of_names f n states some) = no_names_bad f g n states some b.commented.fitting
    valid_has_none g q _ b valid (no_comment f fits none) = not_missing f g b.comment fits none b.commented
    valid_has_none g q _ b valid (of_line f c n has bad) = not_both f g c q n has bad b
    valid_has_none g q _ b valid (of_pairs f p i a some cause) =
        some ((causes_are_apart f.circuit).valid owed.side owed.kind p.automaton p.list.pairs i
        (subst (λ (x : Named). IsValidFor owed f x) (sym (one_named f g p q a b)) (subst (λ (x : File). IsValidFor owed x q) (sym (file_of f g p q a b)) valid)) cause)

  pub determined : FirstBadLinesAreDetermined
  unfolding one_line valid_has_none
  determined = record {
    one_line = λ owed bytes n m first other. one_line owed bytes n m first other;
    valid_has_none = λ owed bytes file named n annotates valid first. valid_has_none owed bytes file named n annotates valid first;
  }
