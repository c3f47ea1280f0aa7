-- Of a file at most one line is the first bad one, and none where its annotation is valid.
use Rattle.std.proofs.Common.{◌≡◌, ℕ, ◌+◌, Option, Some, None, List, [], length, drop, sym, ap, subst, ◌∙◌}
use Rattle.std.specs.Prelude.{option_map, unwrap_or}
use Rattle.std_lemmas.proofs.Options.{some_same}
use Rattle.letters_and_lassos.specs.declared.kinds.Kind.{Kind}
use Rattle.letters_and_lassos.specs.declared.kinds.Side.TheVariants.{System}
use Rattle.machine_model.specs.declared.problems.Problem.{Problem}
use Rattle.machine_model.specs.Automaton.{AutomatonModel, states_of}
use Rattle.machine_model.specs.Problem.{automaton_of}
use Rattle.aiger_text.specs.declared.faults.CircuitFault.{CircuitFault}
use Rattle.aiger_text.specs.CircuitFile.{File, States}
use Rattle.aiger_text.specs.FileLaws.{FaultsStateNothing, FilesHaveOneFault, FilesStateOneThing}
use Rattle.annot_check.specs.declared.faults.AnnotFault.{AnnotFault}
use Rattle.annot_check.specs.declared.faults.AnnotFault.TheVariants.{NoMemory}
use Rattle.annot_check.specs.AnnotationText.{IsFirstBadAnnotationLine, StatesPairs}
use Rattle.annot_check.specs.Causes.{IsCause}
use Rattle.annot_check.specs.Pairs.{Listed}
use Rattle.annot_check.specs.Stated.{ReadingsAreApart}
use Rattle.annot_check.proofs.Apart.{causes_are_apart}
use Rattle.document_text.specs.Reading.{fault_line}
use Rattle.document_check.specs.Facts.{Facts}
use Rattle.circuit_names.specs.Lines.{earliest}
use Rattle.document_check.specs.FirstBad.{faulty_line, stated_line}
use Rattle.verify_answer.specs.FirstBad.{Annotates, FitsText, HasComment, IsFirstBadOfCircuit, IsValidFor, cause_line, comment_of, no_comment, of_fault, of_line, of_names, of_pairs, over}

module _ (one_thing : FilesStateOneThing) (one_fault : FilesHaveOneFault) (nothing : FaultsStateNothing) (readings : ReadingsAreApart) where
  module _ (facts : Facts) (bytes : List ℕ) where
    -- what two readings of a file find at one and the same place
    no_names_bad : (f g : File) (n : ℕ) → States bytes f → stated_line facts System f ≡ Some n → FitsText facts bytes g → ⊥
    no_names_bad f g n states some fits =
        let same : stated_line facts System f ≡ stated_line facts System g = ap (stated_line facts System) (one_thing bytes f g states fits.states) in
        let fit = fits.fits in absurd (cc)

    not_missing : (f g : File) (comment : List ℕ) → FitsText facts bytes f → f.comment_at ≡ None → HasComment facts bytes g comment → ⊥
    not_missing f g comment fits none has =
        let same : comment_of f bytes ≡ comment_of g bytes = ap (λ (x : File). comment_of x bytes) (one_thing bytes f g fits.states has.of_text.states) in
        let no : comment_of f bytes ≡ None = ap (option_map (λ at. drop at bytes)) none in
        let some = has.comment_is in absurd (cc)

    one_comment : (f g : File) (c d : List ℕ) → HasComment facts bytes f c → HasComment facts bytes g d → c ≡ d
    one_comment f g c d has_c has_d =
        let same : comment_of f bytes ≡ comment_of g bytes = ap (λ (x : File). comment_of x bytes) (one_thing bytes f g has_c.of_text.states has_d.of_text.states) in
        ap (λ (o : Option (List ℕ)). unwrap_or o []) (sym has_c.comment_is ∙ same ∙ has_d.comment_is)

    same_file : (f g : File) (c d : List ℕ) → HasComment facts bytes f c → HasComment facts bytes g d → f ≡ g
    same_file f g c d has_c has_d = one_thing bytes f g has_c.of_text.states has_d.of_text.states

    -- the other's comment and latches are this one's
    line_moved : (f g : File) (c d : List ℕ) (n : ℕ) → HasComment facts bytes f c → HasComment facts bytes g d
        → IsFirstBadAnnotationLine d (length g.circuit.latches) (states_of (over facts)) n → IsFirstBadAnnotationLine c (length f.circuit.latches) (states_of (over facts)) n
    line_moved f g c d n has_c has_d bad =
        subst (λ (x : List ℕ). IsFirstBadAnnotationLine x (length f.circuit.latches) (states_of (over facts)) n) (sym (one_comment f g c d has_c has_d))
        (subst (λ (x : File). IsFirstBadAnnotationLine d (length x.circuit.latches) (states_of (over facts)) n) (sym (same_file f g c d has_c has_d)) bad)

    pairs_moved : (f g : File) (c d : List ℕ) (list : Listed) → HasComment facts bytes f c → HasComment facts bytes g d
        → StatesPairs d (length g.circuit.latches) (states_of (over facts)) list → StatesPairs c (length f.circuit.latches) (states_of (over facts)) list
    pairs_moved f g c d list has_c has_d states =
        subst (λ (x : List ℕ). StatesPairs x (length f.circuit.latches) (states_of (over facts)) list) (sym (one_comment f g c d has_c has_d))
        (subst (λ (x : File). StatesPairs d (length x.circuit.latches) (states_of (over facts)) list) (sym (same_file f g c d has_c has_d)) states)

    not_both : (f g : File) (c : List ℕ) (list : Listed) (n : ℕ) → HasComment facts bytes f c
        → IsFirstBadAnnotationLine c (length f.circuit.latches) (states_of (over facts)) n → Annotates facts bytes g list → ⊥
    not_both f g c list n has bad a =
        readings.apart c (length f.circuit.latches) (states_of (over facts)) list n
        (pairs_moved f g c a.comment list has a.commented a.pairs) bad

    one_list : (f g : File) (p q : Listed) → Annotates facts bytes f p → Annotates facts bytes g q → p ≡ q
    one_list f g p q a b =
        readings.one_list a.comment (length f.circuit.latches) (states_of (over facts)) p q a.pairs
        (pairs_moved f g a.comment b.comment q a.commented b.commented b.pairs)

    file_of : (f g : File) (p q : Listed) → Annotates facts bytes f p → Annotates facts bytes g q → f ≡ g
    file_of f g p q a b = same_file f g a.comment b.comment a.commented b.commented

    one_cause : (f g : File) (p q : Listed) (i j : AnnotFault) → Annotates facts bytes f p → Annotates facts bytes g q → (i ≡ NoMemory → ⊥) → (j ≡ NoMemory → ⊥)
        → IsCause System f.circuit facts.system.kind (over facts) p.pairs i → IsCause System g.circuit facts.system.kind (over facts) q.pairs j → cause_line f p i ≡ cause_line g q j
    one_cause f g p q i j a b some_i some_j cause_i cause_j =
        let file : f ≡ g = file_of f g p q a b in
        let list : p ≡ q = one_list f g p q a b in
        let moved : IsCause System f.circuit facts.system.kind (over facts) p.pairs j =
        subst (λ (x : Listed). IsCause System f.circuit facts.system.kind (over facts) x.pairs j) (sym list)
        (subst (λ (x : File). IsCause System x.circuit facts.system.kind (over facts) q.pairs j) (sym file) cause_j) in
        let fault : i ≡ j = (causes_are_apart f.circuit).one System facts.system.kind (over facts) p.pairs i j cause_i moved some_i some_j in
        λ k. cause_line (file k) (list k) (fault k)

    pub one_line : (n m : ℕ) → IsFirstBadOfCircuit facts bytes n → IsFirstBadOfCircuit facts bytes m → n ≡ m
    one_line _ _ (of_fault i n first is) (of_fault j m other also) =
        some_same (earliest (Some (fault_line i)) (faulty_line facts bytes)) n m is
        (ap (λ (x : CircuitFault). earliest (Some (fault_line x)) (faulty_line facts bytes)) (one_fault bytes i j first other) ∙ also)
    one_line _ _ (of_fault i n first is) (of_names g m states some) = absurd (nothing bytes g i states first)
    one_line _ _ (of_fault i n first is) (no_comment g fits none) = absurd (nothing bytes g i fits.states first)
    one_line _ _ (of_fault i n first is) (of_line g d m has bad) = absurd (nothing bytes g i has.of_text.states first)
    one_line _ _ (of_fault i n first is) (of_pairs g q j b some cause) = absurd (nothing bytes g i b.commented.of_text.states first)
    one_line _ _ (of_names f n states some) (of_fault j m other also) = absurd (nothing bytes f j states other)
    one_line _ _ (of_names f n states some) (of_names g m others also) =
        some_same (stated_line facts System f) n m some (ap (stated_line facts System) (one_thing bytes f g states others) ∙ also)
    one_line _ _ (of_names f n states some) (no_comment g fits none) = absurd (no_names_bad f g n states some fits)
    one_line _ _ (of_names f n states some) (of_line g d m has bad) = absurd (no_names_bad f g n states some has.of_text)
    one_line _ _ (of_names f n states some) (of_pairs g q j b any cause) = absurd (no_names_bad f g n states some b.commented.of_text)
    one_line _ _ (no_comment f fits none) (of_fault j m other also) = absurd (nothing bytes f j fits.states other)
    one_line _ _ (no_comment f fits none) (of_names g m others also) = absurd (no_names_bad g f m others also fits)
    one_line _ _ (no_comment f fits none) (no_comment g others also) = ap (λ (x : File). x.comment_line) (one_thing bytes f g fits.states others.states)
    one_line _ _ (no_comment f fits none) (of_line g d m has bad) = absurd (not_missing f g d fits none has)
    one_line _ _ (no_comment f fits none) (of_pairs g q j b some cause) = absurd (not_missing f g b.comment fits none b.commented)
    one_line _ _ (of_line f c n has bad) (of_fault j m other also) = absurd (nothing bytes f j has.of_text.states other)
    one_line _ _ (of_line f c n has bad) (of_names g m others also) = absurd (no_names_bad g f m others also has.of_text)
    one_line _ _ (of_line f c n has bad) (no_comment g others none) = absurd (not_missing g f c others none has)
    one_line _ _ (of_line f c n has bad) (of_line g d m other also) =
        let file : f ≡ g = same_file f g c d has other in
        let line : n ≡ m = readings.one_line c (length f.circuit.latches) (states_of (over facts)) n m bad (line_moved f g c d m has other also) in
        λ k. (file k).comment_line + line k
    one_line _ _ (of_line f c n has bad) (of_pairs g q j b some cause) = absurd (not_both f g c q n has bad b)
    one_line _ _ (of_pairs f p i a some cause) (of_fault j m other also) = absurd (nothing bytes f j a.commented.of_text.states other)
    one_line _ _ (of_pairs f p i a some cause) (of_names g m others also) = absurd (no_names_bad g f m others also a.commented.of_text)
    one_line _ _ (of_pairs f p i a some cause) (no_comment g others none) = absurd (not_missing g f a.comment others none a.commented)
    one_line _ _ (of_pairs f p i a some cause) (of_line g d m other also) = absurd (not_both g f d p m other also a)
    one_line _ _ (of_pairs f p i a some cause) (of_pairs g q j b any also) = one_cause f g p q i j a b some any cause also

    pub valid_has_none : (g : File) (q : Listed) (n : ℕ) → Annotates facts bytes g q → IsValidFor facts g q → IsFirstBadOfCircuit facts bytes n → ⊥
    valid_has_none g q _ b valid (of_fault i n first is) = nothing bytes g i b.commented.of_text.states first
    valid_has_none g q _ b valid (of_names f n states some) = no_names_bad f g n states some b.commented.of_text
    valid_has_none g q _ b valid (no_comment f fits none) = not_missing f g b.comment fits none b.commented
    valid_has_none g q _ b valid (of_line f c n has bad) = not_both f g c q n has bad b
    valid_has_none g q _ b valid (of_pairs f p i a some cause) =
        some ((causes_are_apart f.circuit).valid System facts.system.kind (over facts) p.pairs i
        (subst (λ (x : Listed). IsValidFor facts f x) (sym (one_list f g p q a b)) (subst (λ (x : File). IsValidFor facts x q) (sym (file_of f g p q a b)) valid)) cause)

-- == facts that say the same ==

module _ (inputs outputs : List (List ℕ)) (s t : Problem) (e f : Option Problem) (same_kind : s.kind ≡ t.kind) (same_automaton : automaton_of s ≡ automaton_of t) (bytes : List ℕ) where
  abbrev one : Facts
  one = record { inputs = inputs; outputs = outputs; system = s; environment = e }

  abbrev other : Facts
  other = record { inputs = inputs; outputs = outputs; system = t; environment = f }

  fits_moved : (file : File) → FitsText one bytes file → FitsText other bytes file
  fits_moved file fits = record { states = fits.states; fits = fits.fits }

  comment_moved : (file : File) (comment : List ℕ) → HasComment one bytes file comment → HasComment other bytes file comment
  comment_moved file comment has = record { of_text = fits_moved file has.of_text; comment_is = has.comment_is }

  pub annotates_moved : (file : File) (list : Listed) → Annotates one bytes file list → Annotates other bytes file list
  annotates_moved file list a = record {
    comment = a.comment;
    commented = comment_moved file a.comment a.commented;
    pairs = subst (λ (x : AutomatonModel). StatesPairs a.comment (length file.circuit.latches) (states_of x) list) same_automaton a.pairs;
  }

  pub first_moved : (n : ℕ) → IsFirstBadOfCircuit one bytes n → IsFirstBadOfCircuit other bytes n
  first_moved _ (of_fault fault n first is) = of_fault fault n first is
  first_moved _ (of_names file n states some) = of_names file n states some
  first_moved _ (no_comment file fits none) = no_comment file (fits_moved file fits) none
  first_moved _ (of_line file comment n has bad) =
      of_line file comment n (comment_moved file comment has)
      (subst (λ (x : AutomatonModel). IsFirstBadAnnotationLine comment (length file.circuit.latches) (states_of x) n) same_automaton bad)
  first_moved _ (of_pairs file list fault a some cause) =
      of_pairs file list fault (annotates_moved file list a) some
      (subst (λ (k : Kind). IsCause System file.circuit k (automaton_of t) list.pairs fault) same_kind
      (subst (λ (x : AutomatonModel). IsCause System file.circuit s.kind x list.pairs fault) same_automaton cause))
