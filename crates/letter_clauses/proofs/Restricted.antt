-- What an annotated machine does on the letters of a list, with its states numbered as the rows over these first name them.
use Rattle.std.proofs.Common.{◌≡◌, ℕ, ◌+◌, ◌*◌, ◌/◌, ◌%◌, ◌^◌, ◌<◌, ◌≤◌, inl, inr, List, Option, Some, None, length, get_or, cond, refl, sym, ap, ◌∙◌, subst, arith}
use Rattle.std.specs.Prelude.{nat_lt}
use Rattle.std.proofs.Math.Nat.{mod-lt}
use Rattle.std.proofs.lemmas.Bool.{cases_lt, cond-true, cond-false, le-ltb}
use Rattle.std.proofs.lemmas.Bool.Decides.{Decides-ltb}
use Rattle.std.proofs.lemmas.Nat.{div-mul-add, mod-mul-add, pow_pos}
use Rattle.letters_and_lassos.specs.declared.kinds.Kind.{Kind}
use Rattle.letters_and_lassos.specs.declared.kinds.Kind.TheVariants.{Mealy, Moore}
use Rattle.machine_model.specs.Automaton.{HasEdge, states_of}
use Rattle.machine_model.specs.Course.{letter_of}
use Rattle.machine_model.specs.Machine.{IsMachine, MachineModel, next_of, size_of, writes_of}
use Rattle.machine_model.specs.Problem as looked_for
use Rattle.machine_model.specs.Problem.{IsMachineOf, automaton_of}
use Rattle.machine_model.specs.Run.{joined_letter}
use Rattle.machine_model.specs.declared.problems.Problem.{Problem}
use Rattle.product_bound.specs.Annotation.{HasNumber, IsValidAnnotation, number_after, number_at, start_number}
use Rattle.product_bound.specs.Numbered.{place_in}
use Rattle.product_bound.proofs.Places.{at_place}
use Rattle.annotation_encode.specs.Variables.{write_place}
use Rattle.annotation_encode.proofs.Letters.{joined_at}
use Rattle.annotation_encode.proofs.Meets.{joined_same, reads_same, writes_same}
use Rattle.letter_clauses.specs.Letters.{IsLetterProblem, letter_at}
use Rattle.letter_clauses.specs.Variables.{row_count, row_place}
use Rattle.letter_clauses.proofs.Renumbered.{Earlier, IsRenumbered, led, moved}
use Rattle.letter_clauses.proofs.Tables.{HasPairNumber, HasRowBefore, IsTable}

-- the state after state t on the letter at place k
abbrev pub next_on : MachineModel → List ℕ → ℕ → ℕ → ℕ
next_on m letters t k = next_of m t (letter_at letters k)

-- what is written at a place of writes, by states that are named
abbrev pub written_on : Kind → MachineModel → List ℕ → List ℕ → ℕ → ℕ
written_on Mealy m letters named place = cond (nat_lt (place / length letters) (length named)) (writes_of m (get_or named (place / length letters) 0) (letter_at letters (place % length letters))) 0
written_on Moore m letters named place = cond (nat_lt place (length named)) (writes_of m (get_or named place 0) 0) 0

-- the number of a pair of a state that is named
abbrev pub number_on : Problem → List (Option ℕ) → List ℕ → ℕ → ℕ → Option ℕ
number_on p numbers named t q = cond (nat_lt t (length named)) (number_at p numbers (get_or named t 0) q) None

no_number : (c : ℕ) → None ≡ Some c → ⊥
no_number c h = cc

module _ (p : Problem) (letters : List ℕ) (m : MachineModel) (numbers : List (Option ℕ)) (named : List ℕ) (problem : IsLetterProblem p letters) (machine : IsMachine m)
    (fits : IsMachineOf p m) (valid : IsValidAnnotation p m numbers) (wide : 0 < length letters) (is : IsRenumbered (next_on m letters) p.size (length letters) named) where
  -- letters are the machine's
  letter_small : (k : ℕ) → k < length letters → letter_at letters k < 2 ^ m.reads
  letter_small k h = subst (λ n. letter_at letters k < 2 ^ n) (sym fits.reads) (problem.list.below k 0 h)

  old_small : (t : ℕ) → t < length named → get_or named t 0 < size_of m
  old_small t h = rw fits.size (is.states t h)

  old_state : (t : ℕ) → t < length named → get_or named t 0 < p.size
  old_state t h = is.states t h

  -- rows
  moved_named : (place : ℕ) → place / length letters < length named → moved (next_on m letters) (length letters) named place ≡ place_in named (led (next_on m letters) (length letters) named place)
  moved_named place h = cond-true (nat_lt (place / length letters) (length named)) _ _ ((Decides-ltb (place / length letters) (length named)).1 h)

  moved_unnamed : (place : ℕ) → length named ≤ place / length letters → moved (next_on m letters) (length letters) named place ≡ 0
  moved_unnamed place h = cond-false (nat_lt (place / length letters) (length named)) _ _ (le-ltb (place / length letters) (length named) h)

  nexts : (place : ℕ) → place < row_count p letters → moved (next_on m letters) (length letters) named place < p.size
  nexts place h = elim (cases_lt (place / length letters) (length named)) [
    | inl row ↦
        let inside : place_in named (led (next_on m letters) (length letters) named place) < length named = is.inside (place / length letters) (place % length letters) row (mod-lt place wide) in
        let few : length named ≤ p.size = is.few in
        rw (moved_named place row) (omega (arith, inside, few))
    | inr late ↦ let some : 1 ≤ p.size = problem.within.some in rw (moved_unnamed place late) (omega (arith, some))
  ]

  -- what is written
  written_named : (kind : Kind) → p.kind ≡ kind → (t k : ℕ) → t < length named → k < length letters
      → written_on kind m letters named (write_place kind (length letters) t k) ≡ writes_of m (get_or named t 0) (letter_at letters k)
  written_named Mealy kind_is t k ht hk =
      let d : (t * length letters + k) / length letters ≡ t = div-mul-add t (length letters) k hk in
      let r : (t * length letters + k) % length letters ≡ k = mod-mul-add t (length letters) k hk in
      cond-true (nat_lt ((t * length letters + k) / length letters) (length named)) _ _ ((Decides-ltb ((t * length letters + k) / length letters) (length named)).1 (rw d ht))
      ∙ (λ j. writes_of m (get_or named (d j) 0) (letter_at letters (r j)))
  written_named Moore kind_is t k ht hk =
      cond-true (nat_lt t (length named)) _ _ ((Decides-ltb t (length named)).1 ht)
      ∙ machine.moore (fits.kind ∙ kind_is) (get_or named t 0) 0 (letter_at letters k) (old_small t ht) (pow_pos m.reads) (letter_small k hk)

  written_unnamed : (kind : Kind) (t k : ℕ) → length named ≤ t → k < length letters → written_on kind m letters named (write_place kind (length letters) t k) ≡ 0
  written_unnamed Mealy t k late hk =
      let d : (t * length letters + k) / length letters ≡ t = div-mul-add t (length letters) k hk in
      cond-false (nat_lt ((t * length letters + k) / length letters) (length named)) _ _ (le-ltb ((t * length letters + k) / length letters) (length named) (rw d late))
  written_unnamed Moore t k late hk = cond-false (nat_lt t (length named)) _ _ (le-ltb t (length named) late)

  writes : (t k : ℕ) → t < p.size → k < length letters → written_on p.kind m letters named (write_place p.kind (length letters) t k) < 2 ^ looked_for.writes_of p
  writes t k ht hk = elim (cases_lt t (length named)) [
    | inl row ↦
        let small : writes_of m (get_or named t 0) (letter_at letters k) < 2 ^ m.writes = machine.letters (get_or named t 0) (letter_at letters k) (old_small t row) (letter_small k hk) in
        rw (written_named p.kind refl t k row hk) (subst (λ n. writes_of m (get_or named t 0) (letter_at letters k) < 2 ^ n) fits.writes small)
    | inr late ↦ rw (written_unnamed p.kind t k late hk) (pow_pos (looked_for.writes_of p))
  ]

  -- numbers
  number_named : (t q : ℕ) → t < length named → number_on p numbers named t q ≡ number_at p numbers (get_or named t 0) q
  number_named t q h = cond-true (nat_lt t (length named)) _ _ ((Decides-ltb t (length named)).1 h)

  number_unnamed : (t q : ℕ) → length named ≤ t → number_on p numbers named t q ≡ None
  number_unnamed t q h = cond-false (nat_lt t (length named)) _ _ (le-ltb t (length named) h)

  -- a pair with a number is one of a named state
  has_name : (t q c : ℕ) → number_on p numbers named t q ≡ Some c → t < length named
  has_name t q c e = elim (cases_lt t (length named)) [
    | inl row ↦ row
    | inr late ↦ absurd (no_number c (sym (number_unnamed t q late) ∙ e))
  ]

  old_number : (t q c : ℕ) → number_on p numbers named t q ≡ Some c → number_at p numbers (get_or named t 0) q ≡ Some c
  old_number t q c e = sym (number_named t q (has_name t q c e)) ∙ e

  -- a number of an old state is one of its new number
  new_number : (x s q least : ℕ) → x < length named → get_or named x 0 ≡ s → HasNumber p numbers s q least → HasPairNumber (number_on p numbers named) x q least
  new_number x s q least h same known = record {
    number = known.number;
    stands = number_named x q h ∙ ap (λ t. number_at p numbers t q) same ∙ known.stands;
    enough = known.enough;
  }

  -- what is read and written
  whole_letter : (t k : ℕ) → t < length named → k < length letters
      → joined_at p.side p.inputs p.outputs (letter_at letters k) (written_on p.kind m letters named (write_place p.kind (length letters) t k)) ≡ joined_letter p.side m (letter_at letters k) (writes_of m (get_or named t 0) (letter_at letters k))
  whole_letter t k ht hk =
      ap (joined_at p.side p.inputs p.outputs (letter_at letters k)) (written_named p.kind refl t k ht hk)
      ∙ joined_same p.side m p.inputs p.outputs (letter_at letters k) (writes_of m (get_or named t 0) (letter_at letters k))
      (fits.reads ∙ reads_same p.side p.inputs p.outputs) (fits.writes ∙ writes_same p.side p.inputs p.outputs)

  edges : (t q c k r : ℕ) → t < p.size → q < states_of (automaton_of p) → number_on p numbers named t q ≡ Some c → k < length letters
      → HasEdge (automaton_of p) (record { 0 = joined_at p.side p.inputs p.outputs (letter_at letters k) (written_on p.kind m letters named (write_place p.kind (length letters) t k)) }) q r
      → HasPairNumber (number_on p numbers named) (moved (next_on m letters) (length letters) named (row_place letters t k)) r (number_after p q r c)
  edges t q c k r ht hq e hk edge =
      let row : t < length named = has_name t q c e in
      let old_edge : HasEdge (automaton_of p) (letter_of p.side m (get_or named t 0) (letter_at letters k)) q r
      = subst (λ n. HasEdge (automaton_of p) (record { 0 = n }) q r) (whole_letter t k row hk) edge in
      let next : HasNumber p numbers (next_of m (get_or named t 0) (letter_at letters k)) r (number_after p q r c)
      = valid.edges (get_or named t 0) q c (letter_at letters k) r (old_state t row) hq (old_number t q c e) (letter_small k hk) old_edge in
      let d : row_place letters t k / length letters ≡ t = div-mul-add t (length letters) k hk in
      let u : row_place letters t k % length letters ≡ k = mod-mul-add t (length letters) k hk in
      let led_is : led (next_on m letters) (length letters) named (row_place letters t k) ≡ next_of m (get_or named t 0) (letter_at letters k) = λ j. next_of m (get_or named (d j) 0) (letter_at letters (u j)) in
      let place_is : moved (next_on m letters) (length letters) named (row_place letters t k) ≡ place_in named (next_of m (get_or named t 0) (letter_at letters k))
      = moved_named (row_place letters t k) (rw d row) ∙ ap (place_in named) led_is in
      let inside : place_in named (next_of m (get_or named t 0) (letter_at letters k)) < length named = is.inside t k row hk in
      let back : get_or named (place_in named (next_of m (get_or named t 0) (letter_at letters k))) 0 ≡ next_of m (get_or named t 0) (letter_at letters k) = at_place named (next_of m (get_or named t 0) (letter_at letters k)) inside in
      subst (λ x. HasPairNumber (number_on p numbers named) x r (number_after p q r c)) (sym place_is)
      (new_number (place_in named (next_of m (get_or named t 0) (letter_at letters k))) (next_of m (get_or named t 0) (letter_at letters k)) r (number_after p q r c) inside back next)

  before_row : (place : ℕ) → Earlier (next_on m letters) (length letters) named place → HasRowBefore (moved (next_on m letters) (length letters) named) place
  before_row place known = record { at = known.at; before = known.before; moves = known.moves }

  pub restricted : IsTable p letters (moved (next_on m letters) (length letters) named) (written_on p.kind m letters named) (number_on p numbers named)
  restricted = record {
    nexts = nexts;
    writes = writes;
    bounded = λ t q c ht hq e. valid.bounded (get_or named t 0) q c (old_state t (has_name t q c e)) hq (old_number t q c e);
    start = new_number 0 0 0 (start_number p) is.first is.zero_first valid.start;
    edges = edges;
    ordered = λ place h two. before_row place (is.ordered place h two);
  }
