-- The assignment of a numbered machine and a valid annotation of it meets every base clause.
use Rattle.std.proofs.Common.{◌≡◌, ℕ, zero, suc, ◌+◌, ◌-◌, ◌*◌, ◌/◌, ◌%◌, ◌^◌, ◌<◌, ◌≤◌, ◌⊎◌, inl, inr, max, Bool, true, false, not, List, [], ◌∷◌, ◌++◌, Option, Some, None, length, take, get_or, refl, sym, ap, ◌∙◌, subst, arith, cond}
use Rattle.std.specs.Prelude.{Contains, ◌==◌, ◌||◌, nat_le, nat_lt}
use Rattle.std.specs.List.{list_any}
use Rattle.std.proofs.Math.Bool.{or-true}
use Rattle.std.proofs.Math.Nat.{mod-lt, div-lt_iff_lt-mul}
use Rattle.std.proofs.lemmas.Bool.{cases_lt, eq-eqb, le-leb, leb-true, not-false, or_parts}
use Rattle.std.proofs.lemmas.Bool.Decides.{Decides-eqb}
use Rattle.std.proofs.lemmas.List.{take_more}
use Rattle.std.proofs.lemmas.List.Elements.{All-contains}
use Rattle.std.proofs.lemmas.List.Folds.{list_any-append}
use Rattle.std.proofs.lemmas.Nat.{div-add-mod', pow_pos}
use Rattle.propositional_logic.specs.Literal.{Literal}
use Rattle.propositional_logic.proofs.Tests.{Decides-all}
use Rattle.propositional_logic.specs.Truth.{is_true_clause, is_true_literal, meets, value_of}
use Rattle.letters_and_lassos.specs.Cube.{Fits}
use Rattle.letters_and_lassos.specs.Signals.{has}
use Rattle.letters_and_lassos.specs.declared.cubes.Cube.{Cube}
use Rattle.letters_and_lassos.specs.declared.kinds.Side.{Side}
use Rattle.letters_and_lassos.specs.declared.kinds.Side.TheVariants.{Environment, System}
use Rattle.machine_model.specs.Automaton.{HasEdge, IsAutomaton, JoinsStates, states_of}
use Rattle.machine_model.specs.Course.{letter_of}
use Rattle.machine_model.specs.Machine.{IsMachine, MachineModel, next_of, size_of, writes_of}
use Rattle.machine_model.specs.Problem as looked_for
use Rattle.machine_model.specs.Problem.{IsMachineOf, IsProblem, NamesSignals, automaton_of, numbers_states, reads_of}
use Rattle.machine_model.specs.Run.{joined_letter}
use Rattle.machine_model.specs.declared.automata.Edge.{Edge}
use Rattle.machine_model.specs.declared.machines.Row.{Row}
use Rattle.machine_model.specs.declared.problems.Problem.{Problem}
use Rattle.machine_model.proofs.Tables.{no_row}
use Rattle.product_bound.specs.Annotation.{HasNumber, IsValidAnnotation, bound_at, number_after, number_at, start_number}
use Rattle.product_bound.specs.Numbered.{IsNumbered, greatest_next}
use Rattle.annotation_encode.specs.Assigned.{IsAssignmentOf, reaches}
use Rattle.annotation_encode.specs.BaseClauses.{base_clauses, chain_clause, count_literals, each_below, fits_read, is, isnt, order_clause, read_signal, row_clause, row_count, row_move, signal_fits, start_clause, step_clause, write_literal, write_literals, written_signal}
use Rattle.annotation_encode.specs.Variables.{letter_count, row_place, var_count, var_move, var_write}
use Rattle.annotation_encode.proofs.BaseClausesAll.{HoldsOfKinds, all_base}
use Rattle.annotation_encode.proofs.ClauseOrder.{start_small}
use Rattle.annotation_encode.proofs.Counted.{after_rises, step_within}
use Rattle.annotation_encode.proofs.Letters.{fits_joined, joined_at, reads_at, writes_at}
use Rattle.annotation_encode.proofs.Lists.{all_below-each, any-each_below, none-each_below}

-- tests
pub either_true : (a b : Bool) → (a ≡ false → b ≡ true) → (a || b) ≡ true
either_true true b h = refl
either_true false b h = h refl

pub apart : {X : Type 0} → true ≡ false → X
apart h = absurd (let e : true ≡ false = h in cc)

-- a list that has a true literal in one place
pub any_one : (test : Literal → Bool) (l : Literal) → test l ≡ true → list_any test (l ∷ []) ≡ true
any_one test l h = ap (λ b. b || false) h

pub one_is : (test : Literal → Bool) (l : Literal) → list_any test (l ∷ []) ≡ false → test l ≡ false
one_is test l h = (or_parts (test l) false h).0

-- the greatest next state of rows with one more
greatest-push : (rows : List Row) (row : Row) → greatest_next (rows ++ row ∷ []) ≡ max (greatest_next rows) row.next
greatest-push [] row = omega arith
greatest-push (r ∷ rows) row = let e : greatest_next (rows ++ row ∷ []) ≡ max (greatest_next rows) row.next = greatest-push rows row in omega (arith, e)

-- the sides' numbers of signals, by cases
pub reads_same : (side : Side) (a b : ℕ) → elim side [ System ↦ a | Environment ↦ b ] ≡ reads_at side a b
reads_same System a b = refl
reads_same Environment a b = refl

pub writes_same : (side : Side) (a b : ℕ) → elim side [ System ↦ b | Environment ↦ a ] ≡ writes_at side a b
writes_same System a b = refl
writes_same Environment a b = refl

pub joined_same : (side : Side) (m : MachineModel) (inputs outputs read written : ℕ) → m.reads ≡ reads_at side inputs outputs → m.writes ≡ writes_at side inputs outputs
    → joined_at side inputs outputs read written ≡ joined_letter side m read written
joined_same System m inputs outputs read written r w = ap (λ n. written * 2 ^ n + read) (sym r)
joined_same Environment m inputs outputs read written r w = ap (λ n. read * 2 ^ n + written) (sym w)

-- a signal that is as the cube wants it
pub signal_kept : (cube : Cube) (k : ℕ) (b : Bool) → (has cube.must k ≡ true → b ≡ true) → (has cube.not k ≡ true → b ≡ false) → signal_fits cube k b ≡ true
signal_kept cube k true must none = go (has cube.not k) refl
  where
    go : (x : Bool) → has cube.not k ≡ x → not x ≡ true
    go true e = apart (none e)
    go false e = refl
signal_kept cube k false must none = go (has cube.must k) refl
  where
    go : (x : Bool) → has cube.must k ≡ x → not x ≡ true
    go true e = apart (sym (must e))
    go false e = refl

-- two literals, of which the second stands where the bound allows it
pub counts_true : (test : Literal → Bool) (fits less : Bool) (a b : Literal) → (test a ≡ true) ⊎ ((fits ≡ true) × (test b ≡ true))
    → list_any test (cond fits (cond less (a ∷ b ∷ []) (b ∷ a ∷ [])) (a ∷ [])) ≡ true
counts_true test false less a b (inl h) = any_one test a h
counts_true test false less a b (inr h) = apart (sym h.0)
counts_true test true true a b (inl h) = ap (λ x. x || (test b || false)) h
counts_true test true true a b (inr h) = ap (λ x. test a || (x || false)) h.1 ∙ or-true (test a)
counts_true test true false a b (inl h) = ap (λ x. test b || (x || false)) h ∙ or-true (test b)
counts_true test true false a b (inr h) = ap (λ x. x || (test a || false)) h.1

-- a machine's rows
next_at : MachineModel → ℕ → ℕ
next_at m place = (get_or m.table place no_row).next

next_is : (m : MachineModel) (place : ℕ) → next_at m place ≡ (get_or m.table place no_row).next
unfolding next_at
next_is m place = refl

-- a machine that is numbered names each state up to the greatest
record Named (m : MachineModel) (place v : ℕ) : Type 0 where
  at : ℕ
  before : at < place
  next : next_at m at ≡ v

reached : (m : MachineModel) → IsNumbered m → (place v : ℕ) → place ≤ length m.table → 1 ≤ v → v ≤ greatest_next (take place m.table) → Named m place v
reached m numbered zero v h least most = absurd (let z : v ≤ 0 = most in omega arith)
reached m numbered (suc place) v h least most =
    let below : place < length m.table = omega arith in
    let one : suc place ≡ place + 1 = omega arith in
    let more : take (place + 1) m.table ≡ take place m.table ++ get_or m.table place no_row ∷ [] = take_more m.table place no_row below in
    let g : greatest_next (take (suc place) m.table) ≡ max (greatest_next (take place m.table)) (get_or m.table place no_row).next
    = ap (λ k. greatest_next (take k m.table)) one ∙ ap greatest_next more ∙ greatest-push (take place m.table) (get_or m.table place no_row) in
    let step : (get_or m.table place no_row).next ≤ greatest_next (take place m.table) + 1 = numbered place below in
    elim (cases_lt (greatest_next (take place m.table)) v) [
      | inl new ↦ record { at = place; before = omega arith; next = next_is m place ∙ (let e : (get_or m.table place no_row).next ≡ v = omega (arith, g, most, step, new) in e) }
      | inr old ↦
          let known : Named m place v = reached m numbered place v (omega arith) least old in
          record { at = known.at; before = (let b : known.at < place = known.before in omega arith); next = known.next }
    ]

module _ (p : Problem) (m : MachineModel) (numbers : List (Option ℕ)) (values : List Bool) (problem : IsProblem p) (made : IsAutomaton (automaton_of p))
    (machine : IsMachine m) (fits : IsMachineOf p m) (valid : IsValidAnnotation p m numbers) (is_assigned : IsAssignmentOf p m numbers values) where
  test : Literal → Bool
  test l = is_true_literal values l

  positive : (v : ℕ) → test (is v) ≡ value_of values v
  unfolding test
  positive v = refl

  negative : (v : ℕ) → test (isnt v) ≡ not (value_of values v)
  unfolding test
  negative v = refl

  true_clause : (lits : List Literal) → list_any test lits ≡ true → is_true_clause values lits ≡ true
  unfolding test
  true_clause lits h = h

  letters : letter_count p ≡ 2 ^ m.reads
  letters = ap (λ n. 2 ^ n) (sym fits.reads)

  some_letter : 0 < letter_count p
  some_letter = pow_pos (reads_of p)

  -- rows and places
  state_of : (place : ℕ) → place < row_count p → place / letter_count p < p.size
  state_of place h = (div-lt_iff_lt-mul some_letter).1 h

  letter_in : (place : ℕ) → place % letter_count p < letter_count p
  letter_in place = mod-lt place some_letter

  place_is : (place : ℕ) → row_place p (place / letter_count p) (place % letter_count p) ≡ place
  place_is place = div-add-mod' place (letter_count p)

  row_next : (t i : ℕ) → next_of m t i ≡ next_at m (row_place p t i)
  row_next t i = ap (λ n. (get_or m.table (t * 2 ^ n + i) no_row).next) fits.reads ∙ sym (next_is m (row_place p t i))

  row_value : (place to : ℕ) → place < row_count p → to < p.size → value_of values (row_move p place to) ≡ (next_at m place == to)
  row_value place to h hto =
      let at : value_of values (var_move p (place / letter_count p) (place % letter_count p) to) ≡ (next_at m (row_place p (place / letter_count p) (place % letter_count p)) == to)
      = is_assigned.moves (place / letter_count p) (place % letter_count p) to (state_of place h) (letter_in place) hto
      ∙ ap (λ x. x == to) (row_next (place / letter_count p) (place % letter_count p)) in
      subst (λ k. value_of values (row_move p k to) ≡ (next_at m k == to)) (place_is place) at

  row_within : (place : ℕ) → place < row_count p → next_at m place < p.size
  row_within place h =
      let t_small : place / letter_count p < size_of m = rw fits.size (state_of place h) in
      let i_less : place % letter_count p < letter_count p = letter_in place in
      let i_small : place % letter_count p < 2 ^ m.reads = omega (arith, letters, i_less) in
      let next : next_of m (place / letter_count p) (place % letter_count p) < size_of m = machine.nexts (place / letter_count p) (place % letter_count p) t_small i_small in
      let same : next_of m (place / letter_count p) (place % letter_count p) ≡ next_at m place = row_next (place / letter_count p) (place % letter_count p) ∙ ap (next_at m) (place_is place) in
      let size : size_of m ≡ p.size = fits.size in
      omega (arith, next, same, size)

  rows_met : (place : ℕ) → place < row_count p → is_true_clause values (row_clause p place) ≡ true
  rows_met place h =
      let to : ℕ = next_at m place in
      let here : test (is (row_move p place (next_at m place))) ≡ true = positive (row_move p place (next_at m place)) ∙ row_value place (next_at m place) h (row_within place h) ∙ eq-eqb (next_at m place) (next_at m place) refl in
      true_clause (row_clause p place) (any-each_below test p.size (next_at m place) (λ to. is (row_move p place to) ∷ []) (row_within place h) (any_one test (is (row_move p place (next_at m place))) here))

  start_met : is_true_clause values (start_clause p) ≡ true
  start_met =
      let start : HasNumber p numbers 0 0 (start_number p) = valid.start in
      let value : value_of values (var_count p 0 0 (start_number p)) ≡ reaches (number_at p numbers 0 0) (start_number p)
      = is_assigned.counts 0 0 (start_number p) problem.some made.some (start_small p problem) in
      let enough : reaches (number_at p numbers 0 0) (start_number p) ≡ true = ap (λ o. reaches o (start_number p)) start.stands ∙ le-leb (start_number p) start.number start.enough in
      true_clause (start_clause p) (any_one test (is (var_count p 0 0 (start_number p))) (positive (var_count p 0 0 (start_number p)) ∙ value ∙ enough))

  -- a pair that reaches a number reaches the one before it
  chains_met : (t q c : ℕ) → t < p.size → q < states_of (automaton_of p) → c < bound_at p q → is_true_clause values (chain_clause p t q c) ≡ true
  chains_met t q c ht hq hc = true_clause (chain_clause p t q c) (by_number (number_at p numbers t q) refl)
    where
      value : (d : ℕ) → d ≤ bound_at p q → value_of values (var_count p t q d) ≡ reaches (number_at p numbers t q) d
      value d small = is_assigned.counts t q d ht hq small

      isnt_next : reaches (number_at p numbers t q) (suc c) ≡ false → list_any test (chain_clause p t q c) ≡ true
      isnt_next none =
          let here : test (isnt (var_count p t q (suc c))) ≡ true = negative (var_count p t q (suc c)) ∙ ap not (value (suc c) (omega (arith, hc)) ∙ none) in
          ap (λ b. test (is (var_count p t q c)) || (b || false)) here ∙ or-true (test (is (var_count p t q c)))

      is_here : reaches (number_at p numbers t q) c ≡ true → list_any test (chain_clause p t q c) ≡ true
      is_here some =
          let here : test (is (var_count p t q c)) ≡ true = positive (var_count p t q c) ∙ value c (omega (arith, hc)) ∙ some in
          ap (λ b. b || (test (isnt (var_count p t q (suc c))) || false)) here

      by_number : (o : Option ℕ) → number_at p numbers t q ≡ o → list_any test (chain_clause p t q c) ≡ true
      by_number None at = isnt_next (ap (λ o. reaches o (suc c)) at)
      by_number (Some n) at = elim (cases_lt n (suc c)) [
        | inl less ↦ isnt_next (ap (λ o. reaches o (suc c)) at ∙ above (suc c) n less)
        | inr ge ↦ is_here (ap (λ o. reaches o c) at ∙ le-leb c n (omega (arith, ge)))
      ]
        where
          above : (a b : ℕ) → b < a → nat_le a b ≡ false
          above a b h = go (nat_le a b) refl
            where
              go : (x : Bool) → nat_le a b ≡ x → x ≡ false
              go false e = refl
              go true e = absurd (let le : a ≤ b = leb-true a b e in omega (arith, le, h))

  -- what a write literal that is false says
  missed : (v : ℕ) (must none : Bool) → list_any test (cond must (isnt v ∷ []) (cond none (is v ∷ []) [])) ≡ false
      → (must ≡ true → value_of values v ≡ true) × (must ≡ false → none ≡ true → value_of values v ≡ false)
  missed v true none h = (λ _. not-false (value_of values v) (sym (negative v) ∙ one_is test (isnt v) h), λ e _. apart e)
  missed v false true h = (λ e. apart (sym e), λ _ _. sym (positive v) ∙ one_is test (is v) h)
  missed v false false h = (λ e. apart (sym e), λ _ e. apart (sym e))

  module _ (e : Edge) (t i : ℕ) (there : Contains (automaton_of p).edges e) (ht : t < p.size) (hi : i < letter_count p) (read : fits_read p e.cube i ≡ true) where
    t_small : t < size_of m
    t_small = rw fits.size ht

    i_small : i < 2 ^ m.reads
    i_small = omega (arith, letters, hi)

    names : NamesSignals (p.inputs + p.outputs) e
    names = All-contains (NamesSignals (p.inputs + p.outputs)) (automaton_of p).edges e problem.signals there

    joins : JoinsStates (states_of (automaton_of p)) e
    joins = All-contains (JoinsStates (states_of (automaton_of p))) (automaton_of p).edges e made.edges there

    written_fits : list_any test (write_literals p e.cube t i) ≡ false → (s : ℕ) → s < looked_for.writes_of p → signal_fits e.cube (written_signal p s) (has (writes_of m t i) s) ≡ true
    written_fits none s hs =
        let value : value_of values (var_write p t i s) ≡ has (writes_of m t i) s = is_assigned.writes t i s ht hi hs in
        let here : list_any test (write_literal p e.cube t i s) ≡ false = none-each_below test (looked_for.writes_of p) s (λ s. write_literal p e.cube t i s) none hs in
        let says = missed (var_write p t i s) (has e.cube.must (written_signal p s)) (has e.cube.not (written_signal p s)) here in
        signal_kept e.cube (written_signal p s) (has (writes_of m t i) s)
        (λ h. sym value ∙ says.0 h)
        (λ h. forbidden says.1 h value (has e.cube.must (written_signal p s)) refl)
      where
        forbidden : (has e.cube.must (written_signal p s) ≡ false → has e.cube.not (written_signal p s) ≡ true → value_of values (var_write p t i s) ≡ false)
            → has e.cube.not (written_signal p s) ≡ true → value_of values (var_write p t i s) ≡ has (writes_of m t i) s
            → (must : Bool) → has e.cube.must (written_signal p s) ≡ must → has (writes_of m t i) s ≡ false
        forbidden says h value true both = absurd (e.cube.apart (written_signal p s) both h)
        forbidden says h value false only = sym value ∙ says only h

    whole_fits : list_any test (write_literals p e.cube t i) ≡ false → Fits e.cube (letter_of p.side m t i)
    whole_fits none =
        let reads : reads_of p ≡ reads_at p.side p.inputs p.outputs = reads_same p.side p.inputs p.outputs in
        let writes : looked_for.writes_of p ≡ writes_at p.side p.inputs p.outputs = writes_same p.side p.inputs p.outputs in
        let hr : i < 2 ^ reads_at p.side p.inputs p.outputs = subst (λ n. i < 2 ^ n) reads hi in
        let w_small : writes_of m t i < 2 ^ m.writes = machine.letters t i t_small i_small in
        let hw : writes_of m t i < 2 ^ writes_at p.side p.inputs p.outputs = subst (λ n. writes_of m t i < 2 ^ n) (fits.writes ∙ writes) w_small in
        let all : Fits e.cube (record { 0 = joined_at p.side p.inputs p.outputs i (writes_of m t i) })
        = fits_joined p.side p.inputs p.outputs i (writes_of m t i) e.cube hr hw names.must names.none_of
        (λ s hs. all_below-each (reads_of p) s (λ s. signal_fits e.cube (read_signal p s) (has i s)) read (subst (λ n. s < n) (sym reads) hs))
        (λ s hs. written_fits none s (subst (λ n. s < n) (sym writes) hs)) in
        subst (λ n. Fits e.cube (record { 0 = n })) (joined_same p.side m p.inputs p.outputs i (writes_of m t i) (fits.reads ∙ reads) (fits.writes ∙ writes)) all

    module _ (to c : ℕ) (hto : to < p.size) (hc : c ≤ bound_at p e.from) where
      -- the least number behind the step
      after : ℕ
      after = number_after p e.from e.to c

      after_is : after ≡ number_after p e.from e.to c
      unfolding after
      after_is = refl

      -- the pair that is left doesn't reach c, or the one after it reaches what it has to
      Steps : Type 0
      Steps = (test (isnt (var_count p t e.from c)) ≡ true) ⊎ ((nat_le after (bound_at p e.to) ≡ true) × (test (is (var_count p to e.to after)) ≡ true))

      number_steps : list_any test (write_literals p e.cube t i) ≡ false → next_of m t i ≡ to → Steps
      unfolding Steps
      number_steps none moved = by_number (number_at p numbers t e.from) refl
        where
          value : value_of values (var_count p t e.from c) ≡ reaches (number_at p numbers t e.from) c
          value = is_assigned.counts t e.from c ht joins.from hc

          by_number : (o : Option ℕ) → number_at p numbers t e.from ≡ o
              → (test (isnt (var_count p t e.from c)) ≡ true) ⊎ ((nat_le after (bound_at p e.to) ≡ true) × (test (is (var_count p to e.to after)) ≡ true))
          by_number None at = inl (negative (var_count p t e.from c) ∙ ap not (value ∙ ap (λ o. reaches o c) at))
          by_number (Some n) at = by_reach (nat_le c n) refl
            where
              by_reach : (b : Bool) → nat_le c n ≡ b
                  → (test (isnt (var_count p t e.from c)) ≡ true) ⊎ ((nat_le after (bound_at p e.to) ≡ true) × (test (is (var_count p to e.to after)) ≡ true))
              by_reach false h = inl (negative (var_count p t e.from c) ∙ ap not (value ∙ ap (λ o. reaches o c) at ∙ h))
              by_reach true h =
                  let below : c ≤ n = leb-true c n h in
                  let edge : HasEdge (automaton_of p) (letter_of p.side m t i) e.from e.to = record { cube = e.cube; stands = there; fits = whole_fits none } in
                  let next : HasNumber p numbers (next_of m t i) e.to (number_after p e.from e.to n) = valid.edges t e.from n i e.to ht joins.from at i_small edge in
                  let then : HasNumber p numbers to e.to (number_after p e.from e.to n) = subst (λ s. HasNumber p numbers s e.to (number_after p e.from e.to n)) moved next in
                  let small : then.number ≤ bound_at p e.to = valid.bounded to e.to then.number hto joins.to then.stands in
                  let enough : number_after p e.from e.to n ≤ then.number = then.enough in
                  let rises : number_after p e.from e.to c ≤ number_after p e.from e.to n = after_rises p e.from e.to c n below in
                  let same : after ≡ number_after p e.from e.to c = after_is in
                  let fitting : after ≤ bound_at p e.to = omega (arith, same, rises, small, enough) in
                  let reaching : after ≤ then.number = omega (arith, same, rises, enough) in
                  let next_value : value_of values (var_count p to e.to after) ≡ reaches (number_at p numbers to e.to) after
                  = is_assigned.counts to e.to after hto joins.to fitting in
                  inr (
                    le-leb after (bound_at p e.to) fitting,
                    positive (var_count p to e.to after) ∙ next_value ∙ ap (λ o. reaches o after) then.stands ∙ le-leb after then.number reaching,
                  )

      step_met : is_true_clause values (step_clause p e t i to c) ≡ true
      unfolding after Steps
      step_met = true_clause (step_clause p e t i to c)
          (either_true (test (isnt (var_move p t i to))) (list_any test (write_literals p e.cube t i ++ count_literals p e t to c)) (λ stays.
          list_any-append test (write_literals p e.cube t i) (count_literals p e t to c)
          ∙ either_true (list_any test (write_literals p e.cube t i)) (list_any test (count_literals p e t to c)) (λ none.
          counts_true test (nat_le (number_after p e.from e.to c) (bound_at p e.to)) (nat_lt (var_count p t e.from c) (var_count p to e.to (number_after p e.from e.to c)))
          (isnt (var_count p t e.from c)) (is (var_count p to e.to (number_after p e.from e.to c))) (number_steps none (moved stays)))))
        where
          moved : test (isnt (var_move p t i to)) ≡ false → next_of m t i ≡ to
          moved h =
              let value : value_of values (var_move p t i to) ≡ true = not-false (value_of values (var_move p t i to)) (sym (negative (var_move p t i to)) ∙ h) in
              (Decides-eqb (next_of m t i) to).0 (sym (is_assigned.moves t i to ht hi hto) ∙ value)

  orders_met : IsNumbered m → (place to : ℕ) → place < row_count p → 2 ≤ to → to < p.size → is_true_clause values (order_clause p place to) ≡ true
  orders_met numbered place to hp least hto = true_clause (order_clause p place to)
      (list_any-append test (each_below place (λ k. is (row_move p k (to - 1)) ∷ [])) (isnt (row_move p place to) ∷ []) ∙ by_move (next_at m place == to) refl)
    where
      by_move : (b : Bool) → (next_at m place == to) ≡ b → (list_any test (each_below place (λ k. is (row_move p k (to - 1)) ∷ [])) || list_any test (isnt (row_move p place to) ∷ [])) ≡ true
      by_move false h =
          let here : test (isnt (row_move p place to)) ≡ true = negative (row_move p place to) ∙ ap not (row_value place to hp hto ∙ h) in
          ap (λ b. list_any test (each_below place (λ k. is (row_move p k (to - 1)) ∷ [])) || b) (any_one test (isnt (row_move p place to)) here) ∙ or-true _
      by_move true h =
          let moves : next_at m place ≡ to = (Decides-eqb (next_at m place) to).0 h in
          let whole : length m.table ≡ size_of m * 2 ^ m.reads = machine.shape.whole in
          let same : size_of m * 2 ^ m.reads ≡ row_count p = (λ j. fits.size j * letters_back j) in
          let below : place < length m.table = omega (arith, whole, same, hp) in
          let step : (get_or m.table place no_row).next ≤ greatest_next (take place m.table) + 1 = numbered place below in
          let is_next : next_at m place ≡ (get_or m.table place no_row).next = next_is m place in
          let known : Named m place (to - 1) = reached m numbered place (to - 1) (omega arith) (omega arith) (omega (arith, step, is_next, moves)) in
          let before : known.at < place = known.before in
          let there : test (is (row_move p known.at (to - 1))) ≡ true = positive (row_move p known.at (to - 1)) ∙ row_value known.at (to - 1) (omega arith) (omega arith) ∙ eq-eqb (next_at m known.at) (to - 1) known.next in
          ap (λ b. b || list_any test (isnt (row_move p place to) ∷ [])) (any-each_below test place known.at (λ k. is (row_move p k (to - 1)) ∷ []) before (any_one test (is (row_move p known.at (to - 1))) there))
        where
          letters_back : 2 ^ m.reads ≡ letter_count p
          letters_back = sym letters

  pub all_met : (numbers_states p ≡ true → IsNumbered m) → meets values (base_clauses p) ≡ true
  all_met numbered =
      let kinds : HoldsOfKinds p (λ clause. is_true_clause values clause ≡ true) = record {
        rows = rows_met;
        start = start_met;
        steps = λ e t i to c there ht hi read hto busy hc. step_met e t i there ht hi read to c hto (step_within p e c hc);
        chains = λ t q c three ht hq hc. chains_met t q c ht hq hc;
        orders = λ place to two hp least hto. orders_met (numbered two) place to hp least hto;
      } in
      (Decides-all (is_true_clause values) (λ clause. is_true_clause values clause ≡ true) (λ clause. (λ h. h, λ h. h)) (base_clauses p)).1 (all_base p (λ clause. is_true_clause values clause ≡ true) kinds)
