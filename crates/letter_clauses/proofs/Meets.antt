-- The assignment of tables over a list of letters meets every base clause.
use Rattle.std.proofs.Common.{◌≡◌, ℕ, suc, ◌+◌, ◌-◌, ◌^◌, ◌<◌, ◌≤◌, ◌⊎◌, inl, inr, Bool, true, false, not, List, [], ◌∷◌, ◌++◌, Option, Some, None, length, refl, sym, ap, ◌∙◌, subst, arith, cond}
use Rattle.std.specs.Prelude.{Contains, ◌==◌, ◌||◌, nat_le, nat_lt}
use Rattle.std.specs.List.{list_any}
use Rattle.std.proofs.Math.Bool.{or-true}
use Rattle.std.proofs.lemmas.Bool.{cases_lt, eq-eqb, le-leb, leb-true, lt-leb, not-false}
use Rattle.std.proofs.lemmas.Bool.Decides.{Decides-eqb}
use Rattle.std.proofs.lemmas.List.Elements.{All-contains}
use Rattle.std.proofs.lemmas.List.Folds.{list_any-append}
use Rattle.propositional_logic.specs.Literal.{Literal}
use Rattle.propositional_logic.proofs.Tests.{Decides-all}
use Rattle.propositional_logic.specs.Truth.{is_true_clause, is_true_literal, meets, value_of}
use Rattle.letters_and_lassos.specs.Cube.{Fits}
use Rattle.letters_and_lassos.specs.Signals.{has}
use Rattle.machine_model.specs.Automaton.{HasEdge, IsAutomaton, JoinsStates, states_of}
use Rattle.machine_model.specs.Problem as looked_for
use Rattle.machine_model.specs.Problem.{NamesSignals, automaton_of, reads_of}
use Rattle.machine_model.specs.declared.automata.Edge.{Edge}
use Rattle.machine_model.specs.declared.problems.Problem.{Problem}
use Rattle.product_bound.specs.Annotation.{bound_at, number_after, start_number}
use Rattle.annotation_encode.specs.Assigned.{reaches}
use Rattle.annotation_encode.specs.BaseClauses.{each_below, fits_read, is, isnt, order_clause, read_signal, row_clause, row_move, signal_fits, written_signal}
use Rattle.annotation_encode.specs.Variables.{write_place}
use Rattle.annotation_encode.proofs.Counted.{after_rises, step_within}
use Rattle.annotation_encode.proofs.Letters.{fits_joined, joined_at, reads_at, writes_at}
use Rattle.annotation_encode.proofs.Lists.{all_below-each, any-each_below, none-each_below}
use Rattle.annotation_encode.proofs.Meets.{any_one, apart, counts_true, either_true, one_is, reads_same, signal_kept, writes_same}
use Rattle.annotation_encode.proofs.Sizes.{write_below}
use Rattle.letter_clauses.specs.BaseClauses.{base_clauses, chain_clause, count_literals, start_clause, step_clause, write_literal, write_literals}
use Rattle.letter_clauses.specs.Letters.{IsLetterProblem, letter_at}
use Rattle.letter_clauses.specs.Variables.{row_count, row_place, var_count, var_move, var_write}
use Rattle.letter_clauses.proofs.ClauseOrder.{start_small}
use Rattle.letter_clauses.proofs.ClausesAll.{HoldsOfKinds, all_base}
use Rattle.letter_clauses.proofs.Within.{row_below}
use Rattle.letter_clauses.proofs.Tables.{HasPairNumber, HasRowBefore, IsAssigned, IsTable}

module _ (p : Problem) (letters : List ℕ) (next written : ℕ → ℕ) (numbers : ℕ → ℕ → Option ℕ) (values : List Bool) (problem : IsLetterProblem p letters)
    (made : IsAutomaton (automaton_of p)) (table : IsTable p letters next written numbers) (is_assigned : IsAssigned p letters next written numbers values) where
  test : Literal → Bool
  test l = is_true_literal values l

  positive : (v : ℕ) → test (is v) ≡ value_of values v
  unfolding test
  positive v = refl

  negative : (v : ℕ) → test (isnt v) ≡ not (value_of values v)
  unfolding test
  negative v = refl

  true_clause : (lits : List Literal) → list_any test lits ≡ true → is_true_clause values lits ≡ true
  unfolding test
  true_clause lits h = h

  rows_met : (place : ℕ) → place < row_count p letters → is_true_clause values (row_clause p place) ≡ true
  rows_met place h =
      let small : next place < p.size = table.nexts place h in
      let here : test (is (row_move p place (next place))) ≡ true = positive (row_move p place (next place)) ∙ is_assigned.moves place (next place) h small ∙ eq-eqb (next place) (next place) refl in
      true_clause (row_clause p place) (any-each_below test p.size (next place) (λ to. is (row_move p place to) ∷ []) small (any_one test (is (row_move p place (next place))) here))

  start_met : is_true_clause values (start_clause p letters) ≡ true
  start_met =
      let start : HasPairNumber numbers 0 0 (start_number p) = table.start in
      let value : value_of values (var_count p letters 0 0 (start_number p)) ≡ reaches (numbers 0 0) (start_number p)
      = is_assigned.counts 0 0 (start_number p) problem.within.some made.some (start_small p letters problem) in
      let enough : reaches (numbers 0 0) (start_number p) ≡ true = ap (λ o. reaches o (start_number p)) start.stands ∙ le-leb (start_number p) start.number start.enough in
      true_clause (start_clause p letters) (any_one test (is (var_count p letters 0 0 (start_number p))) (positive (var_count p letters 0 0 (start_number p)) ∙ value ∙ enough))

  -- a pair that reaches a number reaches the one before it
  chains_met : (t q c : ℕ) → t < p.size → q < states_of (automaton_of p) → c < bound_at p q → is_true_clause values (chain_clause p letters t q c) ≡ true
  chains_met t q c ht hq hc = true_clause (chain_clause p letters t q c) (by_number (numbers t q) refl)
    where
      value : (d : ℕ) → d ≤ bound_at p q → value_of values (var_count p letters t q d) ≡ reaches (numbers t q) d
      value d small = is_assigned.counts t q d ht hq small

      isnt_next : reaches (numbers t q) (suc c) ≡ false → list_any test (chain_clause p letters t q c) ≡ true
      isnt_next none =
          let here : test (isnt (var_count p letters t q (suc c))) ≡ true = negative (var_count p letters t q (suc c)) ∙ ap not (value (suc c) (omega (arith, hc)) ∙ none) in
          ap (λ b. test (is (var_count p letters t q c)) || (b || false)) here ∙ or-true (test (is (var_count p letters t q c)))

      is_here : reaches (numbers t q) c ≡ true → list_any test (chain_clause p letters t q c) ≡ true
      is_here some =
          let here : test (is (var_count p letters t q c)) ≡ true = positive (var_count p letters t q c) ∙ value c (omega (arith, hc)) ∙ some in
          ap (λ b. b || (test (isnt (var_count p letters t q (suc c))) || false)) here

      by_number : (o : Option ℕ) → numbers t q ≡ o → list_any test (chain_clause p letters t q c) ≡ true
      by_number None at = isnt_next (ap (λ o. reaches o (suc c)) at)
      by_number (Some n) at = elim (cases_lt n (suc c)) [
        | inl less ↦ isnt_next (ap (λ o. reaches o (suc c)) at ∙ lt-leb (suc c) n less)
        | inr ge ↦ is_here (ap (λ o. reaches o c) at ∙ le-leb c n (omega (arith, ge)))
      ]

  -- what a write literal that is false says
  missed : (v : ℕ) (must none : Bool) → list_any test (cond must (isnt v ∷ []) (cond none (is v ∷ []) [])) ≡ false
      → (must ≡ true → value_of values v ≡ true) × (must ≡ false → none ≡ true → value_of values v ≡ false)
  missed v true none h = (λ _. not-false (value_of values v) (sym (negative v) ∙ one_is test (isnt v) h), λ e _. apart e)
  missed v false true h = (λ e. apart (sym e), λ _ _. sym (positive v) ∙ one_is test (is v) h)
  missed v false false h = (λ e. apart (sym e), λ _ e. apart (sym e))

  module _ (e : Edge) (t k : ℕ) (there : Contains (automaton_of p).edges e) (ht : t < p.size) (hk : k < length letters) (read : fits_read p e.cube (letter_at letters k) ≡ true) where
    -- the place of what is written, the letter that is read and the one that is written
    at : ℕ
    at = write_place p.kind (length letters) t k

    at_is : at ≡ write_place p.kind (length letters) t k
    unfolding at
    at_is = refl

    letter : ℕ
    letter = letter_at letters k

    letter_is : letter ≡ letter_at letters k
    unfolding letter
    letter_is = refl

    names : NamesSignals (p.inputs + p.outputs) e
    names = All-contains (NamesSignals (p.inputs + p.outputs)) (automaton_of p).edges e problem.within.signals there

    joins : JoinsStates (states_of (automaton_of p)) e
    joins = All-contains (JoinsStates (states_of (automaton_of p))) (automaton_of p).edges e made.edges there

    value_written : (s : ℕ) → s < looked_for.writes_of p → value_of values (var_write p letters t k s) ≡ has (written at) s
    unfolding at
    value_written s hs = is_assigned.writes (write_place p.kind (length letters) t k) s (write_below p.kind (length letters) p.size t k ht hk) hs

    written_fits : list_any test (write_literals p letters e.cube t k) ≡ false → (s : ℕ) → s < looked_for.writes_of p → signal_fits e.cube (written_signal p s) (has (written at) s) ≡ true
    written_fits none s hs =
        let value : value_of values (var_write p letters t k s) ≡ has (written at) s = value_written s hs in
        let here : list_any test (write_literal p letters e.cube t k s) ≡ false = none-each_below test (looked_for.writes_of p) s (λ s. write_literal p letters e.cube t k s) none hs in
        let says = missed (var_write p letters t k s) (has e.cube.must (written_signal p s)) (has e.cube.not (written_signal p s)) here in
        signal_kept e.cube (written_signal p s) (has (written at) s)
        (λ h. sym value ∙ says.0 h)
        (λ h. forbidden says.1 h value (has e.cube.must (written_signal p s)) refl)
      where
        forbidden : (has e.cube.must (written_signal p s) ≡ false → has e.cube.not (written_signal p s) ≡ true → value_of values (var_write p letters t k s) ≡ false)
            → has e.cube.not (written_signal p s) ≡ true → value_of values (var_write p letters t k s) ≡ has (written at) s
            → (must : Bool) → has e.cube.must (written_signal p s) ≡ must → has (written at) s ≡ false
        forbidden says h value true both = absurd (e.cube.apart (written_signal p s) both h)
        forbidden says h value false only = sym value ∙ says only h

    whole_fits : list_any test (write_literals p letters e.cube t k) ≡ false → Fits e.cube (record { 0 = joined_at p.side p.inputs p.outputs letter (written at) })
    unfolding at letter
    whole_fits none =
        let reads : reads_of p ≡ reads_at p.side p.inputs p.outputs = reads_same p.side p.inputs p.outputs in
        let writes : looked_for.writes_of p ≡ writes_at p.side p.inputs p.outputs = writes_same p.side p.inputs p.outputs in
        let small : letter_at letters k < 2 ^ reads_of p = problem.list.below k 0 hk in
        let hr : letter_at letters k < 2 ^ reads_at p.side p.inputs p.outputs = subst (λ n. letter_at letters k < 2 ^ n) reads small in
        let hw : written (write_place p.kind (length letters) t k) < 2 ^ writes_at p.side p.inputs p.outputs = subst (λ n. written (write_place p.kind (length letters) t k) < 2 ^ n) writes (table.writes t k ht hk) in
        fits_joined p.side p.inputs p.outputs (letter_at letters k) (written (write_place p.kind (length letters) t k)) e.cube hr hw names.must names.none_of
        (λ s hs. all_below-each (reads_of p) s (λ s. signal_fits e.cube (read_signal p s) (has (letter_at letters k) s)) read (subst (λ n. s < n) (sym reads) hs))
        (λ s hs. written_fits none s (subst (λ n. s < n) (sym writes) hs))

    stepped : (n : ℕ) → numbers t e.from ≡ Some n → HasEdge (automaton_of p) (record { 0 = joined_at p.side p.inputs p.outputs letter (written at) }) e.from e.to
        → HasPairNumber numbers (next (row_place letters t k)) e.to (number_after p e.from e.to n)
    unfolding at letter
    stepped n is_at edge = table.edges t e.from n k e.to ht joins.from is_at hk edge

    module _ (to c : ℕ) (hto : to < p.size) (hc : c ≤ bound_at p e.from) where
      -- the least number behind the step
      after : ℕ
      after = number_after p e.from e.to c

      after_is : after ≡ number_after p e.from e.to c
      unfolding after
      after_is = refl

      -- the pair that is left doesn't reach c, or the one after it reaches what it has to
      Steps : Type 0
      Steps = (test (isnt (var_count p letters t e.from c)) ≡ true) ⊎ ((nat_le after (bound_at p e.to) ≡ true) × (test (is (var_count p letters to e.to after)) ≡ true))

      number_steps : list_any test (write_literals p letters e.cube t k) ≡ false → next (row_place letters t k) ≡ to → Steps
      unfolding Steps
      number_steps none moved = by_number (numbers t e.from) refl
        where
          value : value_of values (var_count p letters t e.from c) ≡ reaches (numbers t e.from) c
          value = is_assigned.counts t e.from c ht joins.from hc

          by_number : (o : Option ℕ) → numbers t e.from ≡ o
              → (test (isnt (var_count p letters t e.from c)) ≡ true) ⊎ ((nat_le after (bound_at p e.to) ≡ true) × (test (is (var_count p letters to e.to after)) ≡ true))
          by_number None none_at = inl (negative (var_count p letters t e.from c) ∙ ap not (value ∙ ap (λ o. reaches o c) none_at))
          by_number (Some n) is_at = by_reach (nat_le c n) refl
            where
              by_reach : (b : Bool) → nat_le c n ≡ b
                  → (test (isnt (var_count p letters t e.from c)) ≡ true) ⊎ ((nat_le after (bound_at p e.to) ≡ true) × (test (is (var_count p letters to e.to after)) ≡ true))
              by_reach false h = inl (negative (var_count p letters t e.from c) ∙ ap not (value ∙ ap (λ o. reaches o c) is_at ∙ h))
              by_reach true h =
                  let below : c ≤ n = leb-true c n h in
                  let next_pair : HasPairNumber numbers (next (row_place letters t k)) e.to (number_after p e.from e.to n) = stepped n is_at (record { cube = e.cube; stands = there; fits = whole_fits none }) in
                  let then : HasPairNumber numbers to e.to (number_after p e.from e.to n) = subst (λ s. HasPairNumber numbers s e.to (number_after p e.from e.to n)) moved next_pair in
                  let small : then.number ≤ bound_at p e.to = table.bounded to e.to then.number hto joins.to then.stands in
                  let enough : number_after p e.from e.to n ≤ then.number = then.enough in
                  let rises : number_after p e.from e.to c ≤ number_after p e.from e.to n = after_rises p e.from e.to c n below in
                  let same : after ≡ number_after p e.from e.to c = after_is in
                  let fitting : after ≤ bound_at p e.to = omega (arith, same, rises, small, enough) in
                  let reaching : after ≤ then.number = omega (arith, same, rises, enough) in
                  let next_value : value_of values (var_count p letters to e.to after) ≡ reaches (numbers to e.to) after
                  = is_assigned.counts to e.to after hto joins.to fitting in
                  inr (
                    le-leb after (bound_at p e.to) fitting,
                    positive (var_count p letters to e.to after) ∙ next_value ∙ ap (λ o. reaches o after) then.stands ∙ le-leb after then.number reaching,
                  )

      step_met : is_true_clause values (step_clause p letters e t k to c) ≡ true
      unfolding after Steps
      step_met = true_clause (step_clause p letters e t k to c)
          (either_true (test (isnt (var_move p letters t k to))) (list_any test (write_literals p letters e.cube t k ++ count_literals p letters e t to c)) (λ stays.
          list_any-append test (write_literals p letters e.cube t k) (count_literals p letters e t to c)
          ∙ either_true (list_any test (write_literals p letters e.cube t k)) (list_any test (count_literals p letters e t to c)) (λ none.
          counts_true test (nat_le (number_after p e.from e.to c) (bound_at p e.to)) (nat_lt (var_count p letters t e.from c) (var_count p letters to e.to (number_after p e.from e.to c)))
          (isnt (var_count p letters t e.from c)) (is (var_count p letters to e.to (number_after p e.from e.to c))) (number_steps none (moved stays)))))
        where
          moved : test (isnt (var_move p letters t k to)) ≡ false → next (row_place letters t k) ≡ to
          moved h =
              let value : value_of values (var_move p letters t k to) ≡ true = not-false (value_of values (var_move p letters t k to)) (sym (negative (var_move p letters t k to)) ∙ h) in
              (Decides-eqb (next (row_place letters t k)) to).0 (sym (is_assigned.moves (row_place letters t k) to (row_below p letters t k ht hk) hto) ∙ value)

  orders_met : (place to : ℕ) → place < row_count p letters → 2 ≤ to → to < p.size → is_true_clause values (order_clause p place to) ≡ true
  orders_met place to hp least hto = true_clause (order_clause p place to)
      (list_any-append test (each_below place (λ k. is (row_move p k (to - 1)) ∷ [])) (isnt (row_move p place to) ∷ []) ∙ by_move (next place == to) refl)
    where
      by_move : (b : Bool) → (next place == to) ≡ b → (list_any test (each_below place (λ k. is (row_move p k (to - 1)) ∷ [])) || list_any test (isnt (row_move p place to) ∷ [])) ≡ true
      by_move false h =
          let here : test (isnt (row_move p place to)) ≡ true = negative (row_move p place to) ∙ ap not (is_assigned.moves place to hp hto ∙ h) in
          ap (λ b. list_any test (each_below place (λ k. is (row_move p k (to - 1)) ∷ [])) || b) (any_one test (isnt (row_move p place to)) here) ∙ or-true _
      by_move true h =
          let moves : next place ≡ to = (Decides-eqb (next place) to).0 h in
          let known : HasRowBefore next place = table.ordered place hp (omega (arith, moves, least)) in
          let before : known.at < place = known.before in
          let one_less : next known.at ≡ to - 1 = let is : next known.at ≡ next place - 1 = known.moves in omega (arith, is, moves) in
          let there : test (is (row_move p known.at (to - 1))) ≡ true
          = positive (row_move p known.at (to - 1)) ∙ is_assigned.moves known.at (to - 1) (omega (arith, before, hp)) (omega (arith, hto)) ∙ eq-eqb (next known.at) (to - 1) one_less in
          ap (λ b. b || list_any test (isnt (row_move p place to) ∷ [])) (any-each_below test place known.at (λ k. is (row_move p k (to - 1)) ∷ []) before (any_one test (is (row_move p known.at (to - 1))) there))

  pub all_met : meets values (base_clauses p letters) ≡ true
  all_met =
      let kinds : HoldsOfKinds p letters (λ clause. is_true_clause values clause ≡ true) = record {
        rows = rows_met;
        start = start_met;
        steps = λ e t k to c there ht hk read hto busy hc. step_met e t k there ht hk read to c hto (step_within p e c hc);
        chains = chains_met;
        orders = orders_met;
      } in
      (Decides-all (is_true_clause values) (λ clause. is_true_clause values clause ≡ true) (λ clause. (λ h. h, λ h. h)) (base_clauses p letters)).1 (all_base p letters (λ clause. is_true_clause values clause ≡ true) kinds)
