-- Where the assignment meets every base clause of a problem, of whatever size, each row has a move, and the decoded annotation is valid.
use Rattle.std.proofs.Common.{◌≡◌, ℕ, zero, suc, ◌+◌, ◌^◌, ◌<◌, ◌≤◌, inl, inr, Bool, true, false, not, List, [], ◌∷◌, ◌++◌, Option, Some, None, refl, sym, ap, ◌∙◌, subst, arith, cond}
use Rattle.std.specs.Prelude.{Contains, ◌==◌, ◌||◌, ◌&&◌, nat_le, nat_lt}
use Rattle.std.specs.List.{list_any}
use Rattle.std.proofs.lemmas.Bool.{and_parts, cases_lt, cond-false, cond-true, cond_both, leb-true}
use Rattle.std.proofs.lemmas.Bool.Decides.{Decides-eqb}
use Rattle.std.proofs.lemmas.List.Elements.{All-contains}
use Rattle.std.proofs.lemmas.List.Folds.{list_any-append}
use Rattle.propositional_logic.specs.Literal.{Literal}
use Rattle.propositional_logic.specs.Truth.{is_true_clause, is_true_literal, meets, value_of}
use Rattle.propositional_logic.proofs.Tests.{Decides-all}
use Rattle.letters_and_lassos.specs.Cube.{Fits}
use Rattle.letters_and_lassos.specs.Signals.{has}
use Rattle.letters_and_lassos.proofs.Below.{all_below-from}
use Rattle.machine_model.specs.Accepts.{SideAccepts}
use Rattle.machine_model.specs.Automaton.{IsAutomaton, JoinsStates, rejects, states_of}
use Rattle.machine_model.specs.Course.{letter_of}
use Rattle.machine_model.specs.Machine.{IsMachine, MachineModel, next_of, size_of, writes_of}
use Rattle.machine_model.specs.Problem as looked_for
use Rattle.machine_model.specs.Problem.{IsMachineOf, IsProblem, automaton_of, counts_locally, reads_of}
use Rattle.machine_model.specs.declared.automata.Edge.{Edge}
use Rattle.machine_model.specs.declared.problems.Problem.{Problem}
use Rattle.machine_model.specs.Components.{JoinedIsReached, are_joined}
use Rattle.product_bound.specs.Annotation.{HasNumber, IsValidAnnotation, bound_at, leaves, number_after, number_at, rise_at, start_number}
use Rattle.annotation_encode.specs.BaseClauses.{base_clauses, count_literals, fits_read, is, is_idle, isnt, read_signal, row_count, row_move, signal_fits, step_clause, step_count, write_literal, write_literals, written_signal}
use Rattle.annotation_encode.specs.Variables.{letter_count, number_count, row_place, var_count, var_move, var_write}
use Rattle.annotation_encode.proofs.BaseClausesAll.{HoldsOfKinds, kinds_hold}
use Rattle.annotation_encode.proofs.ClauseOrder.{start_small}
use Rattle.annotation_encode.proofs.Letters.{joined_at, read_kept, reads_at, writes_at, written_kept}
use Rattle.annotation_encode.proofs.Lists.{none-from}
use Rattle.annotation_encode.proofs.Meets.{joined_same, reads_same, writes_same}
use Rattle.machine_decode.specs.Decoded.{IsDecoded, IsGreatestCount, IsLeastMove}
use Rattle.machine_model.specs.declared.machines.Row.{Row}
use Rattle.product_bound.proofs.Counted.{after_leaves}
use Rattle.product_bound.proofs.Valid.{never_accepted}
use Rattle.machine_decode.specs.Written.{AreRows, HasMoves, numbers_of}
use Rattle.machine_decode.proofs.Machines.{is_decoded, is_machine, is_of, machine_of}
use Rattle.machine_decode.proofs.Parts.{Passes, some_passes}

left_true : (a b : Bool) → (a || b) ≡ true → a ≡ false → b ≡ true
left_true true b h e = absurd (let x : true ≡ false = e in cc)
left_true false b h e = h

alone : (b : Bool) → (b || false) ≡ true → b ≡ true
alone true h = refl
alone false h = h

-- a clause of two numbers whose first literal is false
second : (test : Literal → Bool) (fits less : Bool) (a b : Literal) → test a ≡ false → list_any test (cond fits (cond less (a ∷ b ∷ []) (b ∷ a ∷ [])) (a ∷ [])) ≡ true
    → (fits ≡ true) × (test b ≡ true)
second test false less a b misses h = absurd (let x : true ≡ false = sym (alone (test a) h) ∙ misses in cc)
second test true true a b misses h = (refl, alone (test b) (left_true (test a) (test b || false) h misses))
second test true false a b misses h = go (test b) refl
  where
    go : (v : Bool) → test b ≡ v → (true ≡ true) × (test b ≡ true)
    go true e = (refl, e)
    go false e = absurd (let x : true ≡ false = sym (alone (test a) (left_true (test b) (test a || false) h e)) ∙ misses in cc)

module _ (p : Problem) (values : List Bool) (some : 1 ≤ p.size) (start : start_number p ≤ bound_at p 0) (made : IsAutomaton (automaton_of p)) (met : meets values (base_clauses p) ≡ true) where
  kinds : HoldsOfKinds p (λ clause. is_true_clause values clause ≡ true)
  kinds = kinds_hold p (λ clause. is_true_clause values clause ≡ true)
      ((Decides-all (is_true_clause values) (λ clause. is_true_clause values clause ≡ true) (λ clause. (λ h. h, λ h. h)) (base_clauses p)).0 met)

  pub has_moves : HasMoves p values
  has_moves = record {
    each = λ place h.
        let found : Passes p.size (λ to. is_true_literal values (is (row_move p place to))) = some_passes (is_true_literal values) p.size (λ to. is (row_move p place to)) (kinds.rows place h) in
        record { to = found.at; within = found.below; moves = found.here };
  }

  module _ (m : MachineModel) (numbers : List (Option ℕ)) (machine : IsMachine m) (fits : IsMachineOf p m) (decoded : IsDecoded p values m numbers) where
    letters : letter_count p ≡ 2 ^ m.reads
    letters = ap (λ n. 2 ^ n) (sym fits.reads)

    -- a number that is reached is at most the pair's
    reached : (t q c : ℕ) → t < p.size → q < states_of (automaton_of p) → c ≤ bound_at p q → value_of values (var_count p t q c) ≡ true → HasNumber p numbers t q c
    reached t q c ht hq hc true_here = go (number_at p numbers t q) refl (decoded.counts t q ht hq)
      where
        go : (o : Option ℕ) → number_at p numbers t q ≡ o → IsGreatestCount p values t q o → HasNumber p numbers t q c
        go None at none = absurd (let x : true ≡ false = sym true_here ∙ none c hc in cc)
        go (Some n) at some = record {
          number = n;
          stands = at;
          enough = elim (cases_lt n c) [
            | inl above ↦ absurd (let x : true ≡ false = sym true_here ∙ some.2 c above hc in cc)
            | inr le ↦ le
          ];
        }

    said : (t q c : ℕ) → t < p.size → q < states_of (automaton_of p) → number_at p numbers t q ≡ Some c → (c ≤ bound_at p q) × (value_of values (var_count p t q c) ≡ true)
    said t q c ht hq at =
        let counts : IsGreatestCount p values t q (Some c) = subst (IsGreatestCount p values t q) at (decoded.counts t q ht hq) in
        (counts.0, counts.1)

    start_is : HasNumber p numbers 0 0 (start_number p)
    start_is = reached 0 0 (start_number p) some made.some start (alone (value_of values (var_count p 0 0 (start_number p))) kinds.start)

    -- where numbers count by component a pair that reaches a number reaches 0
    down : (t q c : ℕ) → counts_locally p ≡ true → t < p.size → q < states_of (automaton_of p) → c ≤ bound_at p q → value_of values (var_count p t q c) ≡ true → value_of values (var_count p t q 0) ≡ true
    down t q zero local ht hq hc here = here
    down t q (suc c) local ht hq hc here =
        down t q c local ht hq (omega arith) (before (value_of values (var_count p t q c)) (value_of values (var_count p t q (suc c))) (kinds.chains t q c local ht hq (omega arith)) here)
      where
        before : (a b : Bool) → (a || (not b || false)) ≡ true → b ≡ true → a ≡ true
        before true b h e = refl
        before false true h e = h
        before false false h e = e

    module _ (e : Edge) (t i c : ℕ) (there : Contains (automaton_of p).edges e) (ht : t < p.size) (hi : i < letter_count p) (hc : c ≤ bound_at p e.from)
        (true_here : value_of values (var_count p t e.from c) ≡ true) (fitting : Fits e.cube (letter_of p.side m t i)) where
      joins : JoinsStates (states_of (automaton_of p)) e
      joins = All-contains (JoinsStates (states_of (automaton_of p))) (automaton_of p).edges e made.edges there

      t_small : t < size_of m
      t_small = rw fits.size ht

      i_small : i < 2 ^ m.reads
      i_small = omega (arith, letters, hi)

      pub to : ℕ
      to = next_of m t i

      move : IsLeastMove p values (row_place p t i) to
      unfolding to
      move = decoded.moves t i ht hi

      hr : i < 2 ^ reads_at p.side p.inputs p.outputs
      hr = subst (λ n. i < 2 ^ n) (reads_same p.side p.inputs p.outputs) hi

      hw : writes_of m t i < 2 ^ writes_at p.side p.inputs p.outputs
      hw = subst (λ n. writes_of m t i < 2 ^ n) (fits.writes ∙ writes_same p.side p.inputs p.outputs) (machine.letters t i t_small i_small)

      joined_fits : Fits e.cube (record { 0 = joined_at p.side p.inputs p.outputs i (writes_of m t i) })
      joined_fits = subst (λ n. Fits e.cube (record { 0 = n }))
          (sym (joined_same p.side m p.inputs p.outputs i (writes_of m t i) (fits.reads ∙ reads_same p.side p.inputs p.outputs) (fits.writes ∙ writes_same p.side p.inputs p.outputs))) fitting

      read : fits_read p e.cube i ≡ true
      read = all_below-from (reads_of p) (λ s. signal_fits e.cube (read_signal p s) (has i s))
          (λ s hs. read_kept p.side p.inputs p.outputs i (writes_of m t i) s e.cube hr hw (subst (λ n. s < n) (reads_same p.side p.inputs p.outputs) hs) joined_fits)

      -- no literal of what is written is true
      no_write : (s : ℕ) → s < looked_for.writes_of p → list_any (is_true_literal values) (write_literal p e.cube t i s) ≡ false
      no_write s hs = go (has e.cube.must (written_signal p s)) (has e.cube.not (written_signal p s)) refl refl
        where
          value : has (writes_of m t i) s ≡ value_of values (var_write p t i s)
          value = decoded.writes t i s ht hi hs

          kept : signal_fits e.cube (written_signal p s) (has (writes_of m t i) s) ≡ true
          kept = written_kept p.side p.inputs p.outputs i (writes_of m t i) s e.cube hr hw (subst (λ n. s < n) (writes_same p.side p.inputs p.outputs) hs) joined_fits

          is_set : (b : Bool) → signal_fits e.cube (written_signal p s) b ≡ true → has e.cube.must (written_signal p s) ≡ true → b ≡ true
          is_set true k h = refl
          is_set false k h = absurd (let x : false ≡ true = ap not (sym h) ∙ k in cc)

          isnt_set : (b : Bool) → signal_fits e.cube (written_signal p s) b ≡ true → has e.cube.not (written_signal p s) ≡ true → b ≡ false
          isnt_set true k h = absurd (let x : false ≡ true = ap not (sym h) ∙ k in cc)
          isnt_set false k h = refl

          go : (must none : Bool) → has e.cube.must (written_signal p s) ≡ must → has e.cube.not (written_signal p s) ≡ none
              → list_any (is_true_literal values) (cond must (isnt (var_write p t i s) ∷ []) (cond none (is (var_write p t i s) ∷ []) [])) ≡ false
          go true none a b = ap (λ v. not v || false) (sym value ∙ is_set (has (writes_of m t i) s) kept a)
          go false true a b = ap (λ v. v || false) (sym value ∙ isnt_set (has (writes_of m t i) s) kept b)
          go false false a b = refl

      moved : is_true_literal values (isnt (var_move p t i to)) ≡ false
      moved = ap not move.moves

      -- by the step's clause for a number that is reached
      by_clause : (d : ℕ) → is_idle p e t to ≡ false → d < step_count p e → value_of values (var_count p t e.from d) ≡ true → HasNumber p numbers to e.to (number_after p e.from e.to d)
      by_clause d busy hd reached_here =
          let after : ℕ = number_after p e.from e.to d in
          let clause : is_true_clause values (step_clause p e t i to d) ≡ true = kinds.steps e t i to d there ht hi read move.within busy hd in
          let rest : list_any (is_true_literal values) (write_literals p e.cube t i ++ count_literals p e t to d) ≡ true
          = left_true (is_true_literal values (isnt (var_move p t i to))) _ clause moved in
          let both : (list_any (is_true_literal values) (write_literals p e.cube t i) || list_any (is_true_literal values) (count_literals p e t to d)) ≡ true
          = sym (list_any-append (is_true_literal values) (write_literals p e.cube t i) (count_literals p e t to d)) ∙ rest in
          let none : list_any (is_true_literal values) (write_literals p e.cube t i) ≡ false = none-from (is_true_literal values) (looked_for.writes_of p) (λ s. write_literal p e.cube t i s) no_write in
          let counts : list_any (is_true_literal values) (count_literals p e t to d) ≡ true = left_true (list_any (is_true_literal values) (write_literals p e.cube t i)) (list_any (is_true_literal values) (count_literals p e t to d)) both none in
          let right : (nat_le (number_after p e.from e.to d) (bound_at p e.to) ≡ true) × (is_true_literal values (is (var_count p to e.to (number_after p e.from e.to d))) ≡ true)
          = second (is_true_literal values) (nat_le (number_after p e.from e.to d) (bound_at p e.to)) (nat_lt (var_count p t e.from d) (var_count p to e.to (number_after p e.from e.to d)))
          (isnt (var_count p t e.from d)) (is (var_count p to e.to (number_after p e.from e.to d))) (ap not reached_here) counts in
          reached to e.to (number_after p e.from e.to d) move.within joins.to (leb-true (number_after p e.from e.to d) (bound_at p e.to) right.0) right.1

      pub rises : HasNumber p numbers to e.to (number_after p e.from e.to c)
      rises = by_idle (is_idle p e t to) refl
        where
          by_idle : (idle : Bool) → is_idle p e t to ≡ idle → HasNumber p numbers to e.to (number_after p e.from e.to c)
          by_idle false busy = by_leaving (leaves p e.from e.to) refl
            where
              by_leaving : (b : Bool) → leaves p e.from e.to ≡ b → HasNumber p numbers to e.to (number_after p e.from e.to c)
              by_leaving false stays =
                  let counts : step_count p e ≡ number_count p e.from = cond-false (leaves p e.from e.to) 1 (number_count p e.from) stays in
                  by_clause c busy (omega (arith, counts, hc)) true_here
              by_leaving true leaving =
                  let one : step_count p e ≡ 1 = cond-true (leaves p e.from e.to) 1 (number_count p e.from) leaving in
                  let local : counts_locally p ≡ true = (and_parts (counts_locally p) (not (are_joined (automaton_of p) e.from e.to)) leaving).0 in
                  let same : number_after p e.from e.to 0 ≡ number_after p e.from e.to c = after_leaves p e.from e.to 0 leaving ∙ sym (after_leaves p e.from e.to c leaving) in
                  subst (λ n. HasNumber p numbers to e.to n) same (by_clause 0 busy (omega (arith, one)) (down t e.from c local ht joins.from hc true_here))
          by_idle true idle =
              let same_t : (t == to) ≡ true = first_so (t == to) ((e.from == e.to) && not (rejects (automaton_of p) e.to)) idle in
              let rest : ((e.from == e.to) && not (rejects (automaton_of p) e.to)) ≡ true = second_so (t == to) ((e.from == e.to) && not (rejects (automaton_of p) e.to)) idle in
              let same_q : (e.from == e.to) ≡ true = first_so (e.from == e.to) (not (rejects (automaton_of p) e.to)) rest in
              let calm : not (rejects (automaton_of p) e.to) ≡ true = second_so (e.from == e.to) (not (rejects (automaton_of p) e.to)) rest in
              let t_is : t ≡ to = (Decides-eqb t to).0 same_t in
              let q_is : e.from ≡ e.to = (Decides-eqb e.from e.to).0 same_q in
              let here : HasNumber p numbers t e.from c = reached t e.from c ht joins.from hc true_here in
              let there' : HasNumber p numbers to e.to c = subst (λ s. HasNumber p numbers s e.to c) t_is (subst (λ q. HasNumber p numbers t q c) q_is here) in
              let still : number_after p e.from e.to c ≤ c = cond_both (leaves p e.from e.to) 0 (c + rise_at (automaton_of p) e.to) (λ n. n ≤ c) (λ _. omega arith) (λ _. no_rise (rejects (automaton_of p) e.to) calm) in
              let enough : c ≤ there'.number = there'.enough in
              record { number = there'.number; stands = there'.stands; enough = omega (arith, still, enough) }
            where
              first_so : (a b : Bool) → (a && b) ≡ true → a ≡ true
              first_so true b h = refl
              first_so false b h = h

              second_so : (a b : Bool) → (a && b) ≡ true → b ≡ true
              second_so true b h = h
              second_so false b h = absurd (let x : false ≡ true = h in cc)

              no_rise : (b : Bool) → not b ≡ true → c + cond b 1 0 ≤ c
              no_rise true h = absurd (let x : false ≡ true = h in cc)
              no_rise false h = omega arith

    pub is_valid : IsValidAnnotation p m numbers
    unfolding to
    is_valid = record {
      bounded = λ t q c ht hq at. (said t q c ht hq at).0;
      start = start_is;
      edges = λ t q c i r ht hq at hi edge.
          let has_c : (c ≤ bound_at p q) × (value_of values (var_count p t q c) ≡ true) = said t q c ht hq at in
          let letter : i < letter_count p = omega (arith, letters, hi) in
          rises (record { from = q; cube = edge.cube; to = r }) t i c edge.stands ht letter has_c.0 has_c.1 edge.fits;
    }

-- all that is promised of a decoded machine and annotation
pub record IsOutcome (p : Problem) (values : List Bool) (m : MachineModel) (numbers : List (Option ℕ)) : Type 0 where
  pub looked_for : IsMachineOf p m
  pub made : IsMachine m
  pub decoded : IsDecoded p values m numbers
  pub valid : IsValidAnnotation p m numbers
  pub accepted : SideAccepts (automaton_of p) p.side m

pub outcome_of : (p : Problem) (values : List Bool) (table : List Row) → JoinedIsReached → 1 ≤ p.size → start_number p ≤ bound_at p 0 → IsAutomaton (automaton_of p) → meets values (base_clauses p) ≡ true → AreRows p values (row_count p) table
    → IsOutcome p values (machine_of p table) (numbers_of p values)
outcome_of p values table reached_is least start made met rows =
    let fits : IsMachineOf p (machine_of p table) = is_of p values table least rows in
    let machine : IsMachine (machine_of p table) = is_machine p values table least rows in
    let decoded : IsDecoded p values (machine_of p table) (numbers_of p values) = is_decoded p values table least rows in
    let valid : IsValidAnnotation p (machine_of p table) (numbers_of p values) = is_valid p values least start made met (machine_of p table) (numbers_of p values) machine fits decoded in
    let some : 0 < size_of (machine_of p table) = rw fits.size (omega (arith, least)) in
    record {
      looked_for = fits;
      made = machine;
      decoded = decoded;
      valid = valid;
      accepted = λ w run. never_accepted p (machine_of p table) (numbers_of p values) w run.0 reached_is made machine fits some valid run.1;
    }

pub outcome : (p : Problem) (values values' : List Bool) (table : List Row) (m : MachineModel) (numbers : List (Option ℕ)) → JoinedIsReached → IsProblem p → IsAutomaton (automaton_of p)
    → meets values' (base_clauses p) ≡ true → values ≡ values' → AreRows p values (row_count p) table → m ≡ machine_of p table → numbers ≡ numbers_of p values
    → IsOutcome p values' m numbers
outcome p values values' table m numbers reached_is problem made met same rows machine listed =
    subst (λ ns. IsOutcome p values' m ns) (sym (listed ∙ ap (numbers_of p) same))
    (subst (λ k. IsOutcome p values' k (numbers_of p values')) (sym machine)
    (outcome_of p values' table reached_is problem.some (start_small p problem) made met (subst (λ vs. AreRows p vs (row_count p) table) same rows)))
