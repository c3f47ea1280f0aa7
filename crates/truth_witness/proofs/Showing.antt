-- Where each obligation of a witness has a closed log, the formula is true on no run lasso of the circuit.
use Rattle.std.proofs.Common.{◌≡◌, ℕ, zero, suc, ◌+◌, ◌<◌, Bool, true, false, not, ◌||◌, List, [], ◌∷◌, ◌++◌, length, get_or, refl, sym, ap, subst, ◌∙◌, arith, inl, inr}
use Rattle.std.specs.Prelude.{◌⊎◌, map, All, None}
use Rattle.std.proofs.lemmas.Bool.{false_from_ne_true, true_from_ne_false, true≢false}
use Rattle.std.proofs.lemmas.Option.{slice_get_within, get_or_from_slice_get}
use Rattle.letters_and_lassos.specs.Word.{Word}
use Rattle.ltl_formula.specs.Nodes.{IsNodeList, tree_at}
use Rattle.ltl_formula.specs.Truth.{holds}
use Rattle.aiger_text.specs.Circuit.{Valuation, IsCircuitRun, literal_value}
use Rattle.aiger_text.specs.CircuitType.{IsCircuit}
use Rattle.propositional_logic.specs.Truth.{meets}
use Rattle.refutation_log.specs.declared.entries.Entry.{Entry}
use Rattle.refutation_log.specs.Laws.{LogsAreSound}
use Rattle.truth_witness.specs.declared.witnesses.Obligation.{Obligation}
use Rattle.truth_witness.specs.declared.witnesses.Obligation.TheVariants.{Base, Keep, Cover, Enter, Stay, Fall}
use Rattle.truth_witness.specs.Clauses.{opposite}
use Rattle.truth_witness.specs.Witness.{Part, Claim}
use Rattle.truth_witness.specs.Variables.{shifted}
use Rattle.truth_witness.specs.Frames.{frame, start}
use Rattle.truth_witness.specs.Falls.{Awaited, named_untils, fall}
use Rattle.truth_witness.specs.Obligations.{part_at, now, IsObligationOf, at_start, in_step, shared, own, clauses_of, variables_of}
use Rattle.truth_witness.specs.Proved.{IsOfFrame, IsPartFor, IsWitnessFor, IsProved}
use Rattle.truth_witness.specs.Truths.{are_met}
use Rattle.truth_witness.specs.Descent.{Waits}
use Rattle.truth_witness.specs.Laws.{WitnessesShow}
use Rattle.truth_witness.proofs.Values.{value_opposite}
use Rattle.truth_witness.proofs.Making.{met_base}
use Rattle.truth_witness.proofs.Descent.{ranks_fall}
use Rattle.truth_witness.proofs.Meeting.{met_both, met_one}
use Rattle.truth_witness.proofs.Rows.{the_row, frame_met, start_met}
use Rattle.truth_witness.proofs.Stepping.{rows, says_here, says_there, in_step_met}
use Rattle.truth_witness.proofs.Falling.{number_at}
use Rattle.truth_witness.proofs.Comparing.{IsOfFrameBoth, rises, falls, Awaits}
use Rattle.truth_witness.proofs.Awaiting.{named_are_untils, named_in_frame, is_just, just_comes}

-- no part
abbrev no_part : Part
no_part = record { start = 0; inv = 0; rank = []; index = [] }

module _ (sound : LogsAreSound) (x : Claim) (log : Obligation → List Entry) (circuit : IsCircuit x.circuit) (list : IsNodeList x.nodes) (fits : IsWitnessFor x)
    (proved : IsProved x log) (word : Word) (values : ℕ → Valuation) (run : IsCircuitRun x.side x.circuit word values)
    (true_there : holds word (tree_at x.nodes x.form) 0 ≡ true) where
  -- no values meet the clauses of an obligation
  refuted : (o : Obligation) → IsObligationOf x.witness o → (v : Valuation) → are_met v (shared x o) ≡ true → are_met v (own x o) ≡ true → ⊥
  refuted o is v shared_met own_met =
      let met : (bits : List Bool) × (meets bits (clauses_of x o) ≡ true) = met_base v (shared x o ++ own x o) (met_both v (shared x o) (own x o) shared_met own_met) in
      true≢false (sym met.1 ∙ sound.closed met.0 (variables_of x o) (clauses_of x o) None (log o) (proved.closed o is))

  abbrev at : ℕ → Valuation
  at n = the_row x circuit list fits word values run n

  abbrev no_rises : Valuation
  no_rises i = false

  -- two rows in a row
  abbrev two : ℕ → Valuation
  two n = rows x circuit list fits word values run n no_rises

  started : are_met (at 0) (at_start x) ≡ true
  started = met_both (at 0) (frame x) (start x) (frame_met x circuit list fits word values run 0) (start_met x circuit list fits word values run true_there)

  stepped : (n : ℕ) → are_met (two n) (in_step x) ≡ true
  stepped n = in_step_met x circuit list fits word values run n no_rises

  -- what each literal of a clause of its own says
  is_on : (v : Valuation) (l : ℕ) (rest : List (List ℕ)) → literal_value v l ≡ true → are_met v rest ≡ true → are_met v (now l ∷ rest) ≡ true
  is_on v l rest on more = met_both v (now l ∷ []) rest (met_one v l on) more

  is_off : (v : Valuation) (l : ℕ) → literal_value v l ≡ false → literal_value v (opposite l) ≡ true
  is_off v l off = value_opposite v l ∙ ap not off

  says : (n : ℕ) (rises : Valuation) (l : ℕ) → IsOfFrame x l → literal_value (rows x circuit list fits word values run n rises) l ≡ literal_value (at n) l
  says n rises l h = says_here x circuit list fits word values run n rises l h

  then_says : (n : ℕ) (rises : Valuation) (l : ℕ) → IsOfFrame x l → literal_value (rows x circuit list fits word values run n rises) (shifted x l) ≡ literal_value (at (suc n)) l
  then_says n rises l h = says_there x circuit list fits word values run n rises l h

  -- `always` holds at each time
  always_on : (n : ℕ) → literal_value (at n) x.witness.always ≡ true
  always_on zero =
      true_from_ne_false (literal_value (at 0) x.witness.always) (λ off. refuted Base tt (at 0) started
      (is_on (at 0) (opposite x.witness.always) [] (is_off (at 0) x.witness.always off) refl))
  always_on (suc n) =
      true_from_ne_false (literal_value (at (suc n)) x.witness.always) (λ off. refuted Keep tt (two n) (stepped n)
      (is_on (two n) x.witness.always (now (opposite (shifted x x.witness.always)) ∷ []) (says n no_rises x.witness.always fits.always ∙ always_on n)
      (is_on (two n) (opposite (shifted x x.witness.always)) [] (is_off (two n) (shifted x x.witness.always) (then_says n no_rises x.witness.always fits.always ∙ off)) refl)))

  -- some part's start holds at first
  none_starts : (parts : List Part) → ((k : ℕ) → k < length parts → literal_value (at 0) (get_or parts k no_part).start ≡ false)
      → are_met (at 0) (map (λ part. now (opposite part.start)) parts) ≡ true
  none_starts [] each = refl
  none_starts (part ∷ parts) each =
      is_on (at 0) (opposite part.start) (map (λ part. now (opposite part.start)) parts)
      (is_off (at 0) part.start (each 0 (let e : 0 < suc (length parts) = omega arith in e))) (none_starts parts (λ k h. each (suc k) (omega arith)))

  -- one part: where it starts, there is no end of falling
  module _ (m : ℕ) (few : m < length x.witness.parts) where
    abbrev part : Part
    part = part_at x m

    part_fits : IsPartFor x part
    part_fits = fits.parts m no_part few

    abbrev named : List Awaited
    named = named_untils x part

    untils_fit : All (IsOfFrameBoth x) named
    untils_fit = named_in_frame x list circuit fits part

    module _ (starts : literal_value (at 0) part.start ≡ true) where
      inv_on : (n : ℕ) → literal_value (at n) part.inv ≡ true
      inv_on zero =
          true_from_ne_false (literal_value (at 0) part.inv) (λ off. refuted (Enter m) few (at 0) started
          (is_on (at 0) x.witness.always (now part.start ∷ now (opposite part.inv) ∷ []) (always_on 0)
          (is_on (at 0) part.start (now (opposite part.inv) ∷ []) starts
          (is_on (at 0) (opposite part.inv) [] (is_off (at 0) part.inv off) refl))))
      inv_on (suc n) =
          true_from_ne_false (literal_value (at (suc n)) part.inv) (λ off. refuted (Stay m) few (two n) (stepped n)
          (is_on (two n) x.witness.always (now (shifted x x.witness.always) ∷ now part.inv ∷ now (opposite (shifted x part.inv)) ∷ [])
          (says n no_rises x.witness.always fits.always ∙ always_on n)
          (is_on (two n) (shifted x x.witness.always) (now part.inv ∷ now (opposite (shifted x part.inv)) ∷ [])
          (then_says n no_rises x.witness.always fits.always ∙ always_on (suc n))
          (is_on (two n) part.inv (now (opposite (shifted x part.inv)) ∷ []) (says n no_rises part.inv part_fits.inv ∙ inv_on n)
          (is_on (two n) (opposite (shifted x part.inv)) [] (is_off (two n) (shifted x part.inv) (then_says n no_rises part.inv part_fits.inv ∙ off)) refl)))))

      abbrev rank : ℕ → ℕ
      rank n = number_at (at n) part.rank

      abbrev index : ℕ → ℕ
      index n = number_at (at n) part.index

      abbrev until_at_place : ℕ → Awaited
      until_at_place j = get_or named j (record { until = 0; right = 0 })

      abbrev just : ℕ → ℕ → Bool
      just j n = is_just x list circuit fits word values run (until_at_place j) n

      -- the values of the literals that compare ranks
      abbrev risings : ℕ → Valuation
      risings n = rises x part (at n) (at (suc n)) part_fits.rank part_fits.index untils_fit

      abbrev with_risings : ℕ → Valuation
      with_risings n = rows x circuit list fits word values run n (risings n)

      not_met : (n : ℕ) → are_met (with_risings n) (fall x part) ≡ true → ⊥
      not_met n met =
          refuted (Fall m) few (with_risings n) (in_step_met x circuit list fits word values run n (risings n))
          (is_on (with_risings n) x.witness.always (now (shifted x x.witness.always) ∷ now part.inv ∷ now (shifted x part.inv) ∷ fall x part)
          (says n (risings n) x.witness.always fits.always ∙ always_on n)
          (is_on (with_risings n) (shifted x x.witness.always) (now part.inv ∷ now (shifted x part.inv) ∷ fall x part)
          (then_says n (risings n) x.witness.always fits.always ∙ always_on (suc n))
          (is_on (with_risings n) part.inv (now (shifted x part.inv) ∷ fall x part) (says n (risings n) part.inv part_fits.inv ∙ inv_on n)
          (is_on (with_risings n) (shifted x part.inv) (fall x part) (then_says n (risings n) part.inv part_fits.inv ∙ inv_on (suc n)) met))))

      abbrev IsAwaiting : ℕ → Type 0
      IsAwaiting n = Awaits x part (at n) (at (suc n)) part_fits.rank part_fits.index untils_fit

      awaiting : (n : ℕ) → rank (suc n) ≡ rank n → IsAwaiting n → Waits rank index (length named) just n
      awaiting n same awaits = record {
        same_rank = same;
        same_index = awaits.index_next ∙ sym awaits.index_now;
        named = subst (λ j. j < length named) (sym awaits.index_now) (slice_get_within named awaits.number awaits.until awaits.place);
        not_yet =
            ap (λ j. just j n) awaits.index_now
            ∙ ap (λ u. is_just x list circuit fits word values run u n) (get_or_from_slice_get named awaits.number awaits.until (record { until = 0; right = 0 }) awaits.place)
            ∙ (λ i. not (awaits.waits i) || awaits.not_yet i);
      }

      steps : (n : ℕ) → (rank (suc n) < rank n) ⊎ Waits rank index (length named) just n
      steps n = elim (falls x part (at n) (at (suc n)) part_fits.rank part_fits.index untils_fit (not_met n)) [
        | inl less ↦ inl less
        | inr stays ↦ inr (awaiting n stays.0 stays.1)
      ]

      comes : (j n : ℕ) → j < length named → (k : ℕ) × (just j (n + k) ≡ true)
      comes j n h = just_comes x list circuit fits word values run (until_at_place j) (named_are_untils x list part j (record { until = 0; right = 0 }) h) n

      no_end : ⊥
      no_end = ranks_fall rank index (length named) just steps comes

  none_true : ⊥
  none_true =
      refuted Cover tt (at 0) started
      (is_on (at 0) x.witness.always (map (λ part. now (opposite part.start)) x.witness.parts) (always_on 0)
      (none_starts x.witness.parts (λ k h. false_from_ne_true (literal_value (at 0) (get_or x.witness.parts k no_part).start) (no_end k h))))

pub witnesses_show : LogsAreSound → WitnessesShow
witnesses_show sound x log circuit list fits proved word values run =
    false_from_ne_true (holds word (tree_at x.nodes x.form) 0) (none_true sound x log circuit list fits proved word values run)
