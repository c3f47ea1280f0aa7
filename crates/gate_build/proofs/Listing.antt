-- The states that a machine meets can be listed.
use Rattle.std.proofs.Common.{◌≡◌, ◌≢◌, ℕ, zero, suc, ◌+◌, ◌^◌, ◌<◌, ◌≤◌, ◌⊎◌, List, [], ◌∷◌, ◌++◌, length, get_or, refl, sym, ap, subst, ◌∙◌, arith, below_more, inl, inr}
use Rattle.std.specs.Prelude.{All, Contains}
use Rattle.std.proofs.lemmas.Bool.{cases_eq, cases_lt}
use Rattle.std.proofs.lemmas.List.{get_or_append_left, get_or_default, get_or_push, length_push}
use Rattle.std.proofs.lemmas.List.Elements.{All-push}
use Rattle.std.proofs.lemmas.Nat.{pow_pos}
use Rattle.std_lemmas.proofs.Naturals.{either_below}
use Rattle.letters_and_lassos.specs.declared.kinds.Side.{Side}
use Rattle.letters_and_lassos.specs.declared.kinds.Side.TheVariants.{System}
use Rattle.letters_and_lassos.specs.declared.letters.Letter.{Letter}
use Rattle.letters_and_lassos.specs.Word.{IsLassoOver, Word, after, lasso_len, letter_at, no_signals}
use Rattle.letters_and_lassos.proofs.Positions.{after-own, after-suc, after_within}
use Rattle.machine_model.specs.Machine.{IsMachine, MachineModel, next_of, size_of}
use Rattle.machine_model.specs.Run.{IsRunLasso, read_lasso, read_part}
use Rattle.machine_model.specs.Course.{read_at, state_after}
use Rattle.machine_model.specs.Laws.{HasRunOn}
use Rattle.machine_model.proofs.Closing.{state_within}
use Rattle.machine_model.proofs.Determined.{state_after-same, states-run}
use Rattle.machine_model.proofs.Existence.{has_run}
use Rattle.machine_model.proofs.Pigeonhole.{IsRepeated, pigeonhole}
use Rattle.gate_build.specs.Laws.{IsMet, IsMetFor, MeetsStates}

-- whether a number is in a list
pub is_in : (xs : List ℕ) (x : ℕ) → ((k : ℕ) → k < length xs → get_or xs k 0 ≢ x) ⊎ Contains xs x
is_in xs x = elim (either_below (λ k. get_or xs k 0 ≢ x) (λ k. get_or xs k 0 ≡ x) (length xs) (λ k h. elim (cases_eq (get_or xs k 0) x) [ inl same ↦ inr same | inr other ↦ inl other ])) [
  | inl none ↦ inl none
  | inr found ↦ inr (found.0, found.1, get_or_default xs found.0 x 0 found.1 ∙ found.2)
]

-- a word that begins with these letters
abbrev pub word_of : List Letter → Word
word_of letters = record { stem = letters; ring = no_signals ∷ [] }

read_of : (letters : List Letter) (k : ℕ) → k < length letters → read_at (word_of letters) k ≡ (get_or letters k no_signals).0
read_of letters k h =
    ap (λ i. (letter_at (word_of letters) i).0) (after-own (word_of letters) k (omega arith))
    ∙ ap (λ (l : Letter). l.0) (get_or_append_left letters (no_signals ∷ []) no_signals k h)

-- some letters lead to the state
pub record IsReached (m : MachineModel) (state : ℕ) : Type 0 where
  pub letters : List Letter
  pub readable : All (λ letter. letter.0 < 2 ^ m.reads) letters
  pub leads : state_after m (word_of letters) (length letters) ≡ state

module _ (m : MachineModel) (machine : IsMachine m) where
  over : (letters : List Letter) → All (λ letter. letter.0 < 2 ^ m.reads) letters → IsLassoOver m.reads (word_of letters)
  over letters readable = record {
    ring = omega arith;
    stem_letters = readable;
    ring_letters = All-push (λ letter. letter.0 < 2 ^ m.reads) [] no_signals (λ k d h. absurd (omega arith)) (pow_pos m.reads);
  }

  reached_first : IsReached m 0
  reached_first = record { letters = []; readable = λ k d h. absurd (omega arith); leads = refl }

  reached_next : (s a : ℕ) → IsReached m s → a < 2 ^ m.reads → IsReached m (next_of m s a)
  reached_next s a r small =
      let last : Letter = record { 0 = a } in
      let longer : List Letter = r.letters ++ last ∷ [] in
      let len : length (r.letters ++ last ∷ []) ≡ suc (length r.letters) = length_push r.letters last ∙ (omega arith) in
      let same : state_after m (word_of (r.letters ++ last ∷ [])) (length r.letters) ≡ state_after m (word_of r.letters) (length r.letters) =
      state_after-same m (word_of (r.letters ++ last ∷ [])) (word_of r.letters) (length r.letters)
      (λ k h. read_of (r.letters ++ last ∷ []) k (omega (arith, h, len))
      ∙ ap (λ (l : Letter). l.0) (get_or_append_left r.letters (last ∷ []) no_signals k h) ∙ sym (read_of r.letters k h)) in
      let read : read_at (word_of (r.letters ++ last ∷ [])) (length r.letters) ≡ a =
      read_of (r.letters ++ last ∷ []) (length r.letters) (omega (arith, len))
      ∙ ap (λ (l : Letter). l.0) (get_or_push r.letters last no_signals (length r.letters) refl) in
      record {
        letters = r.letters ++ last ∷ [];
        readable = All-push (λ letter. letter.0 < 2 ^ m.reads) r.letters last r.readable small;
        leads =
            ap (state_after m (word_of (r.letters ++ last ∷ []))) len
            ∙ ap (λ t. next_of m t (read_at (word_of (r.letters ++ last ∷ [])) (length r.letters))) (same ∙ r.leads) ∙ ap (next_of m s) read;
      }

  pub reached_within : (s : ℕ) → IsReached m s → s < size_of m
  reached_within s r = subst (λ (t : ℕ). t < size_of m) r.leads (state_within m machine (word_of r.letters) (over r.letters r.readable) (length r.letters))

  pub met_of_reached : (side : Side) (s : ℕ) → IsReached m s → IsMetFor side m s
  met_of_reached side s r =
      let h : HasRunOn m side (word_of r.letters) = has_run m side (word_of r.letters) machine (over r.letters r.readable) in
      let ring : 0 < length h.word.ring = h.run.ring in
      record {
        word = h.word;
        states = h.states;
        run = h.run;
        at = after h.word 0 (length r.letters);
        within = after_within h.word 0 (length r.letters) h.run.ring (omega (arith, ring));
        state_is =
            states-run m side h.word h.states h.run (length r.letters)
            ∙ state_after-same m (read_lasso side m h.word) (word_of r.letters) (length r.letters) (λ k _. ap (λ (l : Letter). l.0) (h.same.letters k)) ∙ r.leads;
      }

  -- different states that letters lead to, the first one among them
  pub record IsListed (xs : List ℕ) : Type 0 where
    pub some : 0 < length xs
    pub first : get_or xs 0 0 ≡ 0
    pub different : (i k : ℕ) → i < k → k < length xs → get_or xs i 0 ≢ get_or xs k 0
    pub reached : (k : ℕ) → k < length xs → IsReached m (get_or xs k 0)

  pub listed_few : (xs : List ℕ) → IsListed xs → length xs ≤ size_of m
  listed_few xs l = elim (cases_lt (size_of m) (length xs)) [
    | inr few ↦ few
    | inl many ↦
        let too_many : size_of m < length xs = many in
        let twice : IsRepeated (λ k. get_or xs k 0) (size_of m) =
        pigeonhole (size_of m) (λ k. get_or xs k 0) (λ k h. reached_within (get_or xs k 0) (l.reached k (omega (arith, h, too_many)))) in
        let within : twice.second ≤ size_of m = twice.within in
        absurd (l.different twice.first twice.second twice.before (omega (arith, within, too_many)) twice.same)
  ]

  pub listed_first : IsListed (0 ∷ [])
  listed_first = record {
    some = omega arith;
    first = refl;
    different = λ i k less h. absurd (omega (arith, less, h));
    reached = λ k h. let first : k ≡ 0 = omega (arith, h) in subst (λ (i : ℕ). IsReached m (get_or (0 ∷ []) i 0)) (sym first) reached_first;
  }

  listed_more : (xs : List ℕ) (x : ℕ) → IsListed xs → IsReached m x → ((k : ℕ) → k < length xs → get_or xs k 0 ≢ x) → IsListed (xs ++ x ∷ [])
  listed_more xs x l r new = record {
    some = let some : 0 < length xs = l.some in omega (arith, some, length_push xs x);
    first = get_or_append_left xs (x ∷ []) 0 0 l.some ∙ l.first;
    different = λ i k less h same.
        let len : length (xs ++ x ∷ []) ≡ length xs + 1 = length_push xs x in
        let low : i < length xs = omega (arith, less, h, len) in
        let at_i : get_or (xs ++ x ∷ []) i 0 ≡ get_or xs i 0 = get_or_append_left xs (x ∷ []) 0 i low in
        elim (cases_lt k (length xs)) [
          | inl inside ↦ l.different i k less inside (sym at_i ∙ same ∙ get_or_append_left xs (x ∷ []) 0 k inside)
          | inr past ↦
              let behind : length xs ≤ k = past in
              let last : length xs ≡ k = omega (arith, h, len, behind) in
              new i low (sym at_i ∙ same ∙ get_or_push xs x 0 k last)
        ];
    reached = rw length_push (below_more (λ k. IsReached m (get_or (xs ++ x ∷ []) k 0)) (length xs)
        (λ k h. subst (λ (t : ℕ). IsReached m t) (sym (get_or_append_left xs (x ∷ []) 0 k h)) (l.reached k h))
        (subst (λ (t : ℕ). IsReached m t) (sym (get_or_push xs x 0 (length xs) refl)) r));
  }

  -- such a list with all states that its states lead to
  pub record IsComplete (xs : List ℕ) : Type 0 where
    pub listed : IsListed xs
    pub closed : (k a : ℕ) → k < length xs → a < 2 ^ m.reads → Contains xs (next_of m (get_or xs k 0) a)

  -- a list is complete, or some state leads out of it
  find : (xs : List ℕ) → ((k : ℕ) → k < length xs → (a : ℕ) → a < 2 ^ m.reads → Contains xs (next_of m (get_or xs k 0) a))
      ⊎ ((k : ℕ) × (k < length xs) × ((a : ℕ) × (a < 2 ^ m.reads) × ((i : ℕ) → i < length xs → get_or xs i 0 ≢ next_of m (get_or xs k 0) a)))
  find xs =
      either_below (λ k. (a : ℕ) → a < 2 ^ m.reads → Contains xs (next_of m (get_or xs k 0) a))
      (λ k. (a : ℕ) × (a < 2 ^ m.reads) × ((i : ℕ) → i < length xs → get_or xs i 0 ≢ next_of m (get_or xs k 0) a)) (length xs)
      (λ k h. either_below (λ a. Contains xs (next_of m (get_or xs k 0) a)) (λ a. (i : ℕ) → i < length xs → get_or xs i 0 ≢ next_of m (get_or xs k 0) a) (2 ^ m.reads)
      (λ a ha. elim (is_in xs (next_of m (get_or xs k 0) a)) [ inl none ↦ inr none | inr there ↦ inl there ]))

  pub complete : (fuel : ℕ) (xs : List ℕ) → IsListed xs → size_of m ≤ length xs + fuel → (all : List ℕ) × IsComplete all
  complete zero xs l room = elim (find xs) [
    | inl closed ↦ (xs, record { listed = l; closed = λ k a h ha. closed k h a ha })
    | inr out ↦
        let x : ℕ = next_of m (get_or xs out.0 0) out.2.0 in
        let longer = listed_more xs (next_of m (get_or xs out.0 0) out.2.0) l (reached_next (get_or xs out.0 0) out.2.0 (l.reached out.0 out.1) out.2.1) out.2.2 in
        let len : length (xs ++ next_of m (get_or xs out.0 0) out.2.0 ∷ []) ≡ length xs + 1 = length_push xs (next_of m (get_or xs out.0 0) out.2.0) in
        let few : length (xs ++ next_of m (get_or xs out.0 0) out.2.0 ∷ []) ≤ size_of m = listed_few (xs ++ next_of m (get_or xs out.0 0) out.2.0 ∷ []) longer in
        absurd (omega (arith, room, len, few))
  ]
  complete (suc fuel) xs l room = elim (find xs) [
    | inl closed ↦ (xs, record { listed = l; closed = λ k a h ha. closed k h a ha })
    | inr out ↦
        let longer = listed_more xs (next_of m (get_or xs out.0 0) out.2.0) l (reached_next (get_or xs out.0 0) out.2.0 (l.reached out.0 out.1) out.2.1) out.2.2 in
        let len : length (xs ++ next_of m (get_or xs out.0 0) out.2.0 ∷ []) ≡ length xs + 1 = length_push xs (next_of m (get_or xs out.0 0) out.2.0) in
        complete fuel (xs ++ next_of m (get_or xs out.0 0) out.2.0 ∷ []) longer (omega (arith, room, len))
  ]

  -- a run stays in a complete list
  pub stays_in : (xs : List ℕ) → IsComplete xs → (side : Side) (w : Word) (states : List ℕ) → IsRunLasso m side w states → (j : ℕ) → Contains xs (get_or states (after w 0 j) 0)
  stays_in xs c side w states run zero = subst (λ (t : ℕ). Contains xs t) (sym run.start) (0, c.listed.some, c.listed.first)
  stays_in xs c side w states run (suc j) =
      let ring : 0 < length w.ring = run.ring in
      let here : after w 0 j < lasso_len w = after_within w 0 j run.ring (omega (arith, ring)) in
      let before : Contains xs (get_or states (after w 0 j) 0) = stays_in xs c side w states run j in
      let own : get_or xs before.0 0 ≡ get_or states (after w 0 j) 0 = get_or_default xs before.0 0 (get_or states (after w 0 j) 0) before.1 ∙ before.2 in
      let moves : get_or states (after w 0 (suc j)) 0 ≡ next_of m (get_or xs before.0 0) (read_part side m (letter_at w (after w 0 j))) =
      ap (λ i. get_or states i 0) (after-suc w 0 j) ∙ run.moves (after w 0 j) here
      ∙ ap (λ t. next_of m t (read_part side m (letter_at w (after w 0 j)))) (sym own) in
      subst (λ (t : ℕ). Contains xs t) (sym moves) (c.closed before.0 (read_part side m (letter_at w (after w 0 j))) before.1 (run.reads (after w 0 j) here))

  -- a complete list has all states that are met
  pub all_there : (xs : List ℕ) → IsComplete xs → (side : Side) (state : ℕ) → IsMetFor side m state → Contains xs state
  all_there xs c side state met =
      subst (λ (t : ℕ). Contains xs t) (ap (λ i. get_or met.states i 0) (after-own met.word met.at met.within) ∙ met.state_is)
      (stays_in xs c side met.word met.states met.run met.at)

  pub met_states : (xs : List ℕ) → IsComplete xs → MeetsStates m (length xs)
  met_states xs c = record {
    states = xs;
    count = refl;
    different = c.listed.different;
    each_met = λ k d h. subst (λ (t : ℕ). IsMet m t) (get_or_default xs k 0 d h) (met_of_reached System (get_or xs k 0) (c.listed.reached k h));
    all_there = all_there xs c System;
  }

  -- the machine meets some number of states, at most all that it has
  pub meets_some : (n : ℕ) × (n ≤ size_of m) × MeetsStates m n
  meets_some =
      let found : (all : List ℕ) × IsComplete all = complete (size_of m) (0 ∷ []) listed_first (omega arith) in
      (length found.0, listed_few found.0 found.1.listed, met_states found.0 found.1)
