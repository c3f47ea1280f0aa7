-- Trails of the product: the steps that were taken, the latest first. A trail that meets a pair with a rejecting state twice
-- has a rejecting run; one that doesn't meets no more of them than there are.
use Rattle.std.proofs.Common.{◌≡◌, ℕ, zero, suc, ◌+◌, ◌-◌, ◌*◌, ◌/◌, ◌%◌, ◌<◌, ◌≤◌, ◌⊎◌, inl, inr, List, [], ◌∷◌, ◌++◌, length, refl, sym, ap, ◌∙◌, subst, arith, Bool, true, false, cond}
use Rattle.std.specs.Prelude.{Contains, IsTrue}
use Rattle.std.proofs.lemmas.Bool.{cases_eq, cases_lt}
use Rattle.std.proofs.lemmas.List.{get_or_append_left, get_or_push, length_push}
use Rattle.std.proofs.lemmas.Nat.{div-mul-add, mod-mul-add, mul-add-lt}
use Rattle.std.proofs.Math.Nat.{mul_comm}
use Rattle.machine_model.specs.Automaton.{rejects, states_of}
use Rattle.machine_model.specs.Machine.{MachineModel, IsMachine, size_of}
use Rattle.machine_model.specs.Problem.{automaton_of}
use Rattle.machine_model.specs.declared.problems.Problem.{Problem}
use Rattle.product_bound.specs.Annotation.{bound_of, places_of, rise_at}
use Rattle.product_bound.specs.Laws.{HasRejectingRun}
use Rattle.product_bound.specs.Product.{IsProductPath, IsRejectingCycle, Leads, states_of_cycle, step_at, word_of_cycle}
use Rattle.product_bound.specs.declared.laws.ProductStep.{ProductStep}
use Rattle.product_bound.proofs.Cycle.{accepted, run}
use Rattle.product_bound.proofs.Sums.{Once, sum_below, sum_below-blocks, sum_below-count, total, total-once}

-- the step of a pair that isn't left yet
abbrev pub at_pair : ℕ → ℕ → ProductStep
at_pair t q = record { t = t; q = q; letter = 0 }

-- the steps, the latest first, lead from the first pair to (t, q)
abbrev pub Trail : Problem → MachineModel → List ProductStep → ℕ → ℕ → Type 0
Trail p m [] t q = (t ≡ 0) × (q ≡ 0)
Trail p m (step ∷ steps) t q = (step.t < p.size) × ((step.q < states_of (automaton_of p)) × (Leads p m step (at_pair t q) × Trail p m steps step.t step.q))

-- a pair's place
abbrev pub place : Problem → ℕ → ℕ → ℕ
place p t q = t * states_of (automaton_of p) + q

-- the places of the pairs of steps
abbrev pub places : Problem → List ProductStep → List ℕ
places p [] = []
places p (step ∷ steps) = place p step.t step.q ∷ places p steps

-- how much a number rises at a place
abbrev pub rise : Problem → ℕ → ℕ
rise p v = rise_at (automaton_of p) (v % states_of (automaton_of p))

pub same_pair : (p : Problem) (t q s r : ℕ) → q < states_of (automaton_of p) → r < states_of (automaton_of p) → place p t q ≡ place p s r → (t ≡ s) × (q ≡ r)
same_pair p t q s r hq hr e = (
  sym (div-mul-add t (states_of (automaton_of p)) q hq) ∙ ap (λ v. v / states_of (automaton_of p)) e ∙ div-mul-add s (states_of (automaton_of p)) r hr,
  sym (mod-mul-add t (states_of (automaton_of p)) q hq) ∙ ap (λ v. v % states_of (automaton_of p)) e ∙ mod-mul-add s (states_of (automaton_of p)) r hr,
)

pub rise-place : (p : Problem) (t q : ℕ) → q < states_of (automaton_of p) → rise p (place p t q) ≡ rise_at (automaton_of p) q
rise-place p t q h = ap (rise_at (automaton_of p)) (mod-mul-add t (states_of (automaton_of p)) q h)

pub place_within : (p : Problem) (t q : ℕ) → t < p.size → q < states_of (automaton_of p) → place p t q < places_of p
place_within p t q ht hq =
    let h : t * states_of (automaton_of p) + q < states_of (automaton_of p) * p.size = mul-add-lt t (states_of (automaton_of p)) q p.size ht hq in
    rw (mul_comm p.size (states_of (automaton_of p))) h

-- all rises together are the bound
pub all_rises : (p : Problem) → sum_below (places_of p) (rise p) ≡ bound_of p
all_rises p =
    sum_below-blocks p.size (states_of (automaton_of p)) (rise_at (automaton_of p))
    ∙ ap (λ n. p.size * n) (sum_below-count (automaton_of p).rejecting)

-- the steps in their order
abbrev front : List ProductStep → List ProductStep
front [] = []
front (step ∷ steps) = front steps ++ (step ∷ [])

path-push : (p : Problem) (m : MachineModel) (xs : List ProductStep) (step e : ProductStep) → IsProductPath p m (xs ++ (step ∷ [])) → Leads p m step e
    → IsProductPath p m ((xs ++ (step ∷ [])) ++ (e ∷ []))
path-push p m xs step e path lead =
    let n : length (xs ++ (step ∷ [])) ≡ length xs + 1 = length_push xs step in
    let d : ProductStep = at_pair 0 0 in
    let first : step_at ((xs ++ (step ∷ [])) ++ (e ∷ [])) 0 ≡ step_at (xs ++ (step ∷ [])) 0 = get_or_append_left (xs ++ (step ∷ [])) (e ∷ []) d 0 (omega arith) in
    record {
      start_t = ap (λ s. s.t) first ∙ path.start_t;
      start_q = ap (λ s. s.q) first ∙ path.start_q;
      leads = λ k h.
          let more : length ((xs ++ (step ∷ [])) ++ (e ∷ [])) ≡ length (xs ++ (step ∷ [])) + 1 = length_push (xs ++ (step ∷ [])) e in
          let here : step_at ((xs ++ (step ∷ [])) ++ (e ∷ [])) k ≡ step_at (xs ++ (step ∷ [])) k = get_or_append_left (xs ++ (step ∷ [])) (e ∷ []) d k (omega arith) in
          elim (cases_eq k (length xs)) [
            | inl end ↦
                let there : step_at ((xs ++ (step ∷ [])) ++ (e ∷ [])) (k + 1) ≡ e = get_or_push (xs ++ (step ∷ [])) e d (k + 1) (omega arith) in
                let last : step_at (xs ++ (step ∷ [])) k ≡ step = get_or_push xs step d k (sym end) in
                rw (here, last, there) lead
            | inr ne ↦
                let there : step_at ((xs ++ (step ∷ [])) ++ (e ∷ [])) (k + 1) ≡ step_at (xs ++ (step ∷ [])) (k + 1) = get_or_append_left (xs ++ (step ∷ [])) (e ∷ []) d (k + 1) (omega (arith, ne)) in
                rw (here, there) (path.leads k (omega (arith, ne)))
          ];
    }

trail-path : (p : Problem) (m : MachineModel) (steps : List ProductStep) (e : ProductStep) → Trail p m steps e.t e.q → IsProductPath p m (front steps ++ (e ∷ []))
trail-path p m [] e trail = record {
  start_t = trail.0;
  start_q = trail.1;
  leads = λ k h. absurd (omega arith);
}
trail-path p m (step ∷ steps) e trail =
    let lead : Leads p m step (at_pair e.t e.q) = trail.1.1.0 in
    path-push p m (front steps) step e (trail-path p m steps step trail.1.1.1) (record { letter = lead.letter; moves = lead.moves; edge = lead.edge })

-- where a trail's steps were at a pair before
record WasAt (steps : List ProductStep) (t q : ℕ) : Type 0 where
  at : ℕ
  inside : at < length (front steps)
  same_t : (step_at (front steps) at).t ≡ t
  same_q : (step_at (front steps) at).q ≡ q

was_at : (p : Problem) (m : MachineModel) (steps : List ProductStep) (s r t q : ℕ) → Trail p m steps s r → q < states_of (automaton_of p) → Contains (places p steps) (place p t q) → WasAt steps t q
was_at p m [] s r t q trail hq (k, h, e) = absurd (omega arith)
was_at p m (step ∷ steps) s r t q trail hq (zero, h, e) =
    let same : (step.t ≡ t) × (step.q ≡ q) = same_pair p step.t step.q t q trail.1.0 hq e in
    let last : step_at (front steps ++ (step ∷ [])) (length (front steps)) ≡ step = get_or_push (front steps) step (at_pair 0 0) (length (front steps)) refl in
    let n : length (front steps ++ (step ∷ [])) ≡ length (front steps) + 1 = length_push (front steps) step in
    record {
      at = length (front steps);
      inside = omega arith;
      same_t = ap (λ x. x.t) last ∙ same.0;
      same_q = ap (λ x. x.q) last ∙ same.1;
    }
was_at p m (step ∷ steps) s r t q trail hq (suc k, h, e) =
    let before : WasAt steps t q = was_at p m steps step.t step.q t q trail.1.1.1 hq (k, omega arith, e) in
    let inside : before.at < length (front steps) = before.inside in
    let here : step_at (front steps ++ (step ∷ [])) before.at ≡ step_at (front steps) before.at = get_or_append_left (front steps) (step ∷ []) (at_pair 0 0) before.at before.inside in
    let n : length (front steps ++ (step ∷ [])) ≡ length (front steps) + 1 = length_push (front steps) step in
    record {
      at = before.at;
      inside = omega arith;
      same_t = ap (λ x. x.t) here ∙ before.same_t;
      same_q = ap (λ x. x.q) here ∙ before.same_q;
    }

contains_or_not : (xs : List ℕ) (x : ℕ) → Contains xs x ⊎ (Contains xs x → ⊥)
contains_or_not [] x = inr (λ there. absurd (let within : there.0 < 0 = there.1 in omega arith))
contains_or_not (y ∷ ys) x =
    elim (cases_eq y x) [
      | inl e ↦ inl (0, omega arith, e)
      | inr ne ↦ elim (contains_or_not ys x) [
        | inl there ↦ inl (suc there.0, (let within : there.0 < length ys = there.1 in omega arith), there.2)
        | inr none ↦ inr (later ne none)
      ]
    ]
  where
    later : (y ≡ x → ⊥) → (Contains ys x → ⊥) → Contains (y ∷ ys) x → ⊥
    later ne none (zero, h, e) = ne e
    later ne none (suc k, h, e) = none (k, omega arith, e)

module _ (p : Problem) (m : MachineModel) (machine : IsMachine m) (some : 0 < size_of m) where
  -- where a pair with a rejecting state is met again, the steps since then are a rejecting run
  met_again : (steps : List ProductStep) (t q : ℕ) → Trail p m steps t q → q < states_of (automaton_of p) → 0 < rise p (place p t q) → Contains (places p steps) (place p t q) → HasRejectingRun p m
  met_again steps t q trail hq counts there =
      let was : WasAt steps t q = was_at p m steps t q t q trail hq there in
      let inside : was.at < length (front steps) = was.inside in
      let path : List ProductStep = front steps ++ (at_pair t q ∷ []) in
      let n : length (front steps ++ (at_pair t q ∷ [])) ≡ length (front steps) + 1 = length_push (front steps) (at_pair t q) in
      let here : step_at (front steps ++ (at_pair t q ∷ [])) was.at ≡ step_at (front steps) was.at = get_or_append_left (front steps) (at_pair t q ∷ []) (at_pair 0 0) was.at was.inside in
      let end : step_at (front steps ++ (at_pair t q ∷ [])) (length (front steps ++ (at_pair t q ∷ [])) - 1) ≡ at_pair t q = get_or_push (front steps) (at_pair t q) (at_pair 0 0) (length (front steps ++ (at_pair t q ∷ [])) - 1) (omega arith) in
      let counts' : 0 < rise_at (automaton_of p) q = rw (rise-place p t q hq) at counts in
      let rejecting : IsTrue (rejects (automaton_of p) q) = rejecting_here (rejects (automaton_of p) q) counts' in
      let cycle : IsRejectingCycle p m (front steps ++ (at_pair t q ∷ [])) was.at = record {
        steps = trail-path p m steps (at_pair t q) trail;
        below = omega arith;
        back_t = ap (λ x. x.t) end ∙ sym (ap (λ x. x.t) here ∙ was.same_t);
        back_q = ap (λ x. x.q) end ∙ sym (ap (λ x. x.q) here ∙ was.same_q);
        met = was.at;
        met_from = omega arith;
        met_below = omega arith;
        rejecting = subst (λ k. IsTrue (rejects (automaton_of p) k)) (sym (ap (λ x. x.q) here ∙ was.same_q)) rejecting;
      } in
      record {
        word = word_of_cycle p m path was.at;
        states = states_of_cycle path;
        run = run p m path was.at machine some cycle;
        accepted = accepted p m path was.at machine some cycle;
      }
    where
      rejecting_here : (b : Bool) → 0 < cond b 1 0 → IsTrue b
      rejecting_here true h = refl
      rejecting_here false h = absurd (omega arith)

  -- a trail on which none is met twice
  abbrev pub IsOnce : List ProductStep → ℕ → ℕ → Type 0
  IsOnce steps t q = Once (places_of p) (rise p) (place p t q ∷ places p steps)

  -- one more pair
  pub once_or_run : (steps : List ProductStep) (t q : ℕ) → Trail p m steps t q → t < p.size → q < states_of (automaton_of p) → Once (places_of p) (rise p) (places p steps)
      → IsOnce steps t q ⊎ HasRejectingRun p m
  once_or_run steps t q trail ht hq once =
      elim (cases_lt 0 (rise p (place p t q))) [
        | inr none ↦ inl (place_within p t q ht hq, ((λ counts _. absurd (omega (arith, none, counts))), once))
        | inl counts ↦ elim (contains_or_not (places p steps) (place p t q)) [
          | inl there ↦ inr (met_again steps t q trail hq counts there)
          | inr new ↦ inl (place_within p t q ht hq, ((λ _ there. new there), once))
        ]
      ]

  pub trail_small : (steps : List ProductStep) (t q : ℕ) → IsOnce steps t q → total (rise p) (place p t q ∷ places p steps) ≤ bound_of p
  trail_small steps t q once =
      let most : total (rise p) (place p t q ∷ places p steps) ≤ sum_below (places_of p) (rise p) = total-once (places_of p) (rise p) (place p t q ∷ places p steps) once in
      rw (← all_rises p) most
