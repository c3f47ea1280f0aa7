-- The literals of each obligation are literals of its variables.
use Rattle.std.proofs.Common.{◌≡◌, ℕ, ◌+◌, ◌*◌, ◌<◌, ◌≤◌, cond, List, [], ◌∷◌, ◌++◌, length, get_or, refl, sym, subst, arith, inl, inr}
use Rattle.std.specs.Prelude.{map, All, Some, slice_get, nat_lt}
use Rattle.std.specs.List.{flat_map}
use Rattle.std.proofs.lemmas.Bool.{cond_both}
use Rattle.std.proofs.lemmas.Option.{get_or_from_slice_get, slice_get_within}
use Rattle.std.proofs.lemmas.List.Elements.{All-nil, All-cons, All-head, All-tail, All-append, All-map, All-weaker}
use Rattle.letters_and_lassos.specs.Signals.{has}
use Rattle.ltl_formula.specs.declared.nodes.FormulaId.{FormulaId}
use Rattle.ltl_formula.specs.declared.nodes.Node.{Node}
use Rattle.ltl_formula.specs.declared.nodes.Node.TheVariants.{True, False, Signal, Not, Next, Finally, Globally, And, Or, Implies, Equiv, Until, Release, WeakUntil}
use Rattle.ltl_formula.specs.Nodes.{IsNodeList, node_at}
use Rattle.aiger_text.specs.declared.circuits.Latch.{Latch}
use Rattle.aiger_text.specs.CircuitType.{IsCircuit}
use Rattle.truth_witness.specs.declared.witnesses.Obligation.{Obligation}
use Rattle.truth_witness.specs.declared.witnesses.Obligation.TheVariants.{Base, Keep, Cover, Enter, Stay, Fall}
use Rattle.truth_witness.specs.Clauses.{opposite, equal}
use Rattle.truth_witness.specs.Witness.{Part, Claim}
use Rattle.truth_witness.specs.Variables.{parts_of, ids, frame_size, truth_literal, latch_literal, rise_literal, shifted}
use Rattle.truth_witness.specs.Frames.{as_id, numbered, node_ahead, frame, next_frame, start, step}
use Rattle.truth_witness.specs.Falls.{Awaited, named_untils, differs, not_awaited, bit_rises, bits_rise, fall}
use Rattle.truth_witness.specs.Obligations.{part_at, next, IsObligationOf, own, variables_of}
use Rattle.truth_witness.specs.Proved.{IsPartFor, IsWitnessFor}
use Rattle.truth_witness.proofs.Values.{opposite_within}
use Rattle.truth_witness.proofs.Ids.{In, own_occurs, parts_occur}
use Rattle.truth_witness.proofs.Meeting.{AtMost, within_one, within_two, within_three, two_clauses, three_clauses, within_equal, within_each, within_numbered}
use Rattle.truth_witness.proofs.Within.{all_in, latches_within, nexts_within, truth_within, frame_within}
use Rattle.truth_witness.proofs.Comparing.{IsOfFrameBoth}
use Rattle.truth_witness.proofs.Awaiting.{named_in_frame}

-- one clause of one literal for each element
one_each : {X : Type 0} (n : ℕ) (f : X → ℕ) (xs : List X) → All (λ x. AtMost n (f x)) xs → All (All (AtMost n)) (map (λ x. f x ∷ []) xs)
one_each n f [] each = All-nil (All (AtMost n))
one_each n f (x ∷ xs) each =
    All-cons (All (AtMost n)) (f x ∷ []) (map (λ x. f x ∷ []) xs)
    (All-cons (AtMost n) (f x) [] (All-head (λ x. AtMost n (f x)) x xs each) (All-nil (AtMost n)))
    (one_each n f xs (All-tail (λ x. AtMost n (f x)) x xs each))

-- the bits, or their opposites
pub differs_within : (n j : ℕ) (bits : List ℕ) → All (AtMost n) bits → All (AtMost n) (differs j bits)
differs_within n j [] each = All-nil (AtMost n)
differs_within n j (bit ∷ bits) each =
    All-cons (AtMost n) (cond (has j (length bits)) (opposite bit) bit) (differs j bits)
    (cond_both (has j (length bits)) (opposite bit) bit (AtMost n) (λ _. opposite_within n bit (All-head (AtMost n) bit bits each)) (λ _. All-head (AtMost n) bit bits each))
    (differs_within n j bits (All-tail (AtMost n) bit bits each))

-- what fits fewer variables fits more
pub more_clauses : (n m : ℕ) → n ≤ m → (clauses : List (List ℕ)) → All (All (AtMost n)) clauses → All (All (AtMost m)) clauses
more_clauses n m h clauses each =
    All-weaker (All (AtMost n)) (All (AtMost m)) (λ lits lits_each. All-weaker (AtMost n) (AtMost m) (λ l le. let e : l ≤ 2 * n + 1 = le in omega arith) lits lits_each) clauses each

module _ (x : Claim) (circuit : IsCircuit x.circuit) (list : IsNodeList x.nodes) (fits : IsWitnessFor x) where
  abbrev F : ℕ
  F = frame_size x

  abbrev Fits : ℕ → Type 0
  Fits = AtMost F

  abbrev FitsBoth : ℕ → Type 0
  FitsBoth = AtMost (2 * F)

  both : (l : ℕ) → Fits l → FitsBoth l
  both l h = let e : l ≤ 2 * F + 1 = h in omega arith

  ahead : (l : ℕ) → Fits l → FitsBoth (shifted x l)
  ahead l h = let e : l ≤ 2 * F + 1 = h in cond_both (nat_lt l 2) l (l + 2 * F) FitsBoth (λ _. omega arith) (λ _. omega arith)

  of_circuit : (l : ℕ) → l ≤ 2 * x.circuit.variables + 1 → Fits l
  of_circuit l h = omega arith

  pub start_within : All (All Fits) (start x)
  start_within =
      All-append (All Fits) (map (λ latch. reset latch ∷ []) x.circuit.latches ++ numbered own_reset 0 x.witness.latches) ((truth_literal x x.form ∷ []) ∷ [])
      (All-append (All Fits) (map (λ latch. reset latch ∷ []) x.circuit.latches) (numbered own_reset 0 x.witness.latches)
      (one_each F reset x.circuit.latches (All-weaker (λ (latch : Latch). latch.literal ≤ 2 * x.circuit.variables + 1) (λ latch. Fits (reset latch)) resets x.circuit.latches (latches_within x.circuit circuit)))
      (within_numbered F own_reset 0 x.witness.latches own_resets))
      (within_one F (truth_literal x x.form) (truth_within x circuit list fits x.form (own_occurs x.nodes list x.form)))
    where
      reset : Latch → ℕ
      reset latch = cond latch.reset latch.literal (opposite latch.literal)

      own_reset : ℕ → ℕ → List (List ℕ)
      own_reset k _ = (opposite (latch_literal x k) ∷ []) ∷ []

      resets : (latch : Latch) → latch.literal ≤ 2 * x.circuit.variables + 1 → Fits (reset latch)
      resets latch h =
          let e : Fits latch.literal = of_circuit latch.literal h in
          cond_both latch.reset latch.literal (opposite latch.literal) Fits (λ _. e) (λ _. opposite_within F latch.literal e)

      own_resets : (k next : ℕ) → slice_get x.witness.latches k ≡ Some next → All (All Fits) (own_reset (0 + k) next)
      own_resets k next at =
          let few : k < length x.witness.latches = slice_get_within x.witness.latches k next at in
          let none : 0 + k ≡ k = omega arith in
          subst (λ j. All (All Fits) (own_reset j next)) (sym none)
          (within_one F (opposite (latch_literal x k)) (opposite_within F (latch_literal x k) (omega arith)))

  ahead_within : (v : ℕ) (node : Node) → Fits v → ((a : FormulaId) → In a.0 (parts_of node) → Fits (truth_literal x a)) → All (All FitsBoth) (node_ahead x v node)
  ahead_within v True hv parts = All-nil (All FitsBoth)
  ahead_within v False hv parts = All-nil (All FitsBoth)
  ahead_within v (Signal s) hv parts = All-nil (All FitsBoth)
  ahead_within v (Not a) hv parts = All-nil (All FitsBoth)
  ahead_within v (Next a) hv parts = within_equal (2 * F) v (shifted x (truth_literal x a)) (both v hv) (ahead (truth_literal x a) (parts a (inl refl)))
  ahead_within v (Finally a) hv parts = All-nil (All FitsBoth)
  ahead_within v (Globally a) hv parts = All-nil (All FitsBoth)
  ahead_within v (And a b) hv parts = All-nil (All FitsBoth)
  ahead_within v (Or a b) hv parts = All-nil (All FitsBoth)
  ahead_within v (Implies a b) hv parts = All-nil (All FitsBoth)
  ahead_within v (Equiv a b) hv parts = All-nil (All FitsBoth)
  ahead_within v (Until a b) hv parts =
      let ta : FitsBoth (truth_literal x a) = both (truth_literal x a) (parts a (inl refl)) in
      let tb : FitsBoth (truth_literal x b) = both (truth_literal x b) (parts b (inr (inl refl))) in
      two_clauses (2 * F) (opposite v ∷ truth_literal x b ∷ shifted x v ∷ []) (v ∷ opposite (truth_literal x a) ∷ opposite (shifted x v) ∷ [])
      (within_three (2 * F) (opposite v) (truth_literal x b) (shifted x v) (opposite_within (2 * F) v (both v hv)) tb (ahead v hv))
      (within_three (2 * F) v (opposite (truth_literal x a)) (opposite (shifted x v)) (both v hv) (opposite_within (2 * F) (truth_literal x a) ta)
      (opposite_within (2 * F) (shifted x v) (ahead v hv)))
  ahead_within v (Release a b) hv parts =
      let ta : FitsBoth (truth_literal x a) = both (truth_literal x a) (parts a (inl refl)) in
      let tb : FitsBoth (truth_literal x b) = both (truth_literal x b) (parts b (inr (inl refl))) in
      two_clauses (2 * F) (opposite v ∷ truth_literal x a ∷ shifted x v ∷ []) (v ∷ opposite (truth_literal x b) ∷ opposite (shifted x v) ∷ [])
      (within_three (2 * F) (opposite v) (truth_literal x a) (shifted x v) (opposite_within (2 * F) v (both v hv)) ta (ahead v hv))
      (within_three (2 * F) v (opposite (truth_literal x b)) (opposite (shifted x v)) (both v hv) (opposite_within (2 * F) (truth_literal x b) tb)
      (opposite_within (2 * F) (shifted x v) (ahead v hv)))
  ahead_within v (WeakUntil a b) hv parts = All-nil (All FitsBoth)

  pub step_within : All (All FitsBoth) (step x)
  step_within =
      All-append (All FitsBoth) (flat_map moves x.circuit.latches ++ flat_map truths (ids x)) (numbered own_moves 0 x.witness.latches)
      (All-append (All FitsBoth) (flat_map moves x.circuit.latches) (flat_map truths (ids x))
      (within_each (2 * F) moves x.circuit.latches (λ k d h.
      within_equal (2 * F) (shifted x (get_or x.circuit.latches k d).literal) (get_or x.circuit.latches k d).next
      (ahead (get_or x.circuit.latches k d).literal (of_circuit (get_or x.circuit.latches k d).literal (latches_within x.circuit circuit k d h)))
      (both (get_or x.circuit.latches k d).next (of_circuit (get_or x.circuit.latches k d).next (nexts_within x.circuit circuit k d h)))))
      (within_each (2 * F) truths (ids x) (all_in (λ g. All (All FitsBoth) (truths g)) (ids x)
      (λ g is. ahead_within (truth_literal x (as_id g)) (node_at x.nodes g) (truth_within x circuit list fits (as_id g) is)
      (λ a part. truth_within x circuit list fits a (parts_occur x.nodes list x.form g a.0 is part))))))
      (within_numbered (2 * F) own_moves 0 x.witness.latches own_moves_within)
    where
      moves : Latch → List (List ℕ)
      moves latch = equal (shifted x latch.literal) latch.next

      truths : ℕ → List (List ℕ)
      truths g = node_ahead x (truth_literal x (as_id g)) (node_at x.nodes g)

      own_moves : ℕ → ℕ → List (List ℕ)
      own_moves k next = equal (shifted x (latch_literal x k)) next

      own_moves_within : (k next : ℕ) → slice_get x.witness.latches k ≡ Some next → All (All FitsBoth) (own_moves (0 + k) next)
      own_moves_within k next at =
          let few : k < length x.witness.latches = slice_get_within x.witness.latches k next at in
          let none : 0 + k ≡ k = omega arith in
          let of_frame : Fits next = subst Fits (get_or_from_slice_get x.witness.latches k next 0 at) (fits.latches k 0 few) in
          subst (λ j. All (All FitsBoth) (own_moves j next)) (sym none)
          (within_equal (2 * F) (shifted x (latch_literal x k)) next (ahead (latch_literal x k) (omega arith)) (both next of_frame))

  pub next_within : All (All FitsBoth) (next_frame x)
  next_within =
      All-map (All FitsBoth) (map (shifted x)) (frame x)
      (All-weaker (All Fits) (λ lits. All FitsBoth (map (shifted x) lits)) (λ lits each. All-map FitsBoth (shifted x) lits (All-weaker Fits (λ l. FitsBoth (shifted x l)) ahead lits each))
      (frame x) (frame_within x circuit list fits))

  rises_within : (n : ℕ) (bits : List ℕ) → 2 * F + 1 + length bits ≤ n → All Fits bits → All (All (AtMost n)) (bits_rise x bits)
  rises_within n [] h each = All-nil (All (AtMost n))
  rises_within n (bit ∷ bits) h each =
      let here : Fits bit = All-head Fits bit bits each in
      let now_in : AtMost n bit = let e : bit ≤ 2 * F + 1 = here in omega arith in
      let next_in : AtMost n (shifted x bit) = let e : shifted x bit ≤ 2 * (2 * F) + 1 = ahead bit here in omega arith in
      let rise_in : AtMost n (rise_literal x (length bits + 1)) = omega arith in
      let lower_in : AtMost n (rise_literal x (length bits)) = omega arith in
      let not_rise : AtMost n (opposite (rise_literal x (length bits + 1))) = opposite_within n (rise_literal x (length bits + 1)) rise_in in
      All-append (All (AtMost n)) (bits_rise x bits) (bit_rises x (length bits) bit) (rises_within n bits (omega arith) (All-tail Fits bit bits each))
      (three_clauses n (opposite (rise_literal x (length bits + 1)) ∷ shifted x bit ∷ opposite bit ∷ []) (opposite (rise_literal x (length bits + 1)) ∷ shifted x bit ∷ rise_literal x (length bits) ∷ [])
      (opposite (rise_literal x (length bits + 1)) ∷ opposite bit ∷ rise_literal x (length bits) ∷ [])
      (within_three n (opposite (rise_literal x (length bits + 1))) (shifted x bit) (opposite bit) not_rise next_in (opposite_within n bit now_in))
      (within_three n (opposite (rise_literal x (length bits + 1))) (shifted x bit) (rise_literal x (length bits)) not_rise next_in lower_in)
      (within_three n (opposite (rise_literal x (length bits + 1))) (opposite bit) (rise_literal x (length bits)) not_rise (opposite_within n bit now_in) lower_in))

  fall_within : (p : Part) → IsPartFor x p → (n : ℕ) → n ≡ 2 * F + 1 + length p.rank → All (All (AtMost n)) (fall x p)
  fall_within p part n is =
      All-append (All (AtMost n)) (numbered waits 0 (named_untils x p) ++ bits_rise x p.rank) ((rise_literal x (length p.rank) ∷ []) ∷ [])
      (All-append (All (AtMost n)) (numbered waits 0 (named_untils x p)) (bits_rise x p.rank)
      (within_numbered n waits 0 (named_untils x p) waits_within) (rises_within n p.rank (omega arith) part.rank))
      (within_one n (rise_literal x (length p.rank)) (omega arith))
    where
      waits : ℕ → Awaited → List (List ℕ)
      waits j u = (opposite (rise_literal x 0) ∷ not_awaited x p j u) ∷ []

      small : (l : ℕ) → FitsBoth l → AtMost n l
      small l h = let e : l ≤ 2 * (2 * F) + 1 = h in omega arith

      index_in : (j : ℕ) → All Fits (differs j p.index)
      index_in j = differs_within F j p.index part.index

      clause_in : (j : ℕ) (u : Awaited) → IsOfFrameBoth x u → All (AtMost n) (opposite (rise_literal x 0) ∷ not_awaited x p j u)
      clause_in j u of_frame =
          All-cons (AtMost n) (opposite (rise_literal x 0)) (not_awaited x p j u) (opposite_within n (rise_literal x 0) (omega arith))
          (All-append (AtMost n) (differs j p.index ++ map (shifted x) (differs j p.index)) (opposite u.until ∷ u.right ∷ [])
          (All-append (AtMost n) (differs j p.index) (map (shifted x) (differs j p.index))
          (All-weaker Fits (AtMost n) (λ l h. small l (both l h)) (differs j p.index) (index_in j))
          (All-map (AtMost n) (shifted x) (differs j p.index) (All-weaker Fits (λ l. AtMost n (shifted x l)) (λ l h. small (shifted x l) (ahead l h)) (differs j p.index) (index_in j))))
          (within_two n (opposite u.until) u.right (small (opposite u.until) (both (opposite u.until) (opposite_within F u.until of_frame.until))) (small u.right (both u.right of_frame.right))))

      waits_within : (k : ℕ) (u : Awaited) → slice_get (named_untils x p) k ≡ Some u → All (All (AtMost n)) (waits (0 + k) u)
      waits_within k u at =
          let few : k < length (named_untils x p) = slice_get_within (named_untils x p) k u at in
          let of_frame : IsOfFrameBoth x u = subst (IsOfFrameBoth x) (get_or_from_slice_get (named_untils x p) k u u at) (named_in_frame x list circuit fits p k u few) in
          All-cons (All (AtMost n)) (opposite (rise_literal x 0) ∷ not_awaited x p (0 + k) u) [] (clause_in (0 + k) u of_frame) (All-nil (All (AtMost n)))

  abbrev no_part : Part
  no_part = record { start = 0; inv = 0; rank = []; index = [] }

  one : (n l : ℕ) → AtMost n l → All (AtMost n) (l ∷ [])
  one n l h = All-cons (AtMost n) l [] h (All-nil (AtMost n))

  pub own_within : (o : Obligation) → IsObligationOf x.witness o → All (All (AtMost (variables_of x o))) (own x o)
  own_within Base is = within_one F (opposite x.witness.always) (opposite_within F x.witness.always fits.always)
  own_within Keep is =
      two_clauses (2 * F) (x.witness.always ∷ []) (opposite (shifted x x.witness.always) ∷ []) (one (2 * F) x.witness.always (both x.witness.always fits.always))
      (one (2 * F) (opposite (shifted x x.witness.always)) (opposite_within (2 * F) (shifted x x.witness.always) (ahead x.witness.always fits.always)))
  own_within Cover is =
      All-cons (All Fits) (x.witness.always ∷ []) (map (λ (part : Part). opposite part.start ∷ []) x.witness.parts) (one F x.witness.always fits.always)
      (one_each F (λ (part : Part). opposite part.start) x.witness.parts
      (All-weaker (IsPartFor x) (λ (part : Part). Fits (opposite part.start)) (λ part is_for. opposite_within F part.start is_for.start) x.witness.parts fits.parts))
  own_within (Enter n) is =
      let part : IsPartFor x (part_at x n) = fits.parts n no_part is in
      three_clauses F (x.witness.always ∷ []) ((part_at x n).start ∷ []) (opposite (part_at x n).inv ∷ []) (one F x.witness.always fits.always) (one F (part_at x n).start part.start)
      (one F (opposite (part_at x n).inv) (opposite_within F (part_at x n).inv part.inv))
  own_within (Stay n) is =
      let part : IsPartFor x (part_at x n) = fits.parts n no_part is in
      All-cons (All FitsBoth) (x.witness.always ∷ []) ((shifted x x.witness.always ∷ []) ∷ ((part_at x n).inv ∷ []) ∷ (opposite (shifted x (part_at x n).inv) ∷ []) ∷ [])
      (one (2 * F) x.witness.always (both x.witness.always fits.always))
      (three_clauses (2 * F) (shifted x x.witness.always ∷ []) ((part_at x n).inv ∷ []) (opposite (shifted x (part_at x n).inv) ∷ [])
      (one (2 * F) (shifted x x.witness.always) (ahead x.witness.always fits.always)) (one (2 * F) (part_at x n).inv (both (part_at x n).inv part.inv))
      (one (2 * F) (opposite (shifted x (part_at x n).inv)) (opposite_within (2 * F) (shifted x (part_at x n).inv) (ahead (part_at x n).inv part.inv))))
  own_within (Fall n) is =
      let part : IsPartFor x (part_at x n) = fits.parts n no_part is in
      All-cons (All (AtMost (variables_of x (Fall n)))) (x.witness.always ∷ [])
      ((shifted x x.witness.always ∷ []) ∷ ((part_at x n).inv ∷ []) ∷ (shifted x (part_at x n).inv ∷ []) ∷ fall x (part_at x n))
      (one (variables_of x (Fall n)) x.witness.always (wide n x.witness.always (both x.witness.always fits.always)))
      (All-cons (All (AtMost (variables_of x (Fall n)))) (shifted x x.witness.always ∷ []) (((part_at x n).inv ∷ []) ∷ (shifted x (part_at x n).inv ∷ []) ∷ fall x (part_at x n))
      (one (variables_of x (Fall n)) (shifted x x.witness.always) (wide n (shifted x x.witness.always) (ahead x.witness.always fits.always)))
      (All-cons (All (AtMost (variables_of x (Fall n)))) ((part_at x n).inv ∷ []) ((shifted x (part_at x n).inv ∷ []) ∷ fall x (part_at x n))
      (one (variables_of x (Fall n)) (part_at x n).inv (wide n (part_at x n).inv (both (part_at x n).inv part.inv)))
      (All-cons (All (AtMost (variables_of x (Fall n)))) (shifted x (part_at x n).inv ∷ []) (fall x (part_at x n))
      (one (variables_of x (Fall n)) (shifted x (part_at x n).inv) (wide n (shifted x (part_at x n).inv) (ahead (part_at x n).inv part.inv)))
      (fall_within (part_at x n) part (variables_of x (Fall n)) refl))))
    where
      wide : (n l : ℕ) → FitsBoth l → AtMost (variables_of x (Fall n)) l
      wide n l h = let e : l ≤ 2 * (2 * F) + 1 = h in omega arith
