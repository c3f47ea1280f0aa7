-- What a `Marks` keeps, when it is made, and when it gains or loses its last literal.
use Rattle.std.proofs.Common.{◌≡◌, ◌≢◌, ℕ, ◌+◌, ◌-◌, ◌*◌, ◌<◌, ◌≤◌, Bool, true, false, List, [], ◌∷◌, ◌++◌, ◌⊎◌, inl, inr, Option, Some, None, set, get_or, take, slice_get, replicate, length, refl, sym, subst, ap, ◌∙◌, true≢false, arith}
use Rattle.std.specs.List.{sum_by}
use Rattle.std.specs.Prelude.{AllPairs, Contains, unwrap_or}
use Rattle.std.specs.Bool.{OnTrue, OnFalse}
use Rattle.std.proofs.lemmas.List.{length_push, length-set, length-replicate, map-append, take_all, take_more}
use Rattle.std.proofs.lemmas.List.Elements.{All-nil, All-push, All-contains, Contains-append_left, Contains-push, Contains-push_cases}
use Rattle.std.proofs.lemmas.List.Folds.{sum_by-replicate}
use Rattle.std.proofs.lemmas.List.Sums.{sum_by-set}
use Rattle.std.proofs.lemmas.Option.{slice_get_within, slice_get-get_or, get_or_from_slice_get}
use Rattle.std.proofs.lemmas.Bool.{cases_eq, OnTrue_from, OnFalse_from}
use Rattle.std_lemmas.proofs.Lists.{Contains-none, All-front, slice_get-append, slice_get-push}
use Rattle.propositional_logic.specs.Literal.{Literal}
use Rattle.unit_propagate.specs.declared.marks.Mark.{Mark}
use Rattle.unit_propagate.specs.declared.marks.Slot.{Slot}
use Rattle.propositional_logic.specs.Codes.{code_of}
use Rattle.unit_propagate.specs.Trail.{IsFree, IsTrail, highest_level, literals_of}
use Rattle.unit_propagate.specs.Marks.{IsMarks, room_of, vacant}
use Rattle.unit_propagate.proofs.Places.{slice_get-last, slice_get-set_same, slice_get-set_other, slice_get-replicate, All-from_slice_get, All-slice_get, AllPairs-last}
use Rattle.unit_propagate.proofs.CodeLemmas.{code_same, code_below}
use Rattle.unit_propagate.proofs.TrailLemmas.{highest_bound, highest-push, literal-of, mark-of, IsTrail-push, IsTrail-front}

-- ---- the table of true literals
literals-push : (marks : List Mark) (m : Mark) (l : Literal) → Contains (literals_of (marks ++ m ∷ [])) l → Contains (literals_of marks) l ⊎ (m.lit ≡ l)
literals-push marks m l h = Contains-push_cases (literals_of marks) m.lit l (subst (λ ls. Contains ls l) (map-append (λ (m : Mark). m.lit) marks (m ∷ [])) h)

none_marked : (room : ℕ) (l : Literal) → slice_get (replicate room false) (code_of l) ≡ Some true → ⊥
none_marked room l e = let s : true ≡ false = slice_get-replicate room false (code_of l) true e in true≢false s

pub IsMarks-new : (vars room capacity : ℕ) (slots : List (Option Slot)) (trues : List Bool) (marks : List Mark) → marks ≡ [] → room ≡ room_of vars → slots ≡ replicate room None → trues ≡ replicate (2 * room) false → capacity ≡ room → IsMarks vars slots trues marks capacity
IsMarks-new vars room capacity slots trues marks none r s t c = subst (λ ms. IsMarks vars slots trues ms capacity) (sym none) (
    let len : length slots ≡ room = ap length s ∙ length-replicate room None in
    let total : sum_by vacant slots ≡ room * 1 = ap (sum_by vacant) s ∙ sum_by-replicate vacant room None in
    record {
      trail = record { within = All-nil (λ m. (0 < m.lit.var) × (m.lit.var ≤ vars)); once = λ i j d l h. absurd (omega arith); rising = λ i j d l h. absurd (omega arith) };
      size = len ∙ r;
      found = λ v p e. absurd (let k : slice_get (replicate room None) v ≡ Some (Some p) = subst (λ x. slice_get x v ≡ Some (Some p)) s e in
          let n : Some p ≡ None = slice_get-replicate room None v (Some p) k in cc);
      free = λ v e. All-nil (λ m. m.lit.var ≢ v);
      trues_size = ap length t ∙ length-replicate (2 * room) false ∙ ap (λ n. 2 * n) r;
      is_marked = λ l e. absurd (none_marked (2 * room) l (subst (λ x. slice_get x (code_of l) ≡ Some true) t e));
      has_mark = λ l h. absurd (Contains-none l h);
      bounded = All-nil (λ m. m.lit.var < room_of vars);
      count = omega arith;
      room = omega arith;
      levels = λ i m e. absurd (cc);
    })

-- the highest level is at most the number of literals
pub highest_small : (vars : ℕ) (slots : List (Option Slot)) (trues : List Bool) (marks : List Mark) (capacity : ℕ) → IsMarks vars slots trues marks capacity → highest_level marks ≤ length marks
highest_small vars slots trues marks capacity m =
    highest_bound marks (length marks) (All-from_slice_get (λ k. k.level ≤ length marks) marks (λ i k e.
    let a : k.level ≤ i + 1 = m.levels i k e in let b : i < length marks = slice_get_within marks i k e in omega arith))

-- a variable without a value leaves room
pub has_room : (vars : ℕ) (slots : List (Option Slot)) (trues : List Bool) (marks : List Mark) (capacity v : ℕ) → IsMarks vars slots trues marks capacity → v < room_of vars → IsFree marks v
    → slice_get slots v ≡ Some None
has_room vars slots trues marks capacity v m l f = by (get_or slots v None) (slice_get-get_or slots v None (let s : length slots ≡ room_of vars = m.size in omega arith))
  where
    by : (o : Option Slot) → slice_get slots v ≡ Some o → slice_get slots v ≡ Some None
    by None e = e
    by (Some p) e = absurd (let k = m.found v p e in All-slice_get (λ n. n.lit.var ≢ v) marks p.place k.0 f k.1 (ap (λ (a : Literal). a.var) k.2))

pub has_place : (vars : ℕ) (slots : List (Option Slot)) (trues : List Bool) (marks : List Mark) (capacity v : ℕ) (p : Slot) → IsMarks vars slots trues marks capacity → v < room_of vars → IsFree marks v
    → (sum_by vacant (set slots v (Some p)) + 1 ≡ sum_by vacant slots) × (length marks < room_of vars)
has_place vars slots trues marks capacity v p m l f =
    let s : length slots ≡ room_of vars = m.size in
    let e : get_or slots v None ≡ None = get_or_from_slice_get slots v None None (has_room vars slots trues marks capacity v m l f) in
    let w : vacant (get_or slots v None) ≡ 1 = ap vacant e in
    let t : sum_by vacant (set slots v (Some p)) + vacant (get_or slots v None) ≡ sum_by vacant slots + 0 = sum_by-set vacant slots v (Some p) None (omega arith) in
    let c : length marks + sum_by vacant slots ≡ room_of vars = m.count in
    (omega arith, omega arith)

pub IsMarks-push : (vars : ℕ) (slots : List (Option Slot)) (trues : List Bool) (marks : List Mark) (capacity : ℕ) (m : Mark) (p : Slot) (after : List Mark) (capacity' : ℕ)
    → IsMarks vars slots trues marks capacity → 0 < m.lit.var → m.lit.var ≤ vars → m.lit.var < room_of vars → IsFree marks m.lit.var
    → highest_level marks ≤ m.level → m.level ≤ highest_level marks + 1 → p.place ≡ length marks → p.positive ≡ m.lit.positive
    → after ≡ marks ++ m ∷ [] → capacity ≤ capacity' → IsMarks vars (set slots m.lit.var (Some p)) (set trues (code_of m.lit) true) after capacity'
IsMarks-push vars slots trues marks capacity m p after capacity' k low high fits f above next place sign is room =
    let size : length slots ≡ room_of vars = k.size in
    let len : length (marks ++ m ∷ []) ≡ length marks + 1 = length_push marks m in
    let counted = has_place vars slots trues marks capacity m.lit.var p k fits f in
    let less : sum_by vacant (set slots m.lit.var (Some p)) + 1 ≡ sum_by vacant slots = counted.0 in
    let count : length marks + sum_by vacant slots ≡ room_of vars = k.count in
    let small : highest_level marks ≤ length marks = highest_small vars slots trues marks capacity k in
    let enough : room_of vars ≤ capacity = k.room in
    subst (λ ms. IsMarks vars (set slots m.lit.var (Some p)) (set trues (code_of m.lit) true) ms capacity') (sym is) (record {
      trail = IsTrail-push vars marks m k.trail low high f above;
      size = length-set slots m.lit.var (Some p) ∙ k.size;
      found = λ v q e. found v q e (cases_eq v m.lit.var);
      free = λ v e. free v e (cases_eq v m.lit.var);
      trues_size = length-set trues (code_of m.lit) true ∙ k.trues_size;
      is_marked = λ l e. marked l e (cases_eq (code_of l) (code_of m.lit));
      has_mark = λ l h. mark l (cases_eq (code_of l) (code_of m.lit)) (literals-push marks m l h);
      bounded = All-push (λ n. n.lit.var < room_of vars) marks m k.bounded fits;
      count = omega arith;
      room = omega arith;
      levels = λ i n e. elim (slice_get-push marks m i n e) [
        | inl o ↦ k.levels i n o
        | inr q ↦ let s : m ≡ n = q.1 in let ls : m.level ≡ n.level = ap (λ (x : Mark). x.level) s in let is : i ≡ length marks = q.0 in omega arith
      ];
    })
  where
    set_here : slice_get (set trues (code_of m.lit) true) (code_of m.lit) ≡ Some true
    set_here =
        slice_get-set_same trues (code_of m.lit) true
        (let lt : code_of m.lit < 2 * room_of vars = code_below (room_of vars) m.lit fits in let size : length trues ≡ 2 * room_of vars = k.trues_size in omega arith)

    marked : (l : Literal) → slice_get (set trues (code_of m.lit) true) (code_of l) ≡ Some true → (code_of l ≡ code_of m.lit) ⊎ (code_of l ≢ code_of m.lit)
        → Contains (literals_of (marks ++ m ∷ [])) l
    marked l e (inl same) = subst (Contains (literals_of (marks ++ m ∷ []))) (sym (code_same l m.lit same)) (literal-of (marks ++ m ∷ []) m (Contains-push marks m))
    marked l e (inr n) =
        subst (λ ls. Contains ls l) (sym (map-append (λ (m : Mark). m.lit) marks (m ∷ [])))
        (Contains-append_left (literals_of marks) (m.lit ∷ []) l (k.is_marked l (sym (slice_get-set_other trues (code_of m.lit) (code_of l) true n) ∙ e)))

    mark : (l : Literal) → (code_of l ≡ code_of m.lit) ⊎ (code_of l ≢ code_of m.lit) → Contains (literals_of marks) l ⊎ (m.lit ≡ l)
        → slice_get (set trues (code_of m.lit) true) (code_of l) ≡ Some true
    mark l (inl same) h = subst (λ c. slice_get (set trues (code_of m.lit) true) c ≡ Some true) (sym same) set_here
    mark l (inr n) (inl old) = slice_get-set_other trues (code_of m.lit) (code_of l) true n ∙ k.has_mark l old
    mark l (inr n) (inr is) = absurd (n (ap code_of (sym is)))

    found : (v : ℕ) (q : Slot) → slice_get (set slots m.lit.var (Some p)) v ≡ Some (Some q) → (v ≡ m.lit.var) ⊎ (v ≢ m.lit.var)
        → (n : Mark) × (slice_get (marks ++ m ∷ []) q.place ≡ Some n) × (n.lit ≡ record { var = v; positive = q.positive })
    found v q e (inl s) =
        let size : length slots ≡ room_of vars = k.size in
        let w : slice_get (set slots m.lit.var (Some p)) v ≡ Some (Some p) = subst (λ x. slice_get (set slots m.lit.var (Some p)) x ≡ Some (Some p)) (sym s) (slice_get-set_same slots m.lit.var (Some p) (omega arith)) in
        let same : p ≡ q = cc in
        let there : slice_get (marks ++ m ∷ []) q.place ≡ Some m = subst (λ x. slice_get (marks ++ m ∷ []) x ≡ Some m) (sym place ∙ ap (λ (x : Slot). x.place) same) (slice_get-last marks m) in
        let sign' : m.lit.positive ≡ q.positive = sym sign ∙ ap (λ (x : Slot). x.positive) same in
        let var' : m.lit.var ≡ v = sym s in
        (m, there, λ i. record { var = var' i; positive = sign' i })
    found v q e (inr n) =
        let o = k.found v q (sym (slice_get-set_other slots m.lit.var v (Some p) n) ∙ e) in
        (o.0, slice_get-append marks (m ∷ []) q.place o.0 o.1, o.2)

    free : (v : ℕ) → slice_get (set slots m.lit.var (Some p)) v ≡ Some None → (v ≡ m.lit.var) ⊎ (v ≢ m.lit.var) → IsFree (marks ++ m ∷ []) v
    free v e (inl s) =
        absurd (let size : length slots ≡ room_of vars = k.size in
        let w : slice_get (set slots m.lit.var (Some p)) v ≡ Some (Some p) = subst (λ x. slice_get (set slots m.lit.var (Some p)) x ≡ Some (Some p)) (sym s) (slice_get-set_same slots m.lit.var (Some p) (omega arith)) in cc)
    free v e (inr n) = All-push (λ x. x.lit.var ≢ v) marks m (k.free v (sym (slice_get-set_other slots m.lit.var v (Some p) n) ∙ e)) (λ z. n (sym z))

-- the last literal is taken off
module _ (vars : ℕ) (slots : List (Option Slot)) (trues : List Bool) (marks : List Mark) (capacity : ℕ) (m : Mark) (v : ℕ) (vs : v ≡ m.lit.var)
    (k : IsMarks vars slots trues (marks ++ m ∷ []) capacity) where
  found_left : (w : ℕ) (q : Slot) → slice_get (set slots v None) w ≡ Some (Some q) → (w ≡ v) ⊎ (w ≢ v)
      → (v < length slots) → (n : Mark) × (slice_get marks q.place ≡ Some n) × (n.lit ≡ record { var = w; positive = q.positive })
  found_left w q e (inl s) l = absurd (let x : slice_get (set slots v None) w ≡ Some None = subst (λ y. slice_get (set slots v None) y ≡ Some None) (sym s) (slice_get-set_same slots v None l) in cc)
  found_left w q e (inr n) l =
      let o = k.found w q (sym (slice_get-set_other slots v w None n) ∙ e) in
      elim (slice_get-push marks m q.place o.0 o.1) [
        | inl h ↦ (o.0, h, o.2)
        | inr h ↦ absurd (n (sym (ap (λ (a : Literal). a.var) o.2) ∙ ap (λ (a : Mark). a.lit.var) (sym h.1) ∙ sym vs))
      ]

  free_left : (w : ℕ) → slice_get (set slots v None) w ≡ Some None → (w ≡ v) ⊎ (w ≢ v) → IsFree marks w
  free_left w e (inl s) = subst (λ x. IsFree marks x) (sym (s ∙ vs)) (AllPairs-last (λ a b. a.lit.var ≢ b.lit.var) marks m k.trail.once)
  free_left w e (inr n) = All-front (λ x. x.lit.var ≢ w) marks (m ∷ []) (k.free w (sym (slice_get-set_other slots v w None n) ∙ e))

  marked_left : (l : Literal) → slice_get (set trues (code_of m.lit) false) (code_of l) ≡ Some true → (code_of l ≡ code_of m.lit) ⊎ (code_of l ≢ code_of m.lit) → code_of m.lit < length trues
      → Contains (literals_of marks) l
  marked_left l e (inl same) lt =
      absurd (let x : slice_get (set trues (code_of m.lit) false) (code_of l) ≡ Some false = subst (λ c. slice_get (set trues (code_of m.lit) false) c ≡ Some false) (sym same) (slice_get-set_same trues (code_of m.lit) false lt) in
      let t : Some true ≡ Some false = sym e ∙ x in cc)
  marked_left l e (inr n) lt = elim (literals-push marks m l (k.is_marked l (sym (slice_get-set_other trues (code_of m.lit) (code_of l) false n) ∙ e))) [
    | inl old ↦ old
    | inr is ↦ absurd (n (ap code_of (sym is)))
  ]

  -- no other literal has the variable
  mark_left : (l : Literal) → Contains (literals_of marks) l → slice_get (set trues (code_of m.lit) false) (code_of l) ≡ Some true
  mark_left l h =
      let at = mark-of marks l h in
      let apart : at.0.lit.var ≢ m.lit.var = All-contains (λ (a : Mark). a.lit.var ≢ m.lit.var) marks at.0 (AllPairs-last (λ a b. a.lit.var ≢ b.lit.var) marks m k.trail.once) at.1 in
      let other : code_of l ≢ code_of m.lit = λ e. apart (ap (λ (x : Literal). x.var) (at.2 ∙ code_same l m.lit e)) in
      slice_get-set_other trues (code_of m.lit) (code_of l) false other
      ∙ k.has_mark l (subst (λ ls. Contains ls l) (sym (map-append (λ (m : Mark). m.lit) marks (m ∷ []))) (Contains-append_left (literals_of marks) (m.lit ∷ []) l h))

  taken : (o : Option Slot) → slice_get slots v ≡ Some o → vacant o ≡ 0
  taken None e = absurd (All-slice_get (λ x. x.lit.var ≢ v) (marks ++ m ∷ []) (length marks) m (k.free v e) (slice_get-last marks m) (sym vs))
  taken (Some p) e = refl

  left : IsMarks vars (set slots v None) (set trues (code_of m.lit) false) marks capacity
  left =
      let size : length slots ≡ room_of vars = k.size in
      let len : length (marks ++ m ∷ []) ≡ length marks + 1 = length_push marks m in
      let lt : m.lit.var < room_of vars = All-slice_get (λ n. n.lit.var < room_of vars) (marks ++ m ∷ []) (length marks) m k.bounded (slice_get-last marks m) in
      let here : v < length slots = omega arith in
      let full : length trues ≡ 2 * room_of vars = k.trues_size in
      let below : code_of m.lit < length trues = let c : code_of m.lit < 2 * room_of vars = code_below (room_of vars) m.lit lt in omega arith in
      let none : vacant (get_or slots v None) ≡ 0 = taken (get_or slots v None) (slice_get-get_or slots v None here) in
      let total : sum_by vacant (set slots v None) + vacant (get_or slots v None) ≡ sum_by vacant slots + 1 = sum_by-set vacant slots v None None here in
      let count : length (marks ++ m ∷ []) + sum_by vacant slots ≡ room_of vars = k.count in
      record {
        trail = IsTrail-front vars marks (m ∷ []) k.trail;
        size = length-set slots v None ∙ k.size;
        found = λ w q e. found_left w q e (cases_eq w v) here;
        free = λ w e. free_left w e (cases_eq w v);
        trues_size = length-set trues (code_of m.lit) false ∙ k.trues_size;
        is_marked = λ l e. marked_left l e (cases_eq (code_of l) (code_of m.lit)) below;
        has_mark = mark_left;
        bounded = All-front (λ n. n.lit.var < room_of vars) marks (m ∷ []) k.bounded;
        count = omega arith;
        room = k.room;
        levels = λ i n e. k.levels i n (slice_get-append marks (m ∷ []) i n e);
      }

pub IsMarks-pop : (vars : ℕ) (slots : List (Option Slot)) (trues : List Bool) (all marks : List Mark) (capacity : ℕ) (m : Mark) (v : ℕ) (capacity' : ℕ)
    → all ≡ marks ++ m ∷ [] → v ≡ m.lit.var → capacity' ≡ capacity → IsMarks vars slots trues all capacity → IsMarks vars (set slots v None) (set trues (code_of m.lit) false) marks capacity'
IsMarks-pop vars slots trues all marks capacity m v capacity' is vs cs k =
    subst (λ x. IsMarks vars (set slots v None) (set trues (code_of m.lit) false) marks x) (sym cs) (left vars slots trues marks capacity m v vs (subst (λ ms. IsMarks vars slots trues ms capacity) is k))

-- the highest level is that of the last literal
pub last_level : (vars : ℕ) (marks : List Mark) (m : Mark) → IsTrail vars marks → slice_get marks (length marks - 1) ≡ Some m → m.level ≡ highest_level marks
last_level vars marks m t e =
    let lt : length marks - 1 < length marks = slice_get_within marks (length marks - 1) m e in
    let is : marks ≡ take (length marks - 1) marks ++ m ∷ [] =
    sym (take_all (length marks - 1 + 1) marks (omega arith)) ∙ take_more marks (length marks - 1) m lt
    ∙ ap (λ x. take (length marks - 1) marks ++ x ∷ []) (get_or_from_slice_get marks (length marks - 1) m m e) in
    sym (ap highest_level is ∙ highest-push (take (length marks - 1) marks) m (subst (AllPairs (λ m n. m.level ≤ n.level)) is t.rising))

seen : (o : Option Bool) → unwrap_or o false ≡ true → o ≡ Some true
seen None e = absurd (true≢false (sym e))
seen (Some true) e = refl
seen (Some false) e = absurd (true≢false (sym e))

unseen : (o : Option Bool) → unwrap_or o false ≡ false → o ≡ Some true → ⊥
unseen None e h = cc
unseen (Some true) e h = true≢false e
unseen (Some false) e h = true≢false (let s : false ≡ true = cc in sym s)

module _ (vars : ℕ) (slots : List (Option Slot)) (trues : List Bool) (marks : List Mark) (capacity : ℕ) (l : Literal) (code : ℕ) (o : Option Bool) (r : Bool) (k : IsMarks vars slots trues marks capacity)
    (is : code ≡ code_of l) (look : o ≡ slice_get trues code) (answer : r ≡ unwrap_or o false) where
  at : o ≡ slice_get trues (code_of l)
  at = look ∙ ap (slice_get trues) is

  pub true_seen : OnTrue r (Contains (literals_of marks) l)
  true_seen = OnTrue_from r (Contains (literals_of marks) l) (λ e. k.is_marked l (sym at ∙ seen o (sym answer ∙ e)))

  pub true_unseen : OnFalse r (Contains (literals_of marks) l → ⊥)
  true_unseen = OnFalse_from r (Contains (literals_of marks) l → ⊥) (λ e h. unseen o (sym answer ∙ e) (at ∙ k.has_mark l h))
