use Rattle.std.proofs.Common.{◌≡◌, ◌≢◌, ℕ, zero, suc, ◌+◌, ◌-◌, ◌/◌, ◌<◌, List, [], ◌∷◌, ◌++◌, length, get_or, set, refl, sym, ap, subst, ◌∙◌, arith, inl, inr}
use Rattle.std.specs.Prelude.{Contains}
use Rattle.std.specs.List.{sum_by}
use Rattle.std.proofs.lemmas.Bool.{cases_eq, cases_lt}
use Rattle.std.proofs.lemmas.List.{get_or-set_same, get_or-set_other, length-set, length_push, get_or_push, get_or_append_left, get_or_default}
use Rattle.std.proofs.lemmas.List.Sums.{sum_by-set}
use Rattle.std.proofs.lemmas.List.Elements.{Contains-push, Contains-push_cases, Contains-append_left}
use Rattle.aiger_text.specs.declared.circuits.Gate.{Gate}
use Rattle.aiger_text.specs.declared.walks.Mark.{Mark}
use Rattle.aiger_text.specs.declared.walks.Mark.TheVariants.{New, Open, Done}
use Rattle.aiger_text.specs.CircuitType.{DependsOn, IsOrder, gate_at}
use Rattle.aiger_text.specs.CircuitType.DependsOn.{left, right, through}
use Rattle.aiger_text.specs.Walks.{Uses, IsWalk, MayEnter, Goes, HasCycle, mark_at, weight}

-- marks are different
pub new-open : (m : Mark) → m ≡ New → m ≡ Open → ⊥
new-open m a b = let e : New ≡ Open = sym a ∙ b in absurd (cc)

open-done : (m : Mark) → m ≡ Open → m ≡ Done → ⊥
open-done m a b = let e : Open ≡ Done = sym a ∙ b in absurd (cc)

-- places with different marks are different
apart_by : (marks : List Mark) (i k : ℕ) (a b : Mark) → mark_at marks i ≡ a → mark_at marks k ≡ b → (a ≡ b → ⊥) → i ≢ k
apart_by marks i k a b ia kb ne e = ne (sym ia ∙ ap (mark_at marks) e ∙ kb)

module _ (gates : List Gate) (marks : List Mark) (stack order : List ℕ) (walk : IsWalk gates marks stack order) where
  module _ (place : ℕ) (may : MayEnter gates marks stack place) where
    abbrev opened : List Mark
    opened = set marks place Open

    pub opened_here : mark_at opened place ≡ Open
    opened_here = let within : place < length marks = rw walk.places may.within in get_or-set_same marks place Open Done within

    opened_other : (k : ℕ) → k ≢ place → mark_at opened k ≡ mark_at marks k
    opened_other k ne = get_or-set_other marks place k Open Done ne

    not_done : (k : ℕ) → mark_at marks k ≡ Done → k ≢ place
    not_done k is = apart_by marks k place Done New is may.new (λ e. absurd (cc))

    not_open : (k : ℕ) → mark_at marks k ≡ Open → k ≢ place
    not_open k is = apart_by marks k place Open New is may.new (λ e. absurd (cc))

    stays_done : (k : ℕ) → mark_at marks k ≡ Done → mark_at opened k ≡ Done
    stays_done k is = opened_other k (not_done k is) ∙ is

    pub enter_walk : IsWalk gates opened (stack ++ place ∷ []) order
    enter_walk =
        let n : length (stack ++ place ∷ []) ≡ length stack + 1 = length_push stack place in
        record {
          places = length-set marks place Open ∙ walk.places;
          done_within = walk.done_within;
          done = λ i h. stays_done (get_or order i 0) (walk.done i h);
          listed = λ k h is. elim (cases_eq k place) [
            | inl here ↦ absurd (open-done (mark_at opened place) opened_here (ap (mark_at opened) (sym here) ∙ is))
            | inr other ↦ walk.listed k h (sym (opened_other k other) ∙ is)
          ];
          once = walk.once;
          closed = λ i h hi hh uses. stays_done h (walk.closed i h hi hh uses);
          behind = walk.behind;
          open_within = λ i h. elim (cases_lt i (length stack)) [
            | inl before ↦ rw (get_or_append_left stack (place ∷ []) 0 i before) (walk.open_within i before)
            | inr last ↦ let e : length stack ≡ i = omega (arith, n) in rw (get_or_push stack place 0 i e) may.within
          ];
          is_open = λ i h. elim (cases_lt i (length stack)) [
            | inl before ↦ rw (get_or_append_left stack (place ∷ []) 0 i before)
                (opened_other (get_or stack i 0) (not_open (get_or stack i 0) (walk.is_open i before)) ∙ walk.is_open i before)
            | inr last ↦ let e : length stack ≡ i = omega (arith, n) in rw (get_or_push stack place 0 i e) opened_here
          ];
          apart = λ i k less h. elim (cases_lt k (length stack)) [
            | inl before ↦
                let both : i < length stack = omega arith in
                rw (get_or_append_left stack (place ∷ []) 0 i both, get_or_append_left stack (place ∷ []) 0 k before) (walk.apart i k less before)
            | inr last ↦
                let both : i < length stack = omega (arith, n) in
                let e : length stack ≡ k = omega (arith, n) in
                rw (get_or_append_left stack (place ∷ []) 0 i both, get_or_push stack place 0 k e) (not_open (get_or stack i 0) (walk.is_open i both))
          ];
          stacked = λ k h is. elim (cases_eq k place) [
            | inl here ↦ subst (Contains (stack ++ place ∷ [])) (sym here) (Contains-push stack place)
            | inr other ↦ Contains-append_left stack (place ∷ []) k (walk.stacked k h (sym (opened_other k other) ∙ is))
          ];
          path = λ i h. elim (cases_lt (i + 1) (length stack)) [
            | inl before ↦
                let first : i < length stack = omega arith in
                rw (get_or_append_left stack (place ∷ []) 0 i first, get_or_append_left stack (place ∷ []) 0 (i + 1) before) (walk.path i before)
            | inr last ↦
                let first : i < length stack = omega (arith, n) in
                let e : length stack ≡ i + 1 = omega (arith, n) in
                rw (get_or_append_left stack (place ∷ []) 0 i first, get_or_push stack place 0 (i + 1) e) (may.used i (sym e))
          ];
        }

    pub enter_goes : Goes marks opened
    enter_goes =
        let within : place < length marks = rw walk.places may.within in
        let sum : sum_by weight opened + weight (mark_at marks place) ≡ sum_by weight marks + 1 = sum_by-set weight marks place Open Done within in
        let two : weight (mark_at marks place) ≡ 2 = ap weight may.new in
        record {
          keeps_done = stays_done;
          no_new = λ k is. elim (cases_eq k place) [
            | inl here ↦ absurd (new-open (mark_at opened k) is (ap (mark_at opened) here ∙ opened_here))
            | inr other ↦ sym (opened_other k other) ∙ is
          ];
          lower = omega (arith, sum, two);
        }

module _ (gates : List Gate) (marks : List Mark) (rest order : List ℕ) (top : ℕ) (walk : IsWalk gates marks (rest ++ top ∷ []) order)
    (ready : (h : ℕ) → h < length gates → Uses gates top h → mark_at marks h ≡ Done) where
  abbrev closed_marks : List Mark
  closed_marks = set marks top Done

  n : length (rest ++ top ∷ []) ≡ length rest + 1
  n = length_push rest top

  last_is : get_or (rest ++ top ∷ []) (length rest) 0 ≡ top
  last_is = get_or_push rest top 0 (length rest) refl

  pub top_within : top < length gates
  top_within = subst (λ (k : ℕ). k < length gates) last_is (walk.open_within (length rest) (omega (arith, n)))

  top_open : mark_at marks top ≡ Open
  top_open = subst (λ (k : ℕ). mark_at marks k ≡ Open) last_is (walk.is_open (length rest) (omega (arith, n)))

  closed_here : mark_at closed_marks top ≡ Done
  closed_here = let within : top < length marks = rw walk.places top_within in get_or-set_same marks top Done Done within

  closed_other : (k : ℕ) → k ≢ top → mark_at closed_marks k ≡ mark_at marks k
  closed_other k ne = get_or-set_other marks top k Done Done ne

  done_stays : (k : ℕ) → mark_at marks k ≡ Done → mark_at closed_marks k ≡ Done
  done_stays k is = elim (cases_eq k top) [
    | inl here ↦ ap (mark_at closed_marks) here ∙ closed_here
    | inr other ↦ closed_other k other ∙ is
  ]

  not_top : (k : ℕ) → mark_at marks k ≡ Done → k ≢ top
  not_top k is = apart_by marks k top Done Open is top_open (λ e. absurd (cc))

  top_unused : (g : ℕ) → ((h : ℕ) → h < length gates → Uses gates g h → mark_at marks h ≡ Done) → Uses gates g top → ⊥
  top_unused g all uses = open-done (mark_at marks top) top_open (all top top_within uses)

  pub close_walk : IsWalk gates closed_marks rest (order ++ top ∷ [])
  close_walk =
      let m : length (order ++ top ∷ []) ≡ length order + 1 = length_push order top in
      record {
        places = length-set marks top Done ∙ walk.places;
        done_within = λ i h. elim (cases_lt i (length order)) [
          | inl before ↦ rw (get_or_append_left order (top ∷ []) 0 i before) (walk.done_within i before)
          | inr last ↦ let e : length order ≡ i = omega (arith, m) in rw (get_or_push order top 0 i e) top_within
        ];
        done = λ i h. elim (cases_lt i (length order)) [
          | inl before ↦ rw (get_or_append_left order (top ∷ []) 0 i before) (done_stays (get_or order i 0) (walk.done i before))
          | inr last ↦ let e : length order ≡ i = omega (arith, m) in rw (get_or_push order top 0 i e) closed_here
        ];
        listed = λ k h is. elim (cases_eq k top) [
          | inl here ↦ subst (Contains (order ++ top ∷ [])) (sym here) (Contains-push order top)
          | inr other ↦ Contains-append_left order (top ∷ []) k (walk.listed k h (sym (closed_other k other) ∙ is))
        ];
        once = λ i k less h. elim (cases_lt k (length order)) [
          | inl before ↦
              let both : i < length order = omega arith in
              rw (get_or_append_left order (top ∷ []) 0 i both, get_or_append_left order (top ∷ []) 0 k before) (walk.once i k less before)
          | inr last ↦
              let both : i < length order = omega (arith, m) in
              let e : length order ≡ k = omega (arith, m) in
              rw (get_or_append_left order (top ∷ []) 0 i both, get_or_push order top 0 k e) (not_top (get_or order i 0) (walk.done i both))
        ];
        closed = λ i h hi hh uses. elim (cases_lt i (length order)) [
          | inl before ↦ done_stays h (walk.closed i h before hh (subst (λ (g : ℕ). Uses gates g h) (get_or_append_left order (top ∷ []) 0 i before) uses))
          | inr last ↦
              let e : length order ≡ i = omega (arith, m) in
              done_stays h (ready h hh (subst (λ (g : ℕ). Uses gates g h) (get_or_push order top 0 i e) uses))
        ];
        behind = λ i k le h uses. elim (cases_lt k (length order)) [
          | inl before ↦
              let both : i < length order = omega arith in
              walk.behind i k le before
              (subst (λ (g : ℕ). Uses gates g (get_or order k 0)) (get_or_append_left order (top ∷ []) 0 i both)
              (subst (λ (g : ℕ). Uses gates (get_or (order ++ top ∷ []) i 0) g) (get_or_append_left order (top ∷ []) 0 k before) uses))
          | inr last ↦
              let e : length order ≡ k = omega (arith, m) in
              let of_top : Uses gates (get_or (order ++ top ∷ []) i 0) top =
              subst (λ (g : ℕ). Uses gates (get_or (order ++ top ∷ []) i 0) g) (get_or_push order top 0 k e) uses in
              elim (cases_lt i (length order)) [
                | inl before ↦
                    top_unused (get_or order i 0) (λ h hh u. walk.closed i h before hh u)
                    (subst (λ (g : ℕ). Uses gates g top) (get_or_append_left order (top ∷ []) 0 i before) of_top)
                | inr here ↦
                    let e' : length order ≡ i = omega (arith, m) in
                    top_unused top ready (subst (λ (g : ℕ). Uses gates g top) (get_or_push order top 0 i e') of_top)
              ]
        ];
        open_within = λ i h. subst (λ (k : ℕ). k < length gates) (get_or_append_left rest (top ∷ []) 0 i h) (walk.open_within i (omega (arith, n)));
        is_open = λ i h.
            let was : mark_at marks (get_or rest i 0) ≡ Open =
            subst (λ (k : ℕ). mark_at marks k ≡ Open) (get_or_append_left rest (top ∷ []) 0 i h) (walk.is_open i (omega (arith, n))) in
            let ne : get_or rest i 0 ≢ top = λ e.
            walk.apart i (length rest) h (omega (arith, n)) (get_or_append_left rest (top ∷ []) 0 i h ∙ e ∙ sym last_is) in
            closed_other (get_or rest i 0) ne ∙ was;
        apart = λ i k less h e.
            let first : i < length rest = omega arith in
            walk.apart i k less (omega (arith, n)) (get_or_append_left rest (top ∷ []) 0 i first ∙ e ∙ sym (get_or_append_left rest (top ∷ []) 0 k h));
        stacked = λ k h is. elim (cases_eq k top) [
          | inl here ↦ absurd (open-done (mark_at closed_marks k) is (ap (mark_at closed_marks) here ∙ closed_here))
          | inr other ↦ elim (Contains-push_cases rest top k (walk.stacked k h (sym (closed_other k other) ∙ is))) [
            | inl found ↦ found
            | inr same ↦ absurd (other (sym same))
          ]
        ];
        path = λ i h.
            let first : i < length rest = omega arith in
            subst (λ (g : ℕ). Uses gates g (get_or rest (i + 1) 0)) (get_or_append_left rest (top ∷ []) 0 i first)
            (subst (λ (g : ℕ). Uses gates (get_or (rest ++ top ∷ []) i 0) g) (get_or_append_left rest (top ∷ []) 0 (i + 1) h) (walk.path i (omega (arith, n))));
      }

-- a gate stands where it stands
pub is_there : (gates : List Gate) (g : ℕ) → g < length gates → Contains gates (gate_at gates g)
is_there gates g within = (g, within, sym (get_or_default gates g (record { literal = 0; left = 0; right = 0 }) (gate_at gates g) within))

-- a gate depends on a gate that it uses
pub depends : (gates : List Gate) (g h : ℕ) → g < length gates → Uses gates g h → DependsOn gates ((gate_at gates g).literal / 2) ((gate_at gates h).literal / 2)
depends gates g h within (inl e) =
    subst (DependsOn gates ((gate_at gates g).literal / 2)) e (left (gate_at gates g) (is_there gates g within))
depends gates g h within (inr e) =
    subst (DependsOn gates ((gate_at gates g).literal / 2)) e (right (gate_at gates g) (is_there gates g within))

module _ (gates : List Gate) (marks : List Mark) (stack order : List ℕ) (walk : IsWalk gates marks stack order) where
  abbrev variable_at : ℕ → ℕ
  variable_at i = (gate_at gates (get_or stack i 0)).literal / 2

  -- a gate on the stack depends on those behind it
  along : (i k : ℕ) → i + suc k < length stack → DependsOn gates (variable_at i) (variable_at (i + suc k))
  along i zero h =
      let e : i + 1 ≡ i + suc 0 = omega arith in
      subst (λ (j : ℕ). DependsOn gates (variable_at i) (variable_at j)) e
      (depends gates (get_or stack i 0) (get_or stack (i + 1) 0) (walk.open_within i (omega arith)) (walk.path i (omega arith)))
  along i (suc k) h =
      let e : i + suc k + 1 ≡ i + suc (suc k) = omega arith in
      subst (λ (j : ℕ). DependsOn gates (variable_at i) (variable_at j)) e
      (through (variable_at i) (variable_at (i + suc k)) (variable_at (i + suc k + 1)) (along i k (omega arith))
      (depends gates (get_or stack (i + suc k) 0) (get_or stack (i + suc k + 1) 0) (walk.open_within (i + suc k) (omega arith)) (walk.path (i + suc k) (omega arith))))

  -- an open gate that the last one uses depends on itself
  pub meets : (h : ℕ) → 0 < length stack → h < length gates → Uses gates (get_or stack (length stack - 1) 0) h → mark_at marks h ≡ Open → HasCycle gates
  meets h some within uses is =
      let on : Contains stack h = walk.stacked h within is in
      let i : ℕ = on.0 in
      let inside : i < length stack = on.1 in
      let named : get_or stack i 0 ≡ h = get_or_default stack i 0 h inside ∙ on.2 in
      let last : ℕ = length stack - 1 in
      let back : DependsOn gates (variable_at last) ((gate_at gates h).literal / 2) =
      depends gates (get_or stack last 0) h (walk.open_within last (omega arith)) uses in
      record {
        place = h;
        within = within;
        itself = elim (cases_eq i last) [
          | inl here ↦ subst (λ (g : ℕ). DependsOn gates ((gate_at gates g).literal / 2) ((gate_at gates h).literal / 2)) (ap (λ (j : ℕ). get_or stack j 0) (sym here) ∙ named) back
          | inr before ↦
              let apart : i ≢ last = before in
              let k : ℕ = last - i - 1 in
              let sum : i + suc k ≡ last = omega (arith, apart, inside) in
              let forth : DependsOn gates (variable_at i) (variable_at last) =
              subst (λ (j : ℕ). DependsOn gates (variable_at i) (variable_at j)) sum (along i k (omega (arith, sum, some))) in
              through ((gate_at gates h).literal / 2) (variable_at last) ((gate_at gates h).literal / 2)
              (subst (λ (g : ℕ). DependsOn gates ((gate_at gates g).literal / 2) (variable_at last)) named forth) back
        ];
      }

-- the order of a walk that is done with all gates
pub order_of_walk : (gates : List Gate) (marks : List Mark) (stack order : List ℕ) → IsWalk gates marks stack order → ((k : ℕ) → k < length gates → mark_at marks k ≡ Done) → IsOrder gates order
order_of_walk gates marks stack order walk all = record {
  all = λ k h. walk.listed k h (all k h);
  places = λ k d h. rw (get_or_default order k d 0 h) (walk.done_within k h);
  once = walk.once;
  behind = λ i k le h. record { left = λ e. walk.behind i k le h (inl e); right = λ e. walk.behind i k le h (inr e) };
}

-- where nothing is open, a gate that isn't new is done
done_by : (m : Mark) → (m ≡ New → ⊥) → (m ≡ Open → ⊥) → m ≡ Done
done_by New a b = absurd (a refl)
done_by Open a b = absurd (b refl)
done_by Done a b = refl

pub is_done : (gates : List Gate) (marks : List Mark) (stack order : List ℕ) (k : ℕ) → IsWalk gates marks stack order → stack ≡ [] → k < length gates
    → (mark_at marks k ≡ New → ⊥) → mark_at marks k ≡ Done
is_done gates marks stack order k walk empty within old =
    done_by (mark_at marks k) old (λ is.
    let on : Contains [] k = subst (λ (s : List ℕ). Contains s k) empty (walk.stacked k within is) in
    let none : on.0 < 0 = on.1 in
    absurd (omega arith))
