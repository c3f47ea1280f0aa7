-- What a formula implies at once: the flags that are computed, and what holds of them.
use Rattle.std.proofs.Common.{◌≡◌, inl, inr, ℕ, zero, suc, ◌+◌, ◌<◌, ◌≤◌, Bool, true, false, not, ◌||◌, cond, List, [], ◌∷◌, get_or, length, replicate, refl, sym, ◌∙◌, ap, subst, arith}
use Rattle.std.specs.Prelude.{Contains, fold}
use Rattle.std.proofs.lemmas.Bool.{and_from, and_parts, both_ways, cases_Bool, cases_eq, false_from_ne_true, not-true, not_from_false, or_cases, or_left, or_right}
use Rattle.std.proofs.lemmas.List.{get_or_past, length-replicate}
use Rattle.std_lemmas.proofs.Lists.{Contains-cases, Contains-none}
use Rattle.letters_and_lassos.specs.declared.letters.Letter.{Letter}
use Rattle.ltl_formula.specs.declared.nodes.FormulaId.{FormulaId}
use Rattle.ltl_formula.specs.declared.nodes.Node.{Node}
use Rattle.ltl_formula.specs.declared.nodes.Node.TheVariants.{True, False, Signal, Not, Next, Finally, Globally, And, Or, Implies, Equiv, Until, Release, WeakUntil}
use Rattle.ltl_formula.specs.Nodes.{IsNodeList, PartsBelow, IsNodeIn, node_at}
use Rattle.obligation_sets.specs.Branch.{Branch}
use Rattle.obligation_sets.specs.Ids.{has_id, ids_of, with_id}
use Rattle.obligation_sets.specs.Reduced.{CutsAreExact, ImpliesAtOnce, cut, implied_by, implied_down, implied_parts}
use Rattle.obligation_sets.specs.Reduced.ImpliesAtOnce.{direct, further}
use Rattle.obligation_sets.proofs.BackedLeaves.{Backed, InNext, InPostponed, Seen}
use Rattle.obligation_sets.proofs.Flags.{all-cases, all-here, all-keeps, fold_length, has_id-none, has_id-within, without-at}
use Rattle.obligation_sets.proofs.IdLists.{flag_of_id, id, id_of_flag}
use Rattle.obligation_sets.proofs.OneStep.{IsOneStep, value}

-- a fact of both parts of a conjunction, or of the second part of a release, is one of each implied part
abbrev pub OfImpliedParts : (FormulaId → Type 0) → Node → Type 0
OfImpliedParts P (And g h) = P g × P h
OfImpliedParts P (Release g h) = P h
OfImpliedParts P _ = Unit {0}

one_part : (P : FormulaId → Type 0) (g x : FormulaId) → P g → Contains (g ∷ []) x → P x
one_part P g x p c = elim (Contains-cases g [] x c) [ inl same ↦ subst P same p | inr none ↦ absurd (Contains-none x none) ]

pub each_part : (P : FormulaId → Type 0) (node : Node) → OfImpliedParts P node → (x : FormulaId) → Contains (implied_parts node) x → P x
each_part P True p x c = absurd (Contains-none x c)
each_part P False p x c = absurd (Contains-none x c)
each_part P (Signal k) p x c = absurd (Contains-none x c)
each_part P (Not g) p x c = absurd (Contains-none x c)
each_part P (Next g) p x c = absurd (Contains-none x c)
each_part P (Finally g) p x c = absurd (Contains-none x c)
each_part P (Globally g) p x c = absurd (Contains-none x c)
each_part P (And g h) p x c = elim (Contains-cases g (h ∷ []) x c) [ inl same ↦ subst P same p.0 | inr later ↦ one_part P h x p.1 later ]
each_part P (Or g h) p x c = absurd (Contains-none x c)
each_part P (Implies g h) p x c = absurd (Contains-none x c)
each_part P (Equiv g h) p x c = absurd (Contains-none x c)
each_part P (Until g h) p x c = absurd (Contains-none x c)
each_part P (Release g h) p x c = one_part P h x p c
each_part P (WeakUntil g h) p x c = absurd (Contains-none x c)

-- a set asks for a formula: that stands in it, or one that stands in it implies it at once
pub data AsksFor (ns : List Node) (set : List FormulaId) (f : FormulaId) : Type 0 where
  in_set : Contains set f → AsksFor ns set f
  through : (g : FormulaId) → Contains set g → ImpliesAtOnce ns g f → AsksFor ns set f

-- parts stand before wholes
parts_below : (n : ℕ) (node : Node) → PartsBelow n node → OfImpliedParts (λ g. g.0 < n) node
parts_below n True p = tt
parts_below n False p = tt
parts_below n (Signal k) p = tt
parts_below n (Not g) p = tt
parts_below n (Next g) p = tt
parts_below n (Finally g) p = tt
parts_below n (Globally g) p = tt
parts_below n (And g h) p = (p.0, p.1)
parts_below n (Or g h) p = tt
parts_below n (Implies g h) p = tt
parts_below n (Equiv g h) p = tt
parts_below n (Until g h) p = tt
parts_below n (Release g h) p = p.1
parts_below n (WeakUntil g h) p = tt

module _ (ns : List Node) (list : IsNodeList ns) where
  part_below : (f g : FormulaId) → Contains (implied_parts (node_at ns f.0)) g → g.0 < f.0
  part_below f g c = each_part (λ x. x.0 < f.0) (node_at ns f.0) (parts_below f.0 (node_at ns f.0) (list.parts_first f.0)) g c

  pub implied_below : (f : FormulaId) {g : FormulaId} → ImpliesAtOnce ns f g → g.0 < f.0
  implied_below f (direct g c) = part_below f g c
  implied_below f (further g h i c) = let first : g.0 < f.0 = implied_below f i in let second : h.0 < g.0 = part_below g h c in omega arith

  pub implied_trans : (f g : FormulaId) {h : FormulaId} → ImpliesAtOnce ns f g → ImpliesAtOnce ns g h → ImpliesAtOnce ns f h
  implied_trans f g i (direct h c) = further g h i c
  implied_trans f g i (further h k j c) = further h k (implied_trans f g i j) c

  also_asks : (set : List FormulaId) (g f : FormulaId) → AsksFor ns set g → ImpliesAtOnce ns g f → AsksFor ns set f
  also_asks set g f (in_set c) i = through g c i
  also_asks set g f (through h c j) i = through h c (implied_trans h g j i)

  module _ (left : List Bool) (places : length left ≡ length ns) where
    -- some formula left over implies this one at once
    record IsAsked (g : FormulaId) : Type 0 where
      by : FormulaId
      left_over : has_id left by ≡ true
      implies : ImpliesAtOnce ns by g

    -- each formula with a flag is implied, and from n on the implied parts of those left over or with a flag have one
    record IsImplied (n : ℕ) (implied : List Bool) : Type 0 where
      same : length implied ≡ length ns
      asked : (g : FormulaId) → has_id implied g ≡ true → IsAsked g
      closed : (g h : FormulaId) → n ≤ g.0 → (has_id left g || has_id implied g) ≡ true → Contains (implied_parts (node_at ns g.0)) h → has_id implied h ≡ true

    abbrev held : ℕ → List Bool → Bool
    held n implied = get_or left n false || get_or implied n false

    asked_part : (implied : List Bool) → ((g : FormulaId) → has_id implied g ≡ true → IsAsked g) → (f g : FormulaId) → (has_id left f || has_id implied f) ≡ true → Contains (implied_parts (node_at ns f.0)) g → IsAsked g
    asked_part implied asked f g h c =
        elim (or_cases (has_id left f) (has_id implied f) h) [
          | inl left_over ↦ record { by = f; left_over = left_over; implies = direct g c }
          | inr flag ↦ let a : IsAsked f = asked f flag in record { by = a.by; left_over = a.left_over; implies = further f g a.implies c }
        ]

    implied_more : (n : ℕ) (implied : List Bool) → n < length ns → IsImplied (suc n) implied → (b : Bool) → held n implied ≡ b → IsImplied n (cond b (fold with_id implied (implied_parts (node_at ns n))) implied)
    implied_more n implied within m false e = record {
      same = m.same;
      asked = m.asked;
      closed = λ g h from flag there.
          elim (cases_eq g.0 n) [
            | inl same ↦ absurd (both_ways (held g.0 implied) (ap (λ k. held k implied) same ∙ e) flag)
            | inr other ↦ m.closed g h (let apart : g.0 ≡ n → ⊥ = other in omega arith) flag there
          ];
    }
    implied_more n implied within m true e = record {
      same = fold_length implied (implied_parts (node_at ns n)) ∙ m.same;
      asked = λ g flag.
          elim (all-cases implied (implied_parts (node_at ns n)) g flag) [
            | inl there ↦ asked_part implied m.asked (id n) g e there
            | inr before ↦ m.asked g before
          ];
      closed = λ g h from flag there.
          elim (cases_eq g.0 n) [
            | inl same ↦
                let less : h.0 < g.0 = part_below g h there in
                let len : length implied ≡ length ns = m.same in
                all-here implied (implied_parts (node_at ns n)) h (omega arith) (subst (λ (k : ℕ). Contains (implied_parts (node_at ns k)) h) same there)
            | inr other ↦
                all-keeps implied (implied_parts (node_at ns n)) h
                (m.closed g h (let apart : g.0 ≡ n → ⊥ = other in omega arith) (held_before g (let apart : g.0 ≡ n → ⊥ = other in omega arith) flag) there)
          ];
    }
      where
        -- a part of formula n is below it
        held_before : (g : FormulaId) → n < g.0 → (has_id left g || has_id (fold with_id implied (implied_parts (node_at ns n))) g) ≡ true → (has_id left g || has_id implied g) ≡ true
        held_before g above h =
            elim (or_cases (has_id left g) (has_id (fold with_id implied (implied_parts (node_at ns n))) g) h) [
              | inl left_over ↦ or_left (has_id left g) (has_id implied g) left_over
              | inr flag ↦ elim (all-cases implied (implied_parts (node_at ns n)) g flag) [
                | inl there ↦ absurd (let less : g.0 < n = part_below (id n) g there in omega arith)
                | inr old ↦ or_right (has_id left g) (has_id implied g) old
              ]
            ]

    implied_all : (n : ℕ) (implied : List Bool) → n ≤ length ns → IsImplied n implied → IsImplied 0 (implied_down ns left n implied)
    implied_all zero implied within m = m
    implied_all (suc n) implied within m =
        implied_all n (cond (held n implied) (fold with_id implied (implied_parts (node_at ns n))) implied) (omega arith) (implied_more n implied (omega arith) m (held n implied) refl)

    is_implied : IsImplied 0 (implied_by ns left)
    is_implied =
        implied_all (length ns) (replicate (length ns) false) (omega arith) (record {
          same = length-replicate (length ns) false;
          asked = λ g flag. absurd (has_id-none (length ns) g flag);
          closed = λ g h from flag there. absurd (Contains-none h (subst (λ (node : Node). Contains (implied_parts node) h) (get_or_past ns g.0 False from) there));
        })

    flag_of : (f : FormulaId) {g : FormulaId} → has_id left f ≡ true → ImpliesAtOnce ns f g → has_id (implied_by ns left) g ≡ true
    flag_of f h (direct g c) = is_implied.closed f g (omega arith) (or_left (has_id left f) (has_id (implied_by ns left) f) h) c
    flag_of f h (further g k i c) = is_implied.closed g k (omega arith) (or_right (has_id left g) (has_id (implied_by ns left) g) (flag_of f h i)) c

    in_cut : (f : FormulaId) → has_id left f ≡ true → has_id (implied_by ns left) f ≡ false → Contains (ids_of (cut ns left)) f
    in_cut f h none = id_of_flag (cut ns left) f (without-at left (implied_by ns left) f.0 ∙ and_from (has_id left f) (not (has_id (implied_by ns left) f)) h (not_from_false (has_id (implied_by ns left) f) none))

    pub cut_exact : (f : FormulaId) → (Contains (ids_of (cut ns left)) f → Contains (ids_of left) f × ((g : FormulaId) → Contains (ids_of left) g → ImpliesAtOnce ns g f → ⊥)) × (Contains (ids_of left) f × ((g : FormulaId) → Contains (ids_of left) g → ImpliesAtOnce ns g f → ⊥) → Contains (ids_of (cut ns left)) f)
    cut_exact f = (
      (λ c.
          let both : (has_id left f ≡ true) × (not (has_id (implied_by ns left) f) ≡ true) =
          and_parts (has_id left f) (not (has_id (implied_by ns left) f)) (sym (without-at left (implied_by ns left) f.0) ∙ flag_of_id (cut ns left) f c) in (
            id_of_flag left f both.0,
            λ g there implies. both_ways (has_id (implied_by ns left) f) (not-true (has_id (implied_by ns left) f) both.1) (flag_of g (flag_of_id left g there) implies),
          )),
      (λ both.
          in_cut f (flag_of_id left f both.0)
          (false_from_ne_true (has_id (implied_by ns left) f) (λ flag. let a : IsAsked f = is_implied.asked f flag in both.1 a.by (id_of_flag left a.by a.left_over) a.implies))),
    )

    -- each formula that is left over still stands, or one that still stands implies it at once
    asks_within : (d : ℕ) (f : FormulaId) → length ns ≤ f.0 + d → has_id left f ≡ true → AsksFor ns (ids_of (cut ns left)) f
    asks_within zero f far h = absurd (let less : f.0 < length left = has_id-within left f h in omega arith)
    asks_within (suc d) f far h =
        elim (cases_Bool (has_id (implied_by ns left) f)) [
          | inr none ↦ in_set (in_cut f h none)
          | inl flag ↦
              let a : IsAsked f = is_implied.asked f flag in
              let above : f.0 < a.by.0 = implied_below a.by a.implies in
              also_asks (ids_of (cut ns left)) a.by f (asks_within d a.by (omega arith) a.left_over) a.implies
        ]

    pub still_asks : (f : FormulaId) → has_id left f ≡ true → AsksFor ns (ids_of (cut ns left)) f
    still_asks f h = asks_within (length ns) f (omega arith) h

pub cuts_are_exact : CutsAreExact
cuts_are_exact ns left f list places = cut_exact ns list left places f

-- what a formula that holds implies at once holds
module _ (ns : List Node) (list : IsNodeList ns) (letter : Letter) (now later : FormulaId → Bool) (one : IsOneStep ns letter now later) where
  parts_hold : (f : FormulaId) (node : Node) → value letter now later f node ≡ true → OfImpliedParts (λ g. now g ≡ true) node
  parts_hold f True e = tt
  parts_hold f False e = tt
  parts_hold f (Signal k) e = tt
  parts_hold f (Not g) e = tt
  parts_hold f (Next g) e = tt
  parts_hold f (Finally g) e = tt
  parts_hold f (Globally g) e = tt
  parts_hold f (And g h) e = and_parts (now g) (now h) e
  parts_hold f (Or g h) e = tt
  parts_hold f (Implies g h) e = tt
  parts_hold f (Equiv g h) e = tt
  parts_hold f (Until g h) e = tt
  parts_hold f (Release g h) e = (and_parts (now h) (now g || later f) e).0
  parts_hold f (WeakUntil g h) e = tt

  part_holds : (f g : FormulaId) → IsNodeIn ns f → now f ≡ true → Contains (implied_parts (node_at ns f.0)) g → now g ≡ true
  part_holds f g there h c = each_part (λ x. now x ≡ true) (node_at ns f.0) (parts_hold f (node_at ns f.0) (sym (one.means f there) ∙ h)) g c

  implied_holds : (f : FormulaId) {g : FormulaId} → IsNodeIn ns f → now f ≡ true → ImpliesAtOnce ns f g → now g ≡ true
  implied_holds f there h (direct g c) = part_holds f g there h c
  implied_holds f there h (further g k i c) = part_holds g k (let less : g.0 < f.0 = implied_below ns list f i in omega arith) (implied_holds f there h i) c

  pub asked_holds : (set : List FormulaId) → ((g : FormulaId) → Contains set g → IsNodeIn ns g × (now g ≡ true)) → (f : FormulaId) → AsksFor ns set f → now f ≡ true
  asked_holds set each f (in_set c) = (each f c).1
  asked_holds set each f (through g c i) = implied_holds g (each g c).0 (each g c).1 i

-- what a formula that a leaf took off its work list implies at once it took off, too
module _ (ns : List Node) (leaf : Branch) (seen_done : (g : FormulaId) → Seen leaf g → has_id leaf.done g ≡ true)
    (backed : (f : FormulaId) → has_id leaf.done f ≡ true → Backed ns (Seen leaf) leaf.cube (InNext leaf) (InPostponed leaf) f (node_at ns f.0)) where
  parts_seen : (f : FormulaId) (node : Node) → Backed ns (Seen leaf) leaf.cube (InNext leaf) (InPostponed leaf) f node → OfImpliedParts (Seen leaf) node
  parts_seen f True b = tt
  parts_seen f False b = tt
  parts_seen f (Signal k) b = tt
  parts_seen f (Not g) b = tt
  parts_seen f (Next g) b = tt
  parts_seen f (Finally g) b = tt
  parts_seen f (Globally g) b = tt
  parts_seen f (And g h) b = (b.0, b.1)
  parts_seen f (Or g h) b = tt
  parts_seen f (Implies g h) b = tt
  parts_seen f (Equiv g h) b = tt
  parts_seen f (Until g h) b = tt
  parts_seen f (Release g h) b = b.0
  parts_seen f (WeakUntil g h) b = tt

  part_done : (f g : FormulaId) → has_id leaf.done f ≡ true → Contains (implied_parts (node_at ns f.0)) g → has_id leaf.done g ≡ true
  part_done f g done c = seen_done g (each_part (Seen leaf) (node_at ns f.0) (parts_seen f (node_at ns f.0) (backed f done)) g c)

  implied_done : (f : FormulaId) {g : FormulaId} → has_id leaf.done f ≡ true → ImpliesAtOnce ns f g → has_id leaf.done g ≡ true
  implied_done f done (direct g c) = part_done f g done c
  implied_done f done (further g h i c) = part_done g h (implied_done f done i) c

  pub asked_done : (set : List FormulaId) → ((g : FormulaId) → Contains set g → has_id leaf.done g ≡ true) → (f : FormulaId) → AsksFor ns set f → has_id leaf.done f ≡ true
  asked_done set each f (in_set c) = each f c
  asked_done set each f (through g c i) = implied_done g (each g c) i
