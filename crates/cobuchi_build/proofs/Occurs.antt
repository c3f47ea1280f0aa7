use Rattle.std.proofs.Common.{◌≡◌, inl, inr, ℕ, zero, suc, ◌<◌, ◌≤◌, Bool, true, false, cond, List, [], ◌∷◌, filter, get_or, length, replicate, refl, sym, ◌∙◌, ap, subst, arith}
use Rattle.std.specs.Prelude.{Contains}
use Rattle.std.proofs.lemmas.Bool.{cases_eq, false≢true}
use Rattle.std.proofs.lemmas.List.{get_or_past, length-replicate, length-set}
use Rattle.std.proofs.lemmas.List.Elements.{All-contains, filter_passes}
use Rattle.std_lemmas.proofs.Lists.{Contains-cases, Contains-none}
use Rattle.ltl_formula.specs.declared.nodes.FormulaId.{FormulaId}
use Rattle.ltl_formula.specs.declared.nodes.Node.{Node}
use Rattle.ltl_formula.specs.declared.nodes.Node.TheVariants.{True, False, Signal, Not, Next, Finally, Globally, And, Or, Implies, Equiv, Until, Release, WeakUntil}
use Rattle.ltl_formula.specs.Nodes.{IsNodeList, PartsBelow, IsNodeIn, node_at}
use Rattle.obligation_sets.specs.Ids.{has_id, ids_from, ids_of, with_id}
use Rattle.obligation_sets.proofs.Flags.{all-cases, all-here, all-keeps, fold_length, has_id-none, with_id-cases, with_id-here}
use Rattle.obligation_sets.proofs.IdLists.{flag_of_id, id, id_of_flag}
use Rattle.obligation_sets.proofs.Lists.{filter_from, filter_in}
use Rattle.cobuchi_build.specs.Laws.{UntilsAreThoseThatOccur}
use Rattle.cobuchi_build.specs.Occurring.{OccursIn, is_until, marked_down, occurring, operands_of, untils_of, with_parts}
use Rattle.cobuchi_build.specs.Occurring.OccursIn.{itself, part}

-- parts stand before wholes
one_below : (n : ℕ) (g x : FormulaId) → g.0 < n → Contains (g ∷ []) x → x.0 < n
one_below n g x h c = elim (Contains-cases g [] x c) [ inl same ↦ subst (λ (y : FormulaId). y.0 < n) same h | inr none ↦ absurd (Contains-none x none) ]

two_below : (n : ℕ) (g h x : FormulaId) → g.0 < n → h.0 < n → Contains (g ∷ h ∷ []) x → x.0 < n
two_below n g h x a b c = elim (Contains-cases g (h ∷ []) x c) [ inl same ↦ subst (λ (y : FormulaId). y.0 < n) same a | inr later ↦ one_below n h x b later ]

part_below : (n : ℕ) (node : Node) → PartsBelow n node → (x : FormulaId) → Contains (operands_of node) x → x.0 < n
part_below n True p x c = absurd (Contains-none x c)
part_below n False p x c = absurd (Contains-none x c)
part_below n (Signal k) p x c = absurd (Contains-none x c)
part_below n (Not g) p x c = one_below n g x p c
part_below n (Next g) p x c = one_below n g x p c
part_below n (Finally g) p x c = one_below n g x p c
part_below n (Globally g) p x c = one_below n g x p c
part_below n (And g h) p x c = two_below n g h x p.0 p.1 c
part_below n (Or g h) p x c = two_below n g h x p.0 p.1 c
part_below n (Implies g h) p x c = two_below n g h x p.0 p.1 c
part_below n (Equiv g h) p x c = two_below n g h x p.0 p.1 c
part_below n (Until g h) p x c = two_below n g h x p.0 p.1 c
part_below n (Release g h) p x c = two_below n g h x p.0 p.1 c
part_below n (WeakUntil g h) p x c = two_below n g h x p.0 p.1 c

module _ (ns : List Node) (list : IsNodeList ns) (f : FormulaId) where
  -- each formula with a flag occurs, and from n on the parts of those with a flag have one too
  record IsMarked (n : ℕ) (flags : List Bool) : Type 0 where
    places : length flags ≡ length ns
    start : has_id flags f ≡ true
    occur : (g : FormulaId) → has_id flags g ≡ true → OccursIn ns f g
    closed : (g h : FormulaId) → n ≤ g.0 → has_id flags g ≡ true → Contains (operands_of (node_at ns g.0)) h → has_id flags h ≡ true

  marked_by : (n : ℕ) (flags : List Bool) → n < length ns → IsMarked (suc n) flags → (b : Bool) → get_or flags n false ≡ b → IsMarked n (cond b (with_parts flags (node_at ns n)) flags)
  marked_by n flags within m false e = record {
    places = m.places;
    start = m.start;
    occur = m.occur;
    closed = λ g h from flag there.
        elim (cases_eq g.0 n) [
          | inl same ↦ absurd (false≢true (sym e ∙ ap (λ k. get_or flags k false) (sym same) ∙ flag))
          | inr other ↦ m.closed g h (let apart : g.0 ≡ n → ⊥ = other in omega arith) flag there
        ];
  }
  marked_by n flags within m true e = record {
    places = fold_length flags (operands_of (node_at ns n)) ∙ m.places;
    start = all-keeps flags (operands_of (node_at ns n)) f m.start;
    occur = λ g flag.
        elim (all-cases flags (operands_of (node_at ns n)) g flag) [
          | inl there ↦ part (id n) g (m.occur (id n) e) there
          | inr before ↦ m.occur g before
        ];
    closed = λ g h from flag there.
        elim (all-cases flags (operands_of (node_at ns n)) g flag) [
          | inl late ↦ absurd (let less : g.0 < n = part_below n (node_at ns n) (list.parts_first n) g late in omega arith)
          | inr before ↦ elim (cases_eq g.0 n) [
            | inl same ↦
                let less : h.0 < g.0 = part_below g.0 (node_at ns g.0) (list.parts_first g.0) h there in
                let len : length flags ≡ length ns = m.places in
                all-here flags (operands_of (node_at ns n)) h (omega arith) (subst (λ (k : ℕ). Contains (operands_of (node_at ns k)) h) same there)
            | inr other ↦ all-keeps flags (operands_of (node_at ns n)) h (m.closed g h (let apart : g.0 ≡ n → ⊥ = other in omega arith) before there)
          ]
        ];
  }

  marked : (n : ℕ) (flags : List Bool) → n ≤ length ns → IsMarked n flags → IsMarked 0 (marked_down ns n flags)
  marked zero flags within m = m
  marked (suc n) flags within m = marked n (cond (get_or flags n false) (with_parts flags (node_at ns n)) flags) (omega arith) (marked_by n flags (omega arith) m (get_or flags n false) refl)

  module _ (stands : IsNodeIn ns f) where
    all_marked : IsMarked 0 (occurring ns f)
    all_marked =
        let len : length (replicate (length ns) false) ≡ length ns = length-replicate (length ns) false in
        marked (length ns) (with_id (replicate (length ns) false) f) (omega arith) (record {
          places = length-set (replicate (length ns) false) f.0 true ∙ len;
          start = with_id-here (replicate (length ns) false) f (omega arith);
          occur = λ g flag.
              elim (with_id-cases (replicate (length ns) false) f g flag) [
                | inl same ↦ subst (λ (x : FormulaId). OccursIn ns f x) (sym same) itself
                | inr none ↦ absurd (has_id-none (length ns) g none)
              ];
          closed = λ g h from flag there. absurd (beyond g h from there);
        })
      where
        beyond : (g h : FormulaId) → length ns ≤ g.0 → Contains (operands_of (node_at ns g.0)) h → ⊥
        beyond g h from c = Contains-none h (subst (λ (node : Node). Contains (operands_of node) h) (get_or_past ns g.0 False from) c)

    flag_of : {g : FormulaId} → OccursIn ns f g → has_id (occurring ns f) g ≡ true
    flag_of itself = all_marked.start
    flag_of (part g h occurs there) = all_marked.closed g h (omega arith) (flag_of occurs) there

-- a filter keeps ids rising

least_by : (b : Bool) (k : ℕ) (xs : List FormulaId) → ((j : ℕ) (d : FormulaId) → j < length xs → suc k ≤ (get_or xs j d).0) → (j : ℕ) (d : FormulaId) → j < length (cond b (id k ∷ xs) xs) → k ≤ (get_or (cond b (id k ∷ xs) xs) j d).0
least_by true k xs rest zero d h = omega arith
least_by true k xs rest (suc j) d h = let r : suc k ≤ (get_or xs j d).0 = rest j d (omega arith) in omega arith
least_by false k xs rest j d h = let r : suc k ≤ (get_or xs j d).0 = rest j d h in omega arith

kept_least : (p : FormulaId → Bool) (k : ℕ) (flags : List Bool) (j : ℕ) (d : FormulaId) → j < length (filter p (ids_from k flags)) → k ≤ (get_or (filter p (ids_from k flags)) j d).0
kept_least p k [] j d h = absurd (omega arith)
kept_least p k (true ∷ flags) j d h = least_by (p (id k)) k (filter p (ids_from (suc k) flags)) (kept_least p (suc k) flags) j d h
kept_least p k (false ∷ flags) j d h = let r : suc k ≤ (get_or (filter p (ids_from (suc k) flags)) j d).0 = kept_least p (suc k) flags j d h in omega arith

rise_by : (b : Bool) (k : ℕ) (xs : List FormulaId) → ((j : ℕ) (d : FormulaId) → j < length xs → suc k ≤ (get_or xs j d).0) → ((i j : ℕ) (d : FormulaId) → i < j → j < length xs → (get_or xs i d).0 < (get_or xs j d).0) → (i j : ℕ) (d : FormulaId) → i < j → j < length (cond b (id k ∷ xs) xs) → (get_or (cond b (id k ∷ xs) xs) i d).0 < (get_or (cond b (id k ∷ xs) xs) j d).0
rise_by false k xs least rest i j d less h = rest i j d less h
rise_by true k xs least rest i zero d less h = absurd (omega arith)
rise_by true k xs least rest zero (suc j) d less h = let r : suc k ≤ (get_or xs j d).0 = least j d (omega arith) in omega arith
rise_by true k xs least rest (suc i) (suc j) d less h = rest i j d (omega arith) (omega arith)

kept_rise : (p : FormulaId → Bool) (k : ℕ) (flags : List Bool) (i j : ℕ) (d : FormulaId) → i < j → j < length (filter p (ids_from k flags)) → (get_or (filter p (ids_from k flags)) i d).0 < (get_or (filter p (ids_from k flags)) j d).0
kept_rise p k [] i j d less h = absurd (omega arith)
kept_rise p k (true ∷ flags) i j d less h = rise_by (p (id k)) k (filter p (ids_from (suc k) flags)) (kept_least p (suc k) flags) (kept_rise p (suc k) flags) i j d less h
kept_rise p k (false ∷ flags) i j d less h = kept_rise p (suc k) flags i j d less h

pub untils_are_those_that_occur : UntilsAreThoseThatOccur
untils_are_those_that_occur ns f list stands =
    record {
      rise = record { rise = λ i j d less h. kept_rise (λ g. is_until (node_at ns g.0)) 0 (occurring ns f) i j d less h };
      exact = λ g. (
        (λ there. (
          (all_marked ns list f stands).occur g (flag_of_id (occurring ns f) g (filter_from (λ x. is_until (node_at ns x.0)) (ids_of (occurring ns f)) g there)),
          All-contains (λ x. is_until (node_at ns x.0) ≡ true) (untils_of ns f) g (filter_passes (λ x. is_until (node_at ns x.0)) (ids_of (occurring ns f))) there,
        )),
        (λ both. filter_in (λ x. is_until (node_at ns x.0)) (ids_of (occurring ns f)) g (id_of_flag (occurring ns f) g (flag_of ns list f stands both.0)) both.1),
      );
    }
