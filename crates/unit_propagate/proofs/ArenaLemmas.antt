-- Clauses that stand one behind the other in one array.
use Rattle.std.proofs.Common.{◌≡◌, ◌≢◌, ℕ, suc, zero, ◌+◌, ◌-◌, ◌^◌, ◌<◌, ◌≤◌, min, nat_eq, Bool, true, false, cond, filter, List, [], ◌∷◌, ◌++◌, ◌⊎◌, inl, inr, Some, set, take, drop, get_or, slice_get, length, length-append, All, refl, sym, subst, ap, ◌∙◌, arith}
use Rattle.std.proofs.lemmas.List.{length-set, length-map, length-drop, get_or-map, get_or-set_same, get_or-set_other, drop-append-le, take-append-le, drop_at, take_all, drop-set-add, drop-set-lt, take-set-le, same_lists, set-set, map_push, append-nil, append_assoc, length-take, get_or-take, get_or-drop, take-append-drop}
use Rattle.std.proofs.lemmas.List.Elements.{All-push, All-weaker, All-head, All-tail, filter_more}
use Rattle.std.proofs.lemmas.List.Quantifiers.{all_pairs_push}
use Rattle.std.proofs.lemmas.Option.{slice_get_within, slice_get-get_or, get_or_from_slice_get, slice_get-map}
use Rattle.std.specs.Option.{option_map}
use Rattle.std.specs.Prelude.{Result, Ok, Err, OnOk, AllPairs}
use Rattle.propositional_logic.specs.Literal.{Literal}
use Rattle.unit_propagate.specs.declared.arena.Span.{Span}
use Rattle.std.proofs.lemmas.Bool.Decides.{Decides-eqb}
use Rattle.std_lemmas.proofs.Lists.{All-front, slice_get-append}
use Rattle.std_lemmas.proofs.Naturals.{lt_trichotomy}
use Rattle.propositional_logic.specs.Codes.{code_of, decoded, code_of-decoded}
use Rattle.unit_propagate.specs.Arena.{ArenaModel, part_at, parts_at, starts_of, index_of, AreSpans, AreHeaded, Closes, Pushes, AddsClause, TakesOff}
use Rattle.unit_propagate.proofs.Places.{All-slice_get, AllPairs-front, AllPairs-last, slice_get-last, slice_get-front, slice_get-set_other, slice_get-within_take}
use Rattle.unit_propagate.specs.Watches.{exchanged, differs, ordered}

-- ---- an array that grows
part_grown : (lits more : List Literal) (s : Span) → (s.start ≤ s.end) × (s.end ≤ length lits) → part_at (lits ++ more) s ≡ part_at lits s
part_grown lits more s h =
    let low : s.start ≤ s.end = h.0 in
    let high : s.end ≤ length lits = h.1 in
    let len : length (drop s.start lits) ≡ length lits - s.start = length-drop s.start lits in
    ap (take (s.end - s.start)) (drop-append-le s.start lits more (omega arith)) ∙ take-append-le (s.end - s.start) (drop s.start lits) more (omega arith)

pub parts_grown : (lits more : List Literal) (spans : List Span) → All (λ s. (s.start ≤ s.end) × (s.end ≤ length lits)) spans → parts_at (lits ++ more) spans ≡ parts_at lits spans
parts_grown lits more [] h = refl
parts_grown lits more (s ∷ spans) h =
    let here = part_grown lits more s (All-head (λ (t : Span). (t.start ≤ t.end) × (t.end ≤ length lits)) s spans h) in
    let rest = parts_grown lits more spans (All-tail (λ (t : Span). (t.start ≤ t.end) × (t.end ≤ length lits)) s spans h) in
    λ i. here i ∷ rest i

pub AreSpans-grown : (size more : ℕ) (spans : List Span) → size ≤ more → AreSpans size spans → AreSpans more spans
AreSpans-grown size more spans le h = record {
  within = All-weaker (λ (s : Span). (s.start ≤ s.end) × (s.end ≤ size)) (λ s. (s.start ≤ s.end) × (s.end ≤ more)) (λ s w. (w.0, let e : s.end ≤ size = w.1 in omega arith)) spans h.within;
  apart = h.apart;
}

-- one more clause
AreSpans-push : (size start more : ℕ) (spans : List Span) → size + 2 ≤ start → start ≤ more → AreSpans size spans → AreSpans more (spans ++ (record { start = start; end = more }) ∷ [])
AreSpans-push size start more spans room le h = record {
  within = All-push (λ (s : Span). (s.start ≤ s.end) × (s.end ≤ more)) spans (record { start = start; end = more }) (AreSpans-grown size more spans (omega arith) h).within (le, omega arith);
  apart = all_pairs_push (λ (s t : Span). s.end + 2 ≤ t.start) spans (record { start = start; end = more }) h.apart (λ k d l. let e : (get_or spans k d).end ≤ size = (h.within k d l).1 in omega arith);
}

parts_pushed : (lits c : List Literal) (spans : List Span) (start end : ℕ) → start ≡ length lits → end ≡ length (lits ++ c) → All (λ s. (s.start ≤ s.end) × (s.end ≤ length lits)) spans
    → parts_at (lits ++ c) (spans ++ (record { start = start; end = end }) ∷ []) ≡ parts_at lits spans ++ c ∷ []
parts_pushed lits c spans start end b e h =
    let len : length (lits ++ c) ≡ length lits + length c = length-append lits c in
    let last : part_at (lits ++ c) (record { start = start; end = end }) ≡ c =
    ap (take (end - start)) (drop_at lits c start (sym b)) ∙ take_all (end - start) c (omega arith) in
    let front = parts_grown lits c spans h in
    map_push (part_at (lits ++ c)) spans (record { start = start; end = end }) ∙ (λ i. front i ++ last i ∷ [])

-- the elements behind a front
slice_get-at : (xs : List Literal) (y : Literal) (ys : List Literal) → slice_get (xs ++ y ∷ ys) (length xs) ≡ Some y
slice_get-at [] y ys = refl
slice_get-at (x ∷ xs) y ys = slice_get-at xs y ys

slice_get-next : (xs : List Literal) (y z : Literal) (ys : List Literal) → slice_get (xs ++ y ∷ z ∷ ys) (suc (length xs)) ≡ Some z
slice_get-next [] y z ys = refl
slice_get-next (x ∷ xs) y z ys = slice_get-next xs y z ys

-- the number and the count are written
set_two : (old c : List Literal) (y z n m : Literal) → set (set (old ++ y ∷ z ∷ c) (length old) n) (suc (length old)) m ≡ old ++ n ∷ m ∷ c
set_two [] c y z n m = refl
set_two (x ∷ old) c y z n m = ap (λ l. x ∷ l) (set_two old c y z n m)

pub pushed_clause : (old opened out new : List Literal) (spans more : List Span) (c : List Literal) (y z : Literal) (start : ℕ) → opened ≡ old ++ y ∷ z ∷ [] → out ≡ opened ++ c → start ≡ length old + 2
    → Closes out new spans more start → Pushes old new spans more c
pushed_clause old opened out new spans more c y z start o a s h =
    let all : out ≡ old ++ y ∷ z ∷ c = a ∙ ap (λ ls. ls ++ c) o ∙ append_assoc old (y ∷ z ∷ []) c in
    let len : length out ≡ length old + length (y ∷ z ∷ c) = ap length all ∙ length-append old (y ∷ z ∷ c) in
    let at_number : start - 2 ≡ length old = omega arith in
    let at_count : start - 1 ≡ suc (length old) = omega arith in
    let count : length out - start + 2 ≡ length c + 2 = omega arith in
    let ends : length out ≡ length old + 2 + length c = omega arith in
    record {
      items = h.items ∙ (λ i. set (set (all i) (at_number i) (decoded (length spans + 2))) (at_count i) (decoded (count i))) ∙ set_two old c y z (decoded (length spans + 2)) (decoded (length c + 2));
      span = h.span ∙ (λ i. spans ++ (record { start = s i; end = ends i }) ∷ []);
      few = h.few;
    }

pub pushed_result : {T E : Type 0} (r : Result T E) (old opened out new : List Literal) (spans more : List Span) (c : List Literal) (y z : Literal) (start : ℕ) → opened ≡ old ++ y ∷ z ∷ [] → out ≡ opened ++ c
    → start ≡ length old + 2 → OnOk r (Closes out new spans more start) → OnOk r (Pushes old new spans more c)
pushed_result (Ok x) old opened out new spans more c y z start o a s h = pushed_clause old opened out new spans more c y z start o a s h
pushed_result (Err x) old opened out new spans more c y z start o a s h = tt

-- an array after one more clause
module _ (lits new : List Literal) (spans more : List Span) (c : List Literal) (h : AreSpans (length lits) spans) (p : Pushes lits new spans more c) where
  abbrev first_two : List Literal
  first_two = lits ++ decoded (length spans + 2) ∷ decoded (length c + 2) ∷ []

  first_len : length first_two ≡ length lits + 2
  first_len = length-append lits (decoded (length spans + 2) ∷ decoded (length c + 2) ∷ [])

  joined : new ≡ first_two ++ c
  joined = p.items ∙ sym (append_assoc lits (decoded (length spans + 2) ∷ decoded (length c + 2) ∷ []) c)

  new_len : length new ≡ length lits + 2 + length c
  new_len = let a : length new ≡ length first_two + length c = ap length joined ∙ length-append first_two c in let b : length first_two ≡ length lits + 2 = first_len in omega arith

  span_is : more ≡ spans ++ (record { start = length lits + 2; end = length new }) ∷ []
  span_is = p.span ∙ (λ i. spans ++ (record { start = length lits + 2; end = sym new_len i }) ∷ [])

  pub spans_pushed : AreSpans (length new) more
  spans_pushed =
      let e : length new ≡ length lits + 2 + length c = new_len in
      subst (AreSpans (length new)) (sym span_is) (AreSpans-push (length lits) (length lits + 2) (length new) spans (omega arith) (omega arith) h)

  within_two : All (λ s. (s.start ≤ s.end) × (s.end ≤ length first_two)) spans
  within_two = let e : length first_two ≡ length lits + 2 = first_len in (AreSpans-grown (length lits) (length first_two) spans (omega arith) h).within

  pub view_pushed : parts_at new more ≡ parts_at lits spans ++ c ∷ []
  view_pushed =
      (λ i. parts_at (joined i) (span_is i))
      ∙ parts_pushed first_two c spans (length lits + 2) (length new) (sym first_len) (ap length joined) within_two
      ∙ ap (λ ps. ps ++ c ∷ []) (parts_grown lits (decoded (length spans + 2) ∷ decoded (length c + 2) ∷ []) spans h.within)

  pub starts_pushed : starts_of more ≡ starts_of spans ++ (length lits + 2) ∷ []
  starts_pushed = ap starts_of span_is ∙ map_push (λ (s : Span). s.start) spans (record { start = length lits + 2; end = length new })

  pub adds_clause : AddsClause (record { clauses = parts_at lits spans; starts = starts_of spans; next = length lits + 2 }) (record { clauses = parts_at new more; starts = starts_of more; next = length new + 2 }) c
  adds_clause = record { clauses = view_pushed; starts = starts_pushed }

  pub few_pushed : length more < 2 ^ 32
  few_pushed = let a : length more ≡ length spans + 1 = ap length p.span ∙ length-append spans ((record { start = length lits + 2; end = length lits + 2 + length c }) ∷ []) in let b : length spans + 1 < 2 ^ 31 = p.few in omega arith

  pub heads_pushed : AreHeaded lits spans → AreHeaded new more
  heads_pushed old k s at = by (lt_trichotomy k (length spans))
    where
      at_more : slice_get (spans ++ (record { start = length lits + 2; end = length new }) ∷ []) k ≡ Some s
      at_more = subst (λ (ss : List Span). slice_get ss k ≡ Some s) span_is at

      by : (k < length spans) ⊎ ((k ≡ length spans) ⊎ (length spans < k)) → (2 ≤ s.start) × (slice_get new (s.start - 2) ≡ Some (decoded (k + 2))) × (slice_get new (s.start - 1) ≡ Some (decoded (s.end - s.start + 2)))
      by (inl lt) =
          let there : slice_get spans k ≡ Some s = sym (slice_get-front spans ((record { start = length lits + 2; end = length new }) ∷ []) k lt) ∙ at_more in
          let o = old k s there in (
            o.0,
            ap (λ ls. slice_get ls (s.start - 2)) p.items ∙ slice_get-append lits (decoded (length spans + 2) ∷ decoded (length c + 2) ∷ c) (s.start - 2) (decoded (k + 2)) o.1,
            ap (λ ls. slice_get ls (s.start - 1)) p.items ∙ slice_get-append lits (decoded (length spans + 2) ∷ decoded (length c + 2) ∷ c) (s.start - 1) (decoded (s.end - s.start + 2)) o.2,
          )
      by (inr (inr gt)) =
          let w : k < length (spans ++ (record { start = length lits + 2; end = length new }) ∷ []) = slice_get_within (spans ++ (record { start = length lits + 2; end = length new }) ∷ []) k s at_more in
          let l : length (spans ++ (record { start = length lits + 2; end = length new }) ∷ []) ≡ length spans + 1 = length-append spans ((record { start = length lits + 2; end = length new }) ∷ []) in absurd (omega arith)
      by (inr (inl e)) =
          let last : slice_get (spans ++ (record { start = length lits + 2; end = length new }) ∷ []) k ≡ Some (record { start = length lits + 2; end = length new }) =
          ap (slice_get (spans ++ (record { start = length lits + 2; end = length new }) ∷ [])) e ∙ slice_get-last spans (record { start = length lits + 2; end = length new }) in
          let here = at_more in
          let is : s ≡ record { start = length lits + 2; end = length new } = cc in
          let len : length new ≡ length lits + 2 + length c = new_len in
          subst (λ (t : Span). (2 ≤ t.start) × (slice_get new (t.start - 2) ≡ Some (decoded (k + 2))) × (slice_get new (t.start - 1) ≡ Some (decoded (t.end - t.start + 2)))) (sym is) (
            omega arith,
            (let n : length lits + 2 - 2 ≡ length lits = omega arith in let q : length spans + 2 ≡ k + 2 = omega arith in
                (λ i. slice_get (p.items i) (n i)) ∙ slice_get-at lits (decoded (length spans + 2)) (decoded (length c + 2) ∷ c) ∙ ap (λ m. Some (decoded m)) q),
            (let n : length lits + 2 - 1 ≡ suc (length lits) = omega arith in let q : length c + 2 ≡ length new - (length lits + 2) + 2 = omega arith in
                (λ i. slice_get (p.items i) (n i)) ∙ slice_get-next lits (decoded (length spans + 2)) (decoded (length c + 2)) c ∙ ap (λ m. Some (decoded m)) q),
          )

-- an array that is cut back to what it was
pub cut_back : (lits more out cut : List Literal) (end : ℕ) → out ≡ lits ++ more → end ≡ length lits → cut ≡ take end out → cut ≡ lits
cut_back lits more out cut end o e c =
    c ∙ (λ i. take (e i) (o i)) ∙ take-append-le (length lits) lits more (omega arith) ∙ take_all (length lits) lits (omega arith)

pub kept_spans : (lits out : List Literal) (spans new : List Span) → out ≡ lits → new ≡ spans → AreSpans (length lits) spans × AreHeaded lits spans × (length spans < 2 ^ 32)
    → AreSpans (length out) new × AreHeaded out new × (length new < 2 ^ 32)
kept_spans lits out spans new o e h =
    subst (λ ls. AreSpans (length ls) new × AreHeaded ls new × (length new < 2 ^ 32)) (sym o) (subst (λ ss. AreSpans (length lits) ss × AreHeaded lits ss × (length ss < 2 ^ 32)) (sym e) h)

-- ---- a write to one clause
take_set : (n : ℕ) (xs : List Literal) (i : ℕ) (y : Literal) → take n (set xs i y) ≡ set (take n xs) i y
take_set zero xs i y = refl
take_set (suc n) [] i y = refl
take_set (suc n) (x ∷ xs) zero y = refl
take_set (suc n) (x ∷ xs) (suc i) y = ap (λ l. x ∷ l) (take_set n xs i y)

part_set : (lits : List Literal) (s : Span) (i : ℕ) (y : Literal) → part_at (set lits (s.start + i) y) s ≡ set (part_at lits s) i y
part_set lits s i y = ap (take (s.end - s.start)) (drop-set-add s.start lits i y) ∙ take_set (s.end - s.start) (drop s.start lits) i y

part_other : (lits : List Literal) (t : Span) (at : ℕ) (y : Literal) → t.start ≤ t.end → (at < t.start) ⊎ (t.end ≤ at) → part_at (set lits at y) t ≡ part_at lits t
part_other lits t at y le (inl h) = ap (take (t.end - t.start)) (drop-set-lt t.start lits at y h)
part_other lits t at y le (inr h) =
    let e : t.start + (at - t.start) ≡ at = omega arith in
    ap (λ k. take (t.end - t.start) (drop t.start (set lits k y))) (sym e) ∙ ap (take (t.end - t.start)) (drop-set-add t.start lits (at - t.start) y)
    ∙ take-set-le (t.end - t.start) (drop t.start lits) (at - t.start) y (omega arith)

module _ (lits : List Literal) (spans : List Span) (k : ℕ) (s : Span) (at : slice_get spans k ≡ Some s) where
  low : k < length spans
  low = slice_get_within spans k s at

  here : get_or spans k s ≡ s
  here = get_or_from_slice_get spans k s s at

  pub parts_set : (i : ℕ) (y : Literal) → i < s.end - s.start → AreSpans (length lits) spans → parts_at (set lits (s.start + i) y) spans ≡ set (parts_at lits spans) k (set (part_at lits s) i y)
  parts_set i y lt h =
      same_lists (parts_at (set lits (s.start + i) y) spans) (set (parts_at lits spans) k (set (part_at lits s) i y))
      (length-map spans (part_at (set lits (s.start + i) y)) ∙ sym (length-map spans (part_at lits)) ∙ sym (length-set (parts_at lits spans) k (set (part_at lits s) i y)))
      (λ q d l. let m : length (parts_at (set lits (s.start + i) y) spans) ≡ length spans = length-map spans (part_at (set lits (s.start + i) y)) in each q d (omega arith) (lt_trichotomy q k))
    where
      apart : (q : ℕ) (t : Span) → t ≡ get_or spans q s → q < length spans → (q < k) ⊎ (k < q) → (s.start + i < t.start) ⊎ (t.end ≤ s.start + i)
      apart q t e l (inl b) =
          let p : (get_or spans q s).end + 2 ≤ (get_or spans k s).start = h.apart q k s b low in
          let a : (get_or spans k s).start ≡ s.start = ap (λ (x : Span). x.start) here in
          let f : t.end ≡ (get_or spans q s).end = ap (λ (x : Span). x.end) e in
          inr (omega arith)
      apart q t e l (inr b) =
          let p : (get_or spans k s).end + 2 ≤ (get_or spans q s).start = h.apart k q s b l in
          let a : (get_or spans k s).end ≡ s.end = ap (λ (x : Span). x.end) here in
          let f : t.start ≡ (get_or spans q s).start = ap (λ (x : Span). x.start) e in
          inl (omega arith)

      other : (q : ℕ) (d : List Literal) → q < length spans → (q < k) ⊎ (k < q) → q ≢ k
          → get_or (parts_at (set lits (s.start + i) y) spans) q d ≡ get_or (set (parts_at lits spans) k (set (part_at lits s) i y)) q d
      other q d l b n =
          get_or-map (part_at (set lits (s.start + i) y)) spans q s d l
          ∙ part_other lits (get_or spans q s) (s.start + i) y (h.within q s l).0 (apart q (get_or spans q s) refl l b)
          ∙ sym (get_or-map (part_at lits) spans q s d l) ∙ sym (get_or-set_other (parts_at lits spans) k q (set (part_at lits s) i y) d n)

      each : (q : ℕ) (d : List Literal) → q < length spans → (q < k) ⊎ ((q ≡ k) ⊎ (k < q))
          → get_or (parts_at (set lits (s.start + i) y) spans) q d ≡ get_or (set (parts_at lits spans) k (set (part_at lits s) i y)) q d
      each q d l (inl b) = other q d l (inl b) (λ e. omega arith)
      each q d l (inr (inr b)) = other q d l (inr b) (λ e. omega arith)
      each q d l (inr (inl e)) =
          let m : length (parts_at lits spans) ≡ length spans = length-map spans (part_at lits) in
          ap (λ x. get_or (parts_at (set lits (s.start + i) y) spans) x d) e
          ∙ get_or-map (part_at (set lits (s.start + i) y)) spans k s d low ∙ ap (part_at (set lits (s.start + i) y)) here ∙ part_set lits s i y
          ∙ sym (ap (λ x. get_or (set (parts_at lits spans) k (set (part_at lits s) i y)) x d) e ∙ get_or-set_same (parts_at lits spans) k (set (part_at lits s) i y) d (omega arith))

  -- what stands before clauses isn't written to
  pub heads_set : (i : ℕ) (y : Literal) → i < s.end - s.start → AreSpans (length lits) spans → AreHeaded lits spans → AreHeaded (set lits (s.start + i) y) spans
  heads_set i y lt h heads q t there =
      let o = heads q t there in
      let two : 2 ≤ t.start = o.0 in
      let ql : q < length spans = slice_get_within spans q t there in
      let is_t : get_or spans q s ≡ t = get_or_from_slice_get spans q t s there in
      let a = away q t ql is_t (lt_trichotomy q k) in (
        o.0,
        slice_get-set_other lits (s.start + i) (t.start - 2) y (λ e. elim a [ inl x ↦ omega arith | inr x ↦ omega arith ]) ∙ o.1,
        slice_get-set_other lits (s.start + i) (t.start - 1) y (λ e. elim a [ inl x ↦ omega arith | inr x ↦ omega arith ]) ∙ o.2,
      )
    where
      away : (q : ℕ) (t : Span) → q < length spans → get_or spans q s ≡ t → (q < k) ⊎ ((q ≡ k) ⊎ (k < q)) → (t.start ≤ s.start + i) ⊎ (s.start + i + 2 < t.start)
      away q t l e (inl b) =
          let p : (get_or spans q s).end + 2 ≤ (get_or spans k s).start = h.apart q k s b low in
          let w : (get_or spans q s).start ≤ (get_or spans q s).end = (h.within q s l).0 in
          let a : (get_or spans k s).start ≡ s.start = ap (λ (x : Span). x.start) here in
          let f : (get_or spans q s).start ≡ t.start = ap (λ (x : Span). x.start) e in
          inl (omega arith)
      away q t l e (inr (inl b)) =
          let a : (get_or spans k s).start ≡ s.start = ap (λ (x : Span). x.start) here in
          let f : (get_or spans q s).start ≡ t.start = ap (λ (x : Span). x.start) e in
          let g : (get_or spans q s).start ≡ (get_or spans k s).start = ap (λ n. (get_or spans n s).start) b in
          inl (omega arith)
      away q t l e (inr (inr b)) =
          let p : (get_or spans k s).end + 2 ≤ (get_or spans q s).start = h.apart k q s b l in
          let a : (get_or spans k s).end ≡ s.end = ap (λ (x : Span). x.end) here in
          let f : (get_or spans q s).start ≡ t.start = ap (λ (x : Span). x.start) e in
          inr (omega arith)

-- two writes
pub parts_exchanged : (lits : List Literal) (spans : List Span) (k : ℕ) (s : Span) (i j : ℕ) (a b : Literal) → slice_get spans k ≡ Some s → i < s.end - s.start → j < s.end - s.start → AreSpans (length lits) spans
    → parts_at (set (set lits (s.start + i) b) (s.start + j) a) spans ≡ set (parts_at lits spans) k (exchanged (part_at lits s) i j a b)
parts_exchanged lits spans k s i j a b at lti ltj h =
    parts_set (set lits (s.start + i) b) spans k s at j a ltj (subst (λ n. AreSpans n spans) (sym (length-set lits (s.start + i) b)) h)
    ∙ ap (λ ps. set ps k (set (part_at (set lits (s.start + i) b) s) j a)) (parts_set lits spans k s at i b lti h)
    ∙ set-set (parts_at lits spans) k (set (part_at lits s) i b) (set (part_at (set lits (s.start + i) b) s) j a)
    ∙ ap (λ c. set (parts_at lits spans) k (set c j a)) (part_set lits s i b)

-- ---- the literals of a clause behind others, two of them first
pub kept_literal : (first second x : Literal) (out new : List Literal) → differs first second x ≡ true → new ≡ out ++ x ∷ [] → new ≡ out ++ filter (differs first second) (x ∷ [])
kept_literal first second x out new d e = e ∙ ap (λ b. out ++ cond b (x ∷ []) []) (sym d)

pub left_literal : (first second x : Literal) (out : List Literal) → differs first second x ≡ false → out ≡ out ++ filter (differs first second) (x ∷ [])
left_literal first second x out d = sym (append-nil out) ∙ ap (λ b. out ++ cond b (x ∷ []) []) (sym d)

pub appended : (old lits : List Literal) (first second : Literal) (i : ℕ) (x : Literal) (out new : List Literal) → i < length lits → x ≡ get_or lits i x
    → out ≡ old ++ (first ∷ second ∷ filter (differs first second) (take i lits)) → new ≡ out ++ filter (differs first second) (x ∷ [])
    → new ≡ old ++ (first ∷ second ∷ filter (differs first second) (take (i + 1) lits))
appended old lits first second i x out new lt at was is =
    is ∙ ap (λ xs. xs ++ filter (differs first second) (x ∷ [])) was ∙ append_assoc old (first ∷ second ∷ filter (differs first second) (take i lits)) (filter (differs first second) (x ∷ []))
    ∙ ap (λ xs. old ++ (first ∷ second ∷ xs)) (sym (filter_more (differs first second) lits i x lt ∙ ap (λ y. filter (differs first second) (take i lits) ++ filter (differs first second) (y ∷ [])) (sym at)))

pub appended_all : (old lits : List Literal) (first second : Literal) (i : ℕ) (out : List Literal) → length lits ≤ i → out ≡ old ++ (first ∷ second ∷ filter (differs first second) (take i lits)) → out ≡ old ++ ordered lits first second
appended_all old lits first second i out h e = e ∙ ap (λ xs. old ++ (first ∷ second ∷ filter (differs first second) xs)) (take_all i lits h)

-- ---- two literals of a clause change places
pub exchanged_is : (lits : List Literal) (spans : List Span) (k : ℕ) (s : Span) (i j : ℕ) (x y : Literal) (c : List Literal) (a b : Literal) → AreSpans (length lits) spans → s ≡ get_or spans k s
    → x ≡ get_or lits (s.start + i) x → y ≡ get_or lits (s.start + j) y → slice_get (parts_at lits spans) k ≡ Some c → slice_get c i ≡ Some a → slice_get c j ≡ Some b
    → parts_at (set (set lits (s.start + i) y) (s.start + j) x) spans ≡ set (parts_at lits spans) k (exchanged c i j a b)
exchanged_is lits spans k s i j x y c a b h is_s is_x is_y there at_i at_j =
    subst (λ z. parts_at (set (set lits (s.start + i) y) (s.start + j) z) spans ≡ set (parts_at lits spans) k (exchanged c i j a b)) (sym is_a)
    (subst (λ z. parts_at (set (set lits (s.start + i) z) (s.start + j) a) spans ≡ set (parts_at lits spans) k (exchanged c i j a b)) (sym is_b)
    (parts_exchanged lits spans k s i j a b span lt_i lt_j h ∙ ap (λ d. set (parts_at lits spans) k (exchanged d i j a b)) (sym is_c)))
  where
    low : k < length spans
    low = let l : k < length (parts_at lits spans) = slice_get_within (parts_at lits spans) k c there in let e : length (parts_at lits spans) ≡ length spans = length-map spans (part_at lits) in omega arith

    span : slice_get spans k ≡ Some s
    span = slice_get-get_or spans k s low ∙ ap Some (sym is_s)

    is_c : c ≡ part_at lits s
    is_c = let e : slice_get (parts_at lits spans) k ≡ Some (part_at lits s) = slice_get-map (part_at lits) spans k ∙ ap (option_map (part_at lits)) span in cc

    size : length c ≡ min (s.end - s.start) (length (drop s.start lits))
    size = ap length is_c ∙ length-take (s.end - s.start) (drop s.start lits)

    lt_i : i < s.end - s.start
    lt_i = let l : i < length c = slice_get_within c i a at_i in let e : length c ≡ min (s.end - s.start) (length (drop s.start lits)) = size in omega arith

    lt_j : j < s.end - s.start
    lt_j = let l : j < length c = slice_get_within c j b at_j in let e : length c ≡ min (s.end - s.start) (length (drop s.start lits)) = size in omega arith

    read : (q : ℕ) (d : Literal) → q < s.end - s.start → get_or c q d ≡ get_or lits (s.start + q) d
    read q d l = ap (λ e. get_or e q d) is_c ∙ get_or-take (s.end - s.start) (drop s.start lits) q d l ∙ get_or-drop s.start lits q d

    is_a : x ≡ a
    is_a = is_x ∙ sym (read i x lt_i) ∙ get_or_from_slice_get c i a x at_i

    is_b : y ≡ b
    is_b = is_y ∙ sym (read j y lt_j) ∙ get_or_from_slice_get c j b y at_j

-- ---- the number of a clause by its place
index_step : (q p : ℕ) (qs : List ℕ) (t : Bool) → nat_eq q p ≡ t → (index_of qs p < length qs → slice_get qs (index_of qs p) ≡ Some p)
    → cond t 0 (suc (index_of qs p)) < suc (length qs) → slice_get (q ∷ qs) (cond t 0 (suc (index_of qs p))) ≡ Some p
index_step q p qs true e rest h = ap Some ((Decides-eqb q p).0 e)
index_step q p qs false e rest h = rest (omega arith)

pub index_there : (xs : List ℕ) (p : ℕ) → index_of xs p < length xs → slice_get xs (index_of xs p) ≡ Some p
index_there [] p h = absurd (omega arith)
index_there (q ∷ qs) p h = index_step q p qs (nat_eq q p) refl (index_there qs p) h

same_index : (x q p : ℕ) (xs : List ℕ) (t : Bool) → ((index_of xs p < length xs) ⊎ (p ≡ q) → index_of (xs ++ q ∷ []) p ≡ index_of xs p) → (cond t 0 (suc (index_of xs p)) < suc (length xs)) ⊎ (p ≡ q)
    → cond t 0 (suc (index_of (xs ++ q ∷ []) p)) ≡ cond t 0 (suc (index_of xs p))
same_index x q p xs true rest h = refl
same_index x q p xs false rest h = ap suc (rest (elim h [ inl a ↦ inl (omega arith) | inr b ↦ inr b ]))

-- a list that grows by a number that was the next one
pub index_grown : (xs : List ℕ) (q p : ℕ) → (index_of xs p < length xs) ⊎ (p ≡ q) → index_of (xs ++ q ∷ []) p ≡ index_of xs p
index_grown [] q p h = elim h [ inl a ↦ absurd (omega arith) | inr e ↦ ap (λ b. cond b 0 1) ((Decides-eqb q p).1 (sym e)) ]
index_grown (x ∷ xs) q p h = same_index x q p xs (nat_eq x p) (index_grown xs q p) h

absent_step : (q p n : ℕ) (t : Bool) (i : ℕ) → nat_eq q p ≡ t → q < p → i ≡ n → cond t 0 (suc i) ≡ suc n
absent_step q p n true i e lt rest = absurd (let s : q ≡ p = (Decides-eqb q p).0 e in omega arith)
absent_step q p n false i e lt rest = ap suc rest

-- the next place is none of those before
pub index_fresh : (size : ℕ) (spans : List Span) → All (λ s. (s.start ≤ s.end) × (s.end ≤ size)) spans → index_of (starts_of spans) (size + 2) ≡ length (starts_of spans)
index_fresh size [] h = refl
index_fresh size (s ∷ spans) h =
    let w = All-head (λ (t : Span). (t.start ≤ t.end) × (t.end ≤ size)) s spans h in
    let a : s.start ≤ s.end = w.0 in
    let b : s.end ≤ size = w.1 in
    absent_step s.start (size + 2) (length (starts_of spans)) (nat_eq s.start (size + 2)) (index_of (starts_of spans) (size + 2)) refl (omega arith)
    (index_fresh size spans (All-tail (λ (t : Span). (t.start ≤ t.end) × (t.end ≤ size)) s spans h))

-- the span that begins at a place
pub span_at : (spans : List Span) (k p : ℕ) → slice_get (starts_of spans) k ≡ Some p → (s : Span) × (slice_get spans k ≡ Some s) × (s.start ≡ p)
span_at [] k p h = absurd (let l : k < 0 = slice_get_within [] k p h in omega arith)
span_at (s ∷ spans) zero p h = (s, refl, let e : s.start ≡ p = cc in e)
span_at (s ∷ spans) (suc k) p h = span_at spans k p h

-- what stands before the clause that begins at a place
module _ (lits : List Literal) (spans : List Span) (h : AreSpans (length lits) spans) (heads : AreHeaded lits spans) (p : ℕ) where
  module _ (lt : index_of (starts_of spans) p < length (starts_of spans)) where
    pub found : (s : Span) × (slice_get spans (index_of (starts_of spans) p) ≡ Some s) × (s.start ≡ p)
    found = span_at spans (index_of (starts_of spans) p) p (index_there (starts_of spans) p lt)

    pub bounds : (found.0.start ≤ found.0.end) × (found.0.end ≤ length lits)
    bounds = All-slice_get (λ (s : Span). (s.start ≤ s.end) × (s.end ≤ length lits)) spans (index_of (starts_of spans) p) found.0 h.within found.1

    pub place_low : 2 ≤ p
    place_low = subst (λ n. 2 ≤ n) found.2 (heads (index_of (starts_of spans) p) found.0 found.1).0

    pub place_high : p ≤ length lits
    place_high = let a : found.0.start ≤ found.0.end = bounds.0 in let b : found.0.end ≤ length lits = bounds.1 in let e : found.0.start ≡ p = found.2 in omega arith

    pub number_is : (x : Literal) (n : ℕ) → x ≡ get_or lits (p - 2) x → n + 2 ≡ code_of x → n ≡ index_of (starts_of spans) p
    number_is x n at e =
        let word : slice_get lits (p - 2) ≡ Some (decoded (index_of (starts_of spans) p + 2)) = subst (λ m. slice_get lits (m - 2) ≡ Some (decoded (index_of (starts_of spans) p + 2))) found.2 (heads (index_of (starts_of spans) p) found.0 found.1).1 in
        let is : x ≡ decoded (index_of (starts_of spans) p + 2) = at ∙ get_or_from_slice_get lits (p - 2) (decoded (index_of (starts_of spans) p + 2)) x word in
        let c : code_of x ≡ index_of (starts_of spans) p + 2 = ap code_of is ∙ code_of-decoded (index_of (starts_of spans) p + 2) in
        omega arith

    pub count_is : (x : Literal) (n : ℕ) → x ≡ get_or lits (p - 1) x → n + 2 ≡ code_of x → n ≡ found.0.end - found.0.start
    count_is x n at e =
        let word : slice_get lits (p - 1) ≡ Some (decoded (found.0.end - found.0.start + 2)) = subst (λ m. slice_get lits (m - 1) ≡ Some (decoded (found.0.end - found.0.start + 2))) found.2 (heads (index_of (starts_of spans) p) found.0 found.1).2 in
        let is : x ≡ decoded (found.0.end - found.0.start + 2) = at ∙ get_or_from_slice_get lits (p - 1) (decoded (found.0.end - found.0.start + 2)) x word in
        let c : code_of x ≡ found.0.end - found.0.start + 2 = ap code_of is ∙ code_of-decoded (found.0.end - found.0.start + 2) in
        omega arith

    pub ends_within : (x : Literal) (n : ℕ) → x ≡ get_or lits (p - 1) x → n + 2 ≡ code_of x → p + n ≤ length lits
    ends_within x n at e =
        let c : n ≡ found.0.end - found.0.start = count_is x n at e in
        let a : found.0.start ≤ found.0.end = bounds.0 in
        let b : found.0.end ≤ length lits = bounds.1 in
        let f : found.0.start ≡ p = found.2 in
        omega arith

    pub clause_is : (x : Literal) (n : ℕ) → x ≡ get_or lits (p - 1) x → n + 2 ≡ code_of x → slice_get (parts_at lits spans) (index_of (starts_of spans) p) ≡ Some (take (p + n - p) (drop p lits))
    clause_is x n at e =
        let c : n ≡ found.0.end - found.0.start = count_is x n at e in
        let f : found.0.start ≡ p = found.2 in
        let size : found.0.end - found.0.start ≡ p + n - p = omega arith in
        slice_get-map (part_at lits) spans (index_of (starts_of spans) p) ∙ ap (option_map (part_at lits)) found.1 ∙ (λ i. Some (take (size i) (drop (f i) lits)))

-- two literals of the clause that begins at a place change places
module _ (lits : List Literal) (spans : List Span) (p i j : ℕ) (c : List Literal) (h : AreSpans (length lits) spans) (heads : AreHeaded lits spans)
    (there : slice_get (parts_at lits spans) (index_of (starts_of spans) p) ≡ Some c) (lt_i : i < length c) (lt_j : j < length c) where
  is_start : index_of (starts_of spans) p < length (starts_of spans)
  is_start =
      let l : index_of (starts_of spans) p < length (parts_at lits spans) = slice_get_within (parts_at lits spans) (index_of (starts_of spans) p) c there in
      let a : length (starts_of spans) ≡ length spans = length-map spans (λ (s : Span). s.start) in
      let b : length (parts_at lits spans) ≡ length spans = length-map spans (part_at lits) in omega arith

  abbrev span : (s : Span) × (slice_get spans (index_of (starts_of spans) p) ≡ Some s) × (s.start ≡ p)
  span = found lits spans h heads p is_start

  size : (length c ≤ span.0.end - span.0.start) × (span.0.end ≤ length lits)
  size =
      let e : slice_get (parts_at lits spans) (index_of (starts_of spans) p) ≡ Some (part_at lits span.0) = slice_get-map (part_at lits) spans (index_of (starts_of spans) p) ∙ ap (option_map (part_at lits)) span.1 in
      let is_c : c ≡ part_at lits span.0 = cc in
      let len : length c ≡ min (span.0.end - span.0.start) (length (drop span.0.start lits)) = ap length is_c ∙ length-take (span.0.end - span.0.start) (drop span.0.start lits) in
      let b : span.0.end ≤ length lits = (bounds lits spans h heads p is_start).1 in
      (omega arith, b)

  pub place_within : (q : ℕ) → q < length c → p + q < length lits
  place_within q l =
      let a : length c ≤ span.0.end - span.0.start = size.0 in
      let b : span.0.end ≤ length lits = size.1 in
      let e : span.0.start ≡ p = span.2 in
      let o : span.0.start ≤ span.0.end = (bounds lits spans h heads p is_start).0 in omega arith

  module _ (x y : Literal) where
    pub exchanged_heads : AreSpans (length (set (set lits (p + i) y) (p + j) x)) spans × AreHeaded (set (set lits (p + i) y) (p + j) x) spans
    exchanged_heads =
        let a : length c ≤ span.0.end - span.0.start = size.0 in
        let one : AreSpans (length (set lits (span.0.start + i) y)) spans = subst (λ n. AreSpans n spans) (sym (length-set lits (span.0.start + i) y)) h in
        let headed : AreHeaded (set lits (span.0.start + i) y) spans = heads_set lits spans (index_of (starts_of spans) p) span.0 span.1 i y (omega arith) h heads in
        subst (λ n. AreSpans (length (set (set lits (n + i) y) (n + j) x)) spans × AreHeaded (set (set lits (n + i) y) (n + j) x) spans) span.2 (
          subst (λ n. AreSpans n spans) (sym (length-set (set lits (span.0.start + i) y) (span.0.start + j) x)) one,
          heads_set (set lits (span.0.start + i) y) spans (index_of (starts_of spans) p) span.0 span.1 j x (omega arith) one headed,
        )

    pub exchanged_view : (a b : Literal) → x ≡ get_or lits (p + i) x → y ≡ get_or lits (p + j) y → slice_get c i ≡ Some a → slice_get c j ≡ Some b
        → ◌≡◌ {A = ArenaModel} (record { clauses = parts_at (set (set lits (p + i) y) (p + j) x) spans; starts = starts_of spans; next = length (set (set lits (p + i) y) (p + j) x) + 2 })
        (record { clauses = set (parts_at lits spans) (index_of (starts_of spans) p) (exchanged c i j a b); starts = starts_of spans; next = length lits + 2 })
    exchanged_view a b is_x is_y at_i at_j =
        let same = span.2 in
        let view : parts_at (set (set lits (span.0.start + i) y) (span.0.start + j) x) spans ≡ set (parts_at lits spans) (index_of (starts_of spans) p) (exchanged c i j a b) =
        exchanged_is lits spans (index_of (starts_of spans) p) span.0 i j x y c a b h (sym (get_or_from_slice_get spans (index_of (starts_of spans) p) span.0 span.0 span.1))
        (subst (λ n. x ≡ get_or lits (n + i) x) (sym same) is_x) (subst (λ n. y ≡ get_or lits (n + j) y) (sym same) is_y) there at_i at_j in
        let len : length (set (set lits (p + i) y) (p + j) x) ≡ length lits = length-set (set lits (p + i) y) (p + j) x ∙ length-set lits (p + i) y in
        let here : parts_at (set (set lits (p + i) y) (p + j) x) spans ≡ set (parts_at lits spans) (index_of (starts_of spans) p) (exchanged c i j a b) =
        subst (λ n. parts_at (set (set lits (n + i) y) (n + j) x) spans ≡ set (parts_at lits spans) (index_of (starts_of spans) p) (exchanged c i j a b)) same view in
        λ t. record { clauses = here t; starts = starts_of spans; next = len t + 2 }

-- ---- the last clause is taken off
same_front : {X : Type 0} (xs ys : List X) (x y : X) → xs ++ x ∷ [] ≡ ys ++ y ∷ [] → xs ≡ ys
same_front xs ys x y e =
    let a : length (xs ++ x ∷ []) ≡ length xs + 1 = length-append xs (x ∷ []) in
    let b : length (ys ++ y ∷ []) ≡ length ys + 1 = length-append ys (y ∷ []) in
    let c : length (xs ++ x ∷ []) ≡ length (ys ++ y ∷ []) = ap length e in
    let n : length xs ≡ length ys = omega arith in
    sym (take-append-le (length xs) xs (x ∷ []) (omega arith) ∙ take_all (length xs) xs (omega arith)) ∙ (λ i. take (n i) (e i))
    ∙ take-append-le (length ys) ys (y ∷ []) (omega arith) ∙ take_all (length ys) ys (omega arith)

module _ (lits out : List Literal) (spans front : List Span) (s : Span) (last : spans ≡ front ++ s ∷ []) (cut : out ≡ take (s.start - 2) lits) (h : AreSpans (length lits) spans) (heads : AreHeaded lits spans) where
  at_last : slice_get spans (length front) ≡ Some s
  at_last = ap (λ (ss : List Span). slice_get ss (length front)) last ∙ slice_get-last front s

  pub last_low : 2 ≤ s.start
  last_low = (heads (length front) s at_last).0

  last_high : s.start ≤ length lits
  last_high =
      let w = All-slice_get (λ (t : Span). (t.start ≤ t.end) × (t.end ≤ length lits)) spans (length front) s h.within at_last in
      let a : s.start ≤ s.end = w.0 in
      let b : s.end ≤ length lits = w.1 in
      omega arith

  out_len : length out ≡ s.start - 2
  out_len =
      let a : length out ≡ min (s.start - 2) (length lits) = ap length cut ∙ length-take (s.start - 2) lits in
      let b : s.start ≤ length lits = last_high in
      omega arith

  before : All (λ (t : Span). t.end + 2 ≤ s.start) front
  before = AllPairs-last (λ (t u : Span). t.end + 2 ≤ u.start) front s (subst (AllPairs (λ (t u : Span). t.end + 2 ≤ u.start)) last h.apart)

  within_front : All (λ (t : Span). (t.start ≤ t.end) × (t.end ≤ length out)) front
  within_front k d l =
      let a : (get_or front k d).end + 2 ≤ s.start = before k d l in
      let w = All-front (λ (t : Span). (t.start ≤ t.end) × (t.end ≤ length lits)) front (s ∷ []) (subst (All (λ (t : Span). (t.start ≤ t.end) × (t.end ≤ length lits))) last h.within) k d l in
      let n : length out ≡ s.start - 2 = out_len in
      (w.0, omega arith)

  pub spans_popped : AreSpans (length out) front
  spans_popped = record {
    within = within_front;
    apart = AllPairs-front (λ (t u : Span). t.end + 2 ≤ u.start) front (s ∷ []) (subst (AllPairs (λ (t u : Span). t.end + 2 ≤ u.start)) last h.apart);
  }

  pub heads_popped : AreHeaded out front
  heads_popped k t at =
      let lt : k < length front = slice_get_within front k t at in
      let there : slice_get spans k ≡ Some t = ap (λ (ss : List Span). slice_get ss k) last ∙ slice_get-front front (s ∷ []) k lt ∙ at in
      let o = heads k t there in
      let two : 2 ≤ t.start = o.0 in
      let w = All-slice_get (λ (u : Span). (u.start ≤ u.end) × (u.end ≤ length out)) front k t within_front at in
      let a : t.start ≤ t.end = w.0 in
      let b : t.end ≤ length out = w.1 in
      let n : length out ≡ s.start - 2 = out_len in (
        o.0,
        ap (λ (ls : List Literal). slice_get ls (t.start - 2)) cut ∙ slice_get-within_take (s.start - 2) lits (t.start - 2) (decoded (k + 2)) (omega arith) o.1,
        ap (λ (ls : List Literal). slice_get ls (t.start - 1)) cut ∙ slice_get-within_take (s.start - 2) lits (t.start - 1) (decoded (t.end - t.start + 2)) (omega arith) o.2,
      )

  pub few_popped : length spans < 2 ^ 32 → length front < 2 ^ 32
  few_popped few = let a : length spans ≡ length front + 1 = ap length last ∙ length-append front (s ∷ []) in omega arith

  pub takes_off : TakesOff (record { clauses = parts_at lits spans; starts = starts_of spans; next = length lits + 2 }) (record { clauses = parts_at out front; starts = starts_of front; next = length out + 2 })
  takes_off clauses c starts p e f =
      let whole : lits ≡ out ++ drop (s.start - 2) lits = sym (take-append-drop (s.start - 2) lits) ∙ ap (λ (ls : List Literal). ls ++ drop (s.start - 2) lits) (sym cut) in
      let grown : parts_at lits front ≡ parts_at out front = ap (λ (ls : List Literal). parts_at ls front) whole ∙ parts_grown out (drop (s.start - 2) lits) front within_front in
      let all : parts_at lits spans ≡ parts_at lits front ++ part_at lits s ∷ [] = ap (parts_at lits) last ∙ map_push (part_at lits) front s in
      let places : starts_of spans ≡ starts_of front ++ s.start ∷ [] = ap starts_of last ∙ map_push (λ (t : Span). t.start) front s in
      (sym grown ∙ same_front (parts_at lits front) clauses (part_at lits s) c (sym all ∙ e), same_front (starts_of front) starts s.start p (sym places ∙ f))
