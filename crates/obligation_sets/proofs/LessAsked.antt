-- What it means that a cover asks no more than another, and where covers come from.
use Rattle.std.proofs.Common.{◌≡◌, inl, inr, ℕ, min, Bool, true, false, not, ◌&&◌, List, [], ◌∷◌, ◌++◌, filter, refl, sym, ◌∙◌, ap, subst, arith}
use Rattle.std.specs.Prelude.{Contains, IsTrue, bit_and, fold}
use Rattle.std.specs.Int.{bit_at}
use Rattle.std.specs.List.{list_any}
use Rattle.std.proofs.lemmas.Bool.{and_from, and_parts, both_ways, cond-false, eq-eqb, eqb-true, false_from_ne_true}
use Rattle.std.proofs.lemmas.Nat.{and_assoc}
use Rattle.std.proofs.lemmas.Nat.Bits.{bit_at_and, same_from_bits}
use Rattle.std_lemmas.proofs.Lists.{Contains-cases, Contains-head, Contains-later, Contains-none, any_holds}
use Rattle.indexmap.specs.IndexSet.{insert_key}
use Rattle.letters_and_lassos.specs.Signals.{has}
use Rattle.letters_and_lassos.proofs.Sets.{has-bit_and}
use Rattle.ltl_formula.specs.declared.nodes.FormulaId.{FormulaId}
use Rattle.ltl_formula.specs.declared.nodes.Node.{Node}
use Rattle.ltl_formula.proofs.NodeEquality.{same_id_of}
use Rattle.obligation_sets.specs.declared.sets.Cover.{Cover}
use Rattle.obligation_sets.specs.declared.sets.Covering.{Covering}
use Rattle.obligation_sets.specs.Covers.{alive, same_cover, set_leaves}
use Rattle.obligation_sets.specs.Gathered.{gather, keep_minimal}
use Rattle.obligation_sets.specs.Ids.{all_among, has_id, ids_of, is_among, same_id}
use Rattle.obligation_sets.specs.Reduced.{asks_no_more, asks_the_same, cover_by, covers_by, cut, implied_by, is_part, left_by}
use Rattle.obligation_sets.proofs.Distinct.{all_from, all_in, any_of, same_cover-decides}
use Rattle.obligation_sets.proofs.IdLists.{flag_of_id}
use Rattle.obligation_sets.proofs.Flags.{without-at}
use Rattle.obligation_sets.proofs.Lists.{filter_from}
use Rattle.obligation_sets.proofs.Minimal.{IsBelow, IsKept, kept}

-- parts of sets of signals
part_refl : (a : ℕ) → is_part a a ≡ true
part_refl a = eq-eqb (bit_and a a) a (same_from_bits (bit_and a a) a (λ i. let e : bit_at (bit_and a a) i ≡ min (bit_at a i) (bit_at a i) = bit_at_and a a i in omega arith))

part_trans : (a b c : ℕ) → is_part a b ≡ true → is_part b c ≡ true → is_part a c ≡ true
part_trans a b c first second =
    let one : bit_and a b ≡ a = eqb-true (bit_and a b) a first in
    let two : bit_and b c ≡ b = eqb-true (bit_and b c) b second in
    eq-eqb (bit_and a c) a (ap (λ x. bit_and x c) (sym one) ∙ and_assoc c a b ∙ ap (bit_and a) two ∙ one)

part_has : (a b k : ℕ) → is_part a b ≡ true → IsTrue (has a k) → IsTrue (has b k)
part_has a b k h there = (has-bit_and a b k (subst (λ (x : ℕ). IsTrue (has x k)) (sym (eqb-true (bit_and a b) a h)) there)).1

-- parts of sets of formulas
among_from : (ids : List FormulaId) (f : FormulaId) → is_among ids f ≡ true → Contains ids f
among_from ids f h =
    let found : (g : FormulaId) × Contains ids g × (same_id g f ≡ true) = any_of (λ g. same_id g f) ids h in
    subst (λ (x : FormulaId). Contains ids x) (same_id_of found.0 f (eqb-true found.0.0 f.0 found.2)) found.1

among_in : (ids : List FormulaId) (f : FormulaId) → Contains ids f → is_among ids f ≡ true
among_in ids f c = any_holds (λ g. same_id g f) ids f c (eq-eqb f.0 f.0 refl)

all_parts : (fs ids : List FormulaId) → all_among fs ids ≡ true → (f : FormulaId) → Contains fs f → Contains ids f
all_parts [] ids h f c = absurd (Contains-none f c)
all_parts (g ∷ fs) ids h f c =
    let parts : (is_among ids g ≡ true) × (all_among fs ids ≡ true) = and_parts (is_among ids g) (all_among fs ids) h in
    elim (Contains-cases g fs f c) [
      | inl same ↦ subst (λ (x : FormulaId). Contains ids x) same (among_from ids g parts.0)
      | inr later ↦ all_parts fs ids parts.1 f later
    ]

all_made : (fs ids : List FormulaId) → ((f : FormulaId) → Contains fs f → Contains ids f) → all_among fs ids ≡ true
all_made [] ids each = refl
all_made (g ∷ fs) ids each =
    and_from (is_among ids g) (all_among fs ids) (among_in ids g (each g (Contains-head g fs))) (all_made fs ids (λ f c. each f (Contains-later g fs f c)))

-- what it means that a cover asks no more than another
pub record AsksNoMore (c d : Cover) : Type 0 where
  must : is_part c.cube.must d.cube.must ≡ true
  none_of : is_part c.cube.not d.cube.not ≡ true
  next : all_among c.next d.next ≡ true
  postponed : all_among c.postponed d.postponed ≡ true

asked_parts : (c d : Cover) → asks_no_more c d ≡ true → AsksNoMore c d
asked_parts c d h =
    let three : ((is_part c.cube.must d.cube.must && is_part c.cube.not d.cube.not && all_among c.next d.next) ≡ true) × (all_among c.postponed d.postponed ≡ true) = and_parts _ _ h in
    let two : ((is_part c.cube.must d.cube.must && is_part c.cube.not d.cube.not) ≡ true) × (all_among c.next d.next ≡ true) = and_parts _ _ three.0 in
    let one : (is_part c.cube.must d.cube.must ≡ true) × (is_part c.cube.not d.cube.not ≡ true) = and_parts _ _ two.0 in
    record { must = one.0; none_of = one.1; next = two.1; postponed = three.1 }

asked_from : (c d : Cover) → AsksNoMore c d → asks_no_more c d ≡ true
asked_from c d a = and_from _ _ (and_from _ _ (and_from _ _ a.must a.none_of) a.next) a.postponed

pub asks_refl : (c : Cover) → asks_no_more c c ≡ true
asks_refl c = asked_from c c (record {
  must = part_refl c.cube.must;
  none_of = part_refl c.cube.not;
  next = all_made c.next c.next (λ f there. there);
  postponed = all_made c.postponed c.postponed (λ f there. there);
})

pub asks_trans : (b c d : Cover) → asks_no_more b c ≡ true → asks_no_more c d ≡ true → asks_no_more b d ≡ true
asks_trans b c d first second =
    let p : AsksNoMore b c = asked_parts b c first in
    let q : AsksNoMore c d = asked_parts c d second in
    asked_from b d (record {
      must = part_trans b.cube.must c.cube.must d.cube.must p.must q.must;
      none_of = part_trans b.cube.not c.cube.not d.cube.not p.none_of q.none_of;
      next = all_made b.next d.next (λ f there. all_parts c.next d.next q.next f (all_parts b.next c.next p.next f there));
      postponed = all_made b.postponed d.postponed (λ f there. all_parts c.postponed d.postponed q.postponed f (all_parts b.postponed c.postponed p.postponed f there));
    })

-- the same in terms of what stands in the sets
pub record IsPartOf (c d : Cover) : Type 0 where
  pub must : (k : ℕ) → IsTrue (has c.cube.must k) → IsTrue (has d.cube.must k)
  pub none_of : (k : ℕ) → IsTrue (has c.cube.not k) → IsTrue (has d.cube.not k)
  pub next : (f : FormulaId) → Contains c.next f → Contains d.next f
  pub postponed : (f : FormulaId) → Contains c.postponed f → Contains d.postponed f

pub part_of : (c d : Cover) → asks_no_more c d ≡ true → IsPartOf c d
part_of c d h =
    let p : AsksNoMore c d = asked_parts c d h in
    record {
      must = λ k. part_has c.cube.must d.cube.must k p.must;
      none_of = λ k. part_has c.cube.not d.cube.not k p.none_of;
      next = all_parts c.next d.next p.next;
      postponed = all_parts c.postponed d.postponed p.postponed;
    }

-- a cover that is put behind those that don't ask no less
pub kept_new : (old after new : List Cover) (cover : Cover) → list_any (λ k. asks_no_more k cover) old ≡ false → after ≡ filter (λ k. not (asks_no_more cover k)) old → new ≡ insert_key same_cover after cover
    → new ≡ keep_minimal old cover
kept_new old after new cover none kept put =
    put ∙ cond-false (list_any (same_cover cover) after) after (after ++ cover ∷ []) fresh
    ∙ ap (λ l. l ++ cover ∷ []) kept
    ∙ sym (cond-false (list_any (λ k. asks_no_more k cover) old) old (filter (λ k. not (asks_no_more cover k)) old ++ cover ∷ []) none)
  where
    fresh : list_any (same_cover cover) after ≡ false
    fresh =
        false_from_ne_true (list_any (same_cover cover) after)
        (λ e.
        let found : (y : Cover) × Contains after y × (same_cover cover y ≡ true) = any_of (same_cover cover) after e in
        let same : cover ≡ found.0 = same_cover-decides cover found.0 found.2 in
        let there : Contains old found.0 = filter_from (λ k. not (asks_no_more cover k)) old found.0 (subst (λ (l : List Cover). Contains l found.0) kept found.1) in
        both_ways (list_any (λ k. asks_no_more k cover) old) none
        (any_holds (λ k. asks_no_more k cover) old found.0 there (subst (λ (c : Cover). asks_no_more found.0 c ≡ true) (sym same) (asks_refl found.0))))

-- what a cover leaves its leaf leaves
pub left_from : (covering : Covering) (ns : List Node) (left : List Bool) (f : FormulaId) → Contains (ids_of (left_by covering ns left)) f → has_id left f ≡ true
left_from Covering.Plain ns left f c = flag_of_id left f c
left_from Covering.Reduced ns left f c = (and_parts _ _ (sym (without-at left (implied_by ns left) f.0) ∙ flag_of_id (cut ns left) f c)).0

-- the covers kept one by one are those of the definition, each comes from a leaf, and below each leaf's there is one
pub minimal_kept : (covers : List Cover) → IsKept asks_no_more asks_refl asks_trans covers (fold keep_minimal [] covers)
minimal_kept covers = kept asks_no_more asks_refl asks_trans covers

pub covers_gathered : (covering : Covering) (ns : List Node) (set : List FormulaId) → fold (gather covering) [] (alive (cover_by covering ns) (set_leaves ns set)) ≡ covers_by covering ns set
covers_gathered Covering.Plain ns set = refl
covers_gathered Covering.Reduced ns set = (minimal_kept (alive (cover_by Covering.Reduced ns) (set_leaves ns set))).is

pub covers_from : (covering : Covering) (ns : List Node) (set : List FormulaId) (c : Cover) → Contains (covers_by covering ns set) c → Contains (alive (cover_by covering ns) (set_leaves ns set)) c
covers_from Covering.Plain ns set c there =
    elim (all_from same_cover [] (alive (cover_by Covering.Plain ns) (set_leaves ns set)) c there) [ inl none ↦ absurd (Contains-none c none) | inr alives ↦ alives ]
covers_from Covering.Reduced ns set c there =
    elim (all_from asks_the_same [] (alive (cover_by Covering.Reduced ns) (set_leaves ns set)) c (filter_from _ _ c there)) [ inl none ↦ absurd (Contains-none c none) | inr alives ↦ alives ]

-- one of the covers asks no more than this one
pub record HasBelow (covers : List Cover) (c : Cover) : Type 0 where
  pub cover : Cover
  pub there : Contains covers cover
  pub part : IsPartOf cover c

pub covers_below : (covering : Covering) (ns : List Node) (set : List FormulaId) (c : Cover) → Contains (alive (cover_by covering ns) (set_leaves ns set)) c → HasBelow (covers_by covering ns set) c
covers_below Covering.Plain ns set c alives = record {
  cover = c;
  there = all_in same_cover same_cover-decides [] (alive (cover_by Covering.Plain ns) (set_leaves ns set)) c alives;
  part = part_of c c (asks_refl c);
}
covers_below Covering.Reduced ns set c alives =
    let known : IsKept asks_no_more asks_refl asks_trans (alive (cover_by Covering.Reduced ns) (set_leaves ns set)) (fold keep_minimal [] (alive (cover_by Covering.Reduced ns) (set_leaves ns set))) =
    minimal_kept (alive (cover_by Covering.Reduced ns) (set_leaves ns set)) in
    let b : IsBelow asks_no_more asks_refl asks_trans (fold keep_minimal [] (alive (cover_by Covering.Reduced ns) (set_leaves ns set))) c = known.below c alives in
    record { cover = b.element; there = subst (λ (l : List Cover). Contains l b.element) known.is b.there; part = part_of b.element c b.below }
