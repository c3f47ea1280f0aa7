-- Numbers by their places.
use Rattle.std.proofs.Common.{◌≡◌, ◌⊎◌, ℕ, ◌+◌, ◌<◌, ◌≤◌, Bool, true, false, ◌&&◌, cond, eqb, List, [], ◌∷◌, ◌++◌, Option, Some, None, length, get_or, take, refl, sym, ap, subst, ◌∙◌, arith, inl, inr}
use Rattle.std.specs.Prelude.{IfSome}
use Rattle.std.specs.Cmp.{booleans_Decides}
use Rattle.std.specs.Cmp.Lexicographic.{pointwise_decides}
use Rattle.std.proofs.lemmas.Bool.{and_parts, eqb-true, eq-eqb}
use Rattle.std.proofs.lemmas.List.{take_more}
use Rattle.std.proofs.lemmas.List.Elements.{Contains-append_left, Contains-push, Contains-push_cases}
use Rattle.annot_check.specs.declared.pairs.Pair.{Pair}
use Rattle.annot_check.specs.declared.numbers.Place.{Place}
use Rattle.annot_check.specs.Place.{same_code}
use Rattle.annot_check.specs.Pairs.{PairStands}
use Rattle.annot_check.specs.Numbers.{Adds, AtLeast, Knows, place_eq, pair_place}

place_of_parts : (p q : Place) → p.code ≡ q.code → p.state ≡ q.state → p ≡ q
place_of_parts p q e f = λ i. record { code = e i; state = f i }

place_parts : (p q : Place) → (same_code p.code q.code && eqb p.state q.state) ≡ true → p ≡ q
place_parts p q h =
    let parts : (same_code p.code q.code ≡ true) × (eqb p.state q.state ≡ true) = and_parts _ _ h in
    place_of_parts p q ((pointwise_decides booleans_Decides p.code q.code).0 parts.0) (eqb-true p.state q.state parts.1)

-- places that are tested to be the same are one
pub same_place : (p q : Place) → place_eq p q ≡ true → p ≡ q
same_place p q h = place_parts p q h

itself_parts : (p : Place) → (same_code p.code p.code && eqb p.state p.state) ≡ true
itself_parts p = λ i. (pointwise_decides booleans_Decides p.code p.code).1 refl i && eq-eqb p.state p.state refl i

pub place_itself : (p : Place) → place_eq p p ≡ true
place_itself p = itself_parts p

-- the numbers with that of one pair more
module _ (old new : Place → Option ℕ) (pair : Pair) (number : ℕ) (own : pair.number ≤ number) (over : IfSome (old (pair_place pair)) (λ n. n ≤ number))
    (one_of : (number ≡ pair.number) ⊎ (old (pair_place pair) ≡ Some number))
    (puts : (q : Place) → new q ≡ cond (place_eq (pair_place pair) q) (Some number) (old q)) where
  -- at the place itself
  here : new (pair_place pair) ≡ Some number
  here = puts (pair_place pair) ∙ ap (λ b. cond b (Some number) (old (pair_place pair))) (place_itself (pair_place pair))

  kept_here : (least : ℕ) → AtLeast (old (pair_place pair)) least → least ≤ number
  kept_here least h = by (old (pair_place pair)) over h
    where
      by : (o : Option ℕ) → IfSome o (λ n. n ≤ number) → AtLeast o least → least ≤ number
      by None le h = absurd h
      by (Some n) le h = omega (arith, le, h)

  from_here : (least : ℕ) → least ≤ number → AtLeast (old (pair_place pair)) least ⊎ (least ≤ pair.number)
  from_here least h = elim one_of [
    | inl is ↦ inr (omega arith)
    | inr there ↦ inl (subst (λ o. AtLeast o least) (sym there) h)
  ]

  kept : (q : Place) (least : ℕ) → AtLeast (old q) least → AtLeast (new q) least
  kept q least h = by (place_eq (pair_place pair) q) refl
    where
      by : (b : Bool) → place_eq (pair_place pair) q ≡ b → AtLeast (new q) least
      by true e =
          let one : pair_place pair ≡ q = same_place (pair_place pair) q e in
          subst (λ p. AtLeast (new p) least) one (subst (λ o. AtLeast o least) (sym here) (kept_here least (subst (λ p. AtLeast (old p) least) (sym one) h)))
      by false e = subst (λ o. AtLeast o least) (sym (puts q ∙ ap (λ b. cond b (Some number) (old q)) e)) h

  added : (q : Place) (least : ℕ) → q ≡ pair_place pair → least ≤ pair.number → AtLeast (new q) least
  added q least one le =
      let enough : least ≤ number = (omega arith) in
      subst (λ p. AtLeast (new p) least) (sym one) (subst (λ o. AtLeast o least) (sym here) enough)

  no_other : (q : Place) (least : ℕ) → AtLeast (new q) least → AtLeast (old q) least ⊎ ((q ≡ pair_place pair) × (least ≤ pair.number))
  no_other q least h = by (place_eq (pair_place pair) q) refl
    where
      by : (b : Bool) → place_eq (pair_place pair) q ≡ b → AtLeast (old q) least ⊎ ((q ≡ pair_place pair) × (least ≤ pair.number))
      by true e =
          let one : pair_place pair ≡ q = same_place (pair_place pair) q e in
          elim (from_here least (subst (λ o. AtLeast o least) here (subst (λ p. AtLeast (new p) least) (sym one) h))) [
            | inl there ↦ inl (subst (λ p. AtLeast (old p) least) one there)
            | inr le ↦ inr (sym one, le)
          ]
      by false e = inl (subst (λ o. AtLeast o least) (puts q ∙ ap (λ b. cond b (Some number) (old q)) e) h)

  pub adds : Adds old new pair
  adds = record { kept = kept; added = added; no_other = no_other }

-- and one pair more
pub knows_push : (old new : Place → Option ℕ) (pairs : List Pair) (pair : Pair) → Knows old pairs → Adds old new pair → Knows new (pairs ++ pair ∷ [])
knows_push old new pairs pair knows adds = record {
  finds = λ q least h. elim (adds.no_other q least h) [
    | inl before ↦ (let s : PairStands pairs q.code q.state least = knows.finds q least before in
        record { pair = s.pair; among = Contains-append_left pairs (pair ∷ []) s.pair s.among; code_is = s.code_is; state_is = s.state_is; enough = s.enough })
    | inr own ↦ record {
      pair = pair;
      among = Contains-push pairs pair;
      code_is = ap (λ (p : Place). p.code) (sym own.0);
      state_is = ap (λ (p : Place). p.state) (sym own.0);
      enough = own.1;
    }
  ];
  finds_all = λ q least s. elim (Contains-push_cases pairs pair s.pair s.among) [
    | inl before ↦ adds.kept q least (knows.finds_all q least (record { pair = s.pair; among = before; code_is = s.code_is; state_is = s.state_is; enough = s.enough }))
    | inr one ↦ adds.added q least
        (λ i. record { code = (sym s.code_is ∙ ap (λ (p : Pair). p.code) (sym one)) i; state = (sym s.state_is ∙ ap (λ (p : Pair). p.state) (sym one)) i })
        (subst (λ (p : Pair). least ≤ p.number) (sym one) s.enough)
  ];
}

pub knows_more : (old new : Place → Option ℕ) (pairs : List Pair) (i : ℕ) (pair : Pair) → i < length pairs → get_or pairs i pair ≡ pair
    → Knows old (take i pairs) → Adds old new pair → Knows new (take (i + 1) pairs)
knows_more old new pairs i pair h at knows adds =
    subst (λ ps. Knows new ps) (sym (take_more pairs i pair h ∙ ap (λ p. take i pairs ++ p ∷ []) at)) (knows_push old new (take i pairs) pair knows adds)
