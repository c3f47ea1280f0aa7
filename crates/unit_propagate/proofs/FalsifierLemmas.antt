-- The last literal that makes one of a clause false.
use Rattle.std.proofs.Common.{◌≡◌, ◌≢◌, ℕ, ◌+◌, ◌<◌, ◌≤◌, List, ◌⊎◌, inl, inr, Option, Some, None, take, get_or, slice_get, length, Contains, All, refl, sym, subst, ap, ◌∙◌}
use Rattle.std.specs.Prelude.{MatchOption, IfSome, IfNone}
use Rattle.std.proofs.lemmas.List.{get_or_default}
use Rattle.std.proofs.lemmas.List.Elements.{All-more}
use Rattle.std_lemmas.proofs.Lists.{Contains-slice_get}
use Rattle.propositional_logic.specs.Literal.{Literal, negated}
use Rattle.unit_propagate.specs.declared.marks.Mark.{Mark}
use Rattle.unit_propagate.specs.Trail.{IsTrail, literals_of}
use Rattle.unit_propagate.specs.Watches.{IsFalsifier}
use Rattle.unit_propagate.proofs.Places.{All-to_end}
use Rattle.unit_propagate.proofs.TrailLemmas.{one_each, mark-of}
use Rattle.unit_propagate.proofs.PropagatorLemmas.{negated-negated}

-- the literal of a variable, where its value is known
pub value_of : (vars : ℕ) (marks : List Mark) (i : ℕ) (m : Mark) (l : Literal) → IsTrail vars marks → slice_get marks i ≡ Some m → m.lit.var ≡ l.var → Contains (literals_of marks) l → m.lit ≡ l
value_of vars marks i m l t at e h =
    let n = mark-of marks l h in
    let same : m ≡ n.0 = one_each vars marks m n.0 t (Contains-slice_get marks i m at) n.1 (e ∙ sym (ap (λ (x : Literal). x.var) n.2)) in
    ap (λ (x : Mark). x.lit) same ∙ n.2

falsifier-of : (marks : List Mark) (lits : List Literal) (except l : Literal) (i : ℕ) (r : Option ℕ) → i < length lits → l ≡ get_or lits i l
    → IfSome r (λ place. (m : Mark) × (slice_get marks place ≡ Some m) × (m.lit ≡ negated l) × (l ≢ except)) → IfSome r (IsFalsifier marks lits except)
falsifier-of marks lits except l i None lt is h = tt
falsifier-of marks lits except l i (Some place) lt is h =
    let e : negated h.0.lit ≡ l = ap negated h.2 ∙ negated-negated l in
    (h.0, h.1, (i, lt, get_or_default lits i (negated h.0.lit) l lt ∙ sym is ∙ sym e), λ q. h.3 (sym e ∙ q))

pub later_step : (marks : List Mark) (lits : List Literal) (except l : Literal) (i : ℕ) (last found next : Option ℕ) → i < length lits → l ≡ get_or lits i l
    → MatchOption last (All (λ x. x ≡ except) (take i lits)) (IsFalsifier marks lits except)
    → IfSome found (λ place. (m : Mark) × (slice_get marks place ≡ Some m) × (m.lit ≡ negated l) × (l ≢ except)) → IfNone found (l ≡ except)
    → (next ≡ last) ⊎ (next ≡ found) → (next ≡ None → (last ≡ None) × (found ≡ None))
    → MatchOption next (All (λ x. x ≡ except) (take (i + 1) lits)) (IsFalsifier marks lits except)
later_step marks lits except l i last found None lt is inv some none either both =
    let b = both refl in
    All-more (λ x. x ≡ except) lits i l lt (subst (λ o. MatchOption o (All (λ x. x ≡ except) (take i lits)) (IsFalsifier marks lits except)) b.0 inv)
    (subst (λ x. x ≡ except) is (subst (λ o. IfNone o (l ≡ except)) b.1 none))
later_step marks lits except l i last found (Some place) lt is inv some none either both = elim either [
  | inl e ↦ subst (λ o. MatchOption o (All (λ x. x ≡ except) (take i lits)) (IsFalsifier marks lits except)) (sym e) inv
  | inr e ↦ subst (λ o. IfSome o (IsFalsifier marks lits except)) (sym e) (falsifier-of marks lits except l i found lt is some)
]

pub last_none : (marks : List Mark) (lits : List Literal) (except : Literal) (i : ℕ) (last : Option ℕ) → length lits ≤ i
    → MatchOption last (All (λ x. x ≡ except) (take i lits)) (IsFalsifier marks lits except) → IfNone last (All (λ x. x ≡ except) lits)
last_none marks lits except i None h inv = All-to_end (λ x. x ≡ except) lits i h inv
last_none marks lits except i (Some place) h inv = tt
