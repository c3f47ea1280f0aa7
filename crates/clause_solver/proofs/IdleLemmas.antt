-- When a literal becomes false, and when a clause is idle.
use Rattle.std.proofs.Common.{◌≡◌, ℕ, ◌+◌, ◌<◌, ◌≤◌, max, min, Bool, true, false, not, cond, List, [], ◌∷◌, ◌++◌, inl, inr, Option, Some, None, take, slice_get, length, length-append, Contains, All, refl, sym, subst, ap, ◌∙◌, true≢false, arith}
use Rattle.std.proofs.lemmas.Bool.{cases_lt}
use Rattle.std.proofs.lemmas.List.{take_more}
use Rattle.std.proofs.lemmas.List.Elements.{All-contains, All-push, All-weaker, Contains-push, Contains-append_left, filter-append}
use Rattle.std.proofs.lemmas.Option.{slice_get_within, get_or_from_slice_get}
use Rattle.std_lemmas.proofs.Lists.{Contains-slice_get}
use Rattle.propositional_logic.specs.Literal.{Literal, negated}
use Rattle.propositional_logic.specs.Partial.{is_false_in, is_falsified, unfalsified, lone_of, unit_of}
use Rattle.propositional_logic.proofs.Members.{filter-none}
use Rattle.propositional_logic.proofs.Tests.{fails, unit_is, Decides-is_true_in, Decides-is_falsified}
use Rattle.refutation_log.specs.declared.entries.Entry.{Entry}
use Rattle.unit_propagate.specs.declared.marks.Mark.{Mark}
use Rattle.unit_propagate.specs.Trail.{IsFree, IsTrail, literals_of}
use Rattle.unit_propagate.proofs.PropagatorLemmas.{same_literal}
use Rattle.unit_propagate.proofs.TrailLemmas.{mark-of, literal-of, one_each, one_sign, free-no_literal, at_place}
use Rattle.clause_solver.specs.Levels.{up_to, IsIdleBelow}
use Rattle.clause_solver.proofs.LevelLemmas.{in_up_to, up_to_has}

-- what is true up to a level is true
pub up_to_true : (level : ℕ) (marks : List Mark) (l : Literal) → Contains (literals_of (up_to level marks)) l → (m : Mark) × Contains marks m × (m.lit ≡ l) × (m.level ≤ level)
up_to_true level marks l h =
    let k = mark-of (up_to level marks) l h in
    let i = in_up_to level marks k.0 k.1 in
    (k.0, i.0, k.2, i.1)

not_false_yet : (level : ℕ) (marks : List Mark) (l : Literal) → ((m : Mark) → Contains marks m → m.lit ≡ negated l → m.level ≤ level → ⊥) → is_false_in (literals_of (up_to level marks)) l ≡ false
not_false_yet level marks l h =
    fails _ (Decides-is_true_in (literals_of (up_to level marks)) (negated l)) (λ c. let k = up_to_true level marks (negated l) c in h k.0 k.1 k.2 k.3)

-- a literal of a variable without a value is false on no level
pub free_not_false : (marks : List Mark) (l : Literal) (level : ℕ) → IsFree marks l.var → is_false_in (literals_of (up_to level marks)) l ≡ false
free_not_false marks l level free = not_false_yet level marks l (λ m c e le. free-no_literal marks (negated l) free (subst (Contains (literals_of marks)) e (literal-of marks m c)))

-- neither is a literal that is true
pub true_not_false : (vars : ℕ) (marks : List Mark) (l : Literal) (level : ℕ) → IsTrail vars marks → Contains (literals_of marks) l → is_false_in (literals_of (up_to level marks)) l ≡ false
true_not_false vars marks l level t true_now = not_false_yet level marks l (λ m c e le. one_sign vars marks l t true_now (subst (Contains (literals_of marks)) e (literal-of marks m c)))

-- any other is false from its variable's level on
pub below_not_false : (vars : ℕ) (marks : List Mark) (l : Literal) (level i : ℕ) (m : Mark) → IsTrail vars marks → slice_get marks i ≡ Some m → m.lit.var ≡ l.var → level < m.level
    → is_false_in (literals_of (up_to level marks)) l ≡ false
below_not_false vars marks l level i m t at e low = not_false_yet level marks l (λ n c f le.
    let same : n ≡ m = one_each vars marks n m t c (Contains-slice_get marks i m at) (ap (λ (k : Literal). k.var) f ∙ sym e) in
    let levels : n.level ≡ m.level = ap (λ (k : Mark). k.level) same in
    omega arith)

-- ---- counting the literals that aren't false

pub open_more : (trues : List Literal) (xs : List Literal) (l : Literal) → length (unfalsified trues (xs ++ l ∷ [])) ≡ length (unfalsified trues xs) + cond (is_false_in trues l) 0 1
open_more trues xs l =
    ap length (filter-append (λ m. not (is_false_in trues m)) xs (l ∷ [])) ∙ length-append (unfalsified trues xs) (unfalsified trues (l ∷ []))
    ∙ ap (λ n. length (unfalsified trues xs) + n) (one (is_false_in trues l))
  where
    one : (b : Bool) → length (cond (not b) (l ∷ []) []) ≡ cond b 0 1
    one true = refl
    one false = refl

lone-many : (trues xs : List Literal) → 1 < length xs → lone_of trues xs ≡ None
lone-many trues [] h = refl
lone-many trues (x ∷ []) h = absurd (omega arith)
lone-many trues (x ∷ y ∷ ys) h = refl

falsified-none : (trues clause : List Literal) → is_falsified trues clause ≡ true → unfalsified trues clause ≡ []
falsified-none trues clause h =
    let all = (Decides-is_falsified trues clause).0 h in
    filter-none (λ l. not (is_false_in trues l)) clause (λ l c. ap not ((Decides-is_true_in trues (negated l)).1 (All-contains (λ l. Contains trues (negated l)) clause l all c)))

-- a clause of which two literals aren't false is idle
pub two_open : (trues clause : List Literal) → 1 < length (unfalsified trues clause) → (is_falsified trues clause ≡ false) × (unit_of trues clause ≡ None)
two_open trues clause h = (by (is_falsified trues clause) refl, lone-many trues (unfalsified trues clause) h)
  where
    by : (b : Bool) → is_falsified trues clause ≡ b → b ≡ false
    by true e = absurd (let n : length (unfalsified trues clause) ≡ 0 = ap length (falsified-none trues clause e) in omega arith)
    by false e = refl

-- Below one level at least one literal isn't false, and below another at least two.
pub record AreOpen (marks : List Mark) (lits : List Literal) (highest second : ℕ) : Type 0 where
  pub one : (level : ℕ) → level < highest → 0 < length (unfalsified (literals_of (up_to level marks)) lits)
  pub two : (level : ℕ) → level < second → 1 < length (unfalsified (literals_of (up_to level marks)) lits)

pub none_open : (marks : List Mark) → AreOpen marks [] 0 0
none_open marks = record { one = λ level h. absurd (omega arith); two = λ level h. absurd (omega arith) }

pub one_more_open : (marks : List Mark) (xs : List Literal) (l : Literal) (highest second level : ℕ) → AreOpen marks xs highest second
    → ((low : ℕ) → low < level → is_false_in (literals_of (up_to low marks)) l ≡ false) → AreOpen marks (xs ++ l ∷ []) (max highest level) (max second (min level highest))
one_more_open marks xs l highest second level a f = record {
  one = λ low h. elim (cases_lt low highest) [
    | inl lt ↦ (let n : 0 < length (unfalsified (literals_of (up_to low marks)) xs) = a.one low lt in let e = more low in omega arith)
    | inr ge ↦ (let e = more_open low (omega arith) in omega arith)
  ];
  two = λ low h. elim (cases_lt low second) [
    | inl lt ↦ (let n : 1 < length (unfalsified (literals_of (up_to low marks)) xs) = a.two low lt in let e = more low in omega arith)
    | inr ge ↦ (let n : 0 < length (unfalsified (literals_of (up_to low marks)) xs) = a.one low (omega arith) in let e = more_open low (omega arith) in omega arith)
  ];
}
  where
    more : (low : ℕ) → length (unfalsified (literals_of (up_to low marks)) xs) ≤ length (unfalsified (literals_of (up_to low marks)) (xs ++ l ∷ []))
    more low = let e = open_more (literals_of (up_to low marks)) xs l in omega arith

    more_open : (low : ℕ) → low < level → length (unfalsified (literals_of (up_to low marks)) (xs ++ l ∷ [])) ≡ length (unfalsified (literals_of (up_to low marks)) xs) + 1
    more_open low h = open_more (literals_of (up_to low marks)) xs l ∙ ap (λ b. length (unfalsified (literals_of (up_to low marks)) xs) + cond b 0 1) (f low h)

pub open_at : (marks : List Mark) (lits : List Literal) (i : ℕ) (l : Literal) (highest second level lower highest' second' : ℕ) → slice_get lits i ≡ Some l → lower ≡ min level highest → highest' ≡ max highest level
    → second' ≡ max second lower → AreOpen marks (take i lits) highest second → ((low : ℕ) → low < level → is_false_in (literals_of (up_to low marks)) l ≡ false) → AreOpen marks (take (i + 1) lits) highest' second'
open_at marks lits i l highest second level lower highest' second' at is_lower is_highest is_second a f =
    let e : take (i + 1) lits ≡ take i lits ++ l ∷ [] = take_more lits i l (slice_get_within lits i l at) ∙ ap (λ x. take i lits ++ x ∷ []) (get_or_from_slice_get lits i l l at) in
    let h : max highest level ≡ highest' = sym is_highest in
    let t : max second (min level highest) ≡ second' = sym (is_second ∙ ap (λ n. max second n) is_lower) in
    subst (λ n. AreOpen marks (take (i + 1) lits) n second') h
    (subst (λ n. AreOpen marks (take (i + 1) lits) (max highest level) n) t
    (subst (λ xs. AreOpen marks xs (max highest level) (max second (min level highest))) (sym e) (one_more_open marks (take i lits) l highest second level a f)))

pub idle_of_open : (marks : List Mark) (clause : List Literal) (highest second : ℕ) → AreOpen marks clause highest second → IsIdleBelow second marks clause
idle_of_open marks clause highest second a level low = two_open (literals_of (up_to level marks)) clause (a.two level low)

pub idle_lower : (marks : List Mark) (clause : List Literal) (a b : ℕ) → b ≤ a → IsIdleBelow a marks clause → IsIdleBelow b marks clause
idle_lower marks clause a b le i level low = i level (omega arith)

-- one entry more is idle below the lower of two levels
pub idle_more : (marks : List Mark) (entries : List Entry) (i : ℕ) (e : Entry) (least level next : ℕ) → slice_get entries i ≡ Some e → next ≡ min least level
    → All (λ x. IsIdleBelow least marks x.clause) (take i entries) → IsIdleBelow level marks e.clause → All (λ x. IsIdleBelow next marks x.clause) (take (i + 1) entries)
idle_more marks entries i e least level next at is all one =
    let more : take (i + 1) entries ≡ take i entries ++ e ∷ [] = take_more entries i e (slice_get_within entries i e at) ∙ ap (λ x. take i entries ++ x ∷ []) (get_or_from_slice_get entries i e e at) in
    subst (All (λ x. IsIdleBelow next marks x.clause)) (sym more)
    (All-push (λ (x : Entry). IsIdleBelow next marks x.clause) (take i entries) e
    (All-weaker (λ (x : Entry). IsIdleBelow least marks x.clause) (λ x. IsIdleBelow next marks x.clause) (λ x h. idle_lower marks x.clause least next (omega arith) h) (take i entries) all)
    (idle_lower marks e.clause level next (omega arith) one))

-- ---- a clause that is true

-- a clause of which a literal is true, and not false, is idle
pub satisfied_idle : (trues clause : List Literal) (l : Literal) → Contains clause l → Contains trues l → is_false_in trues l ≡ false → (is_falsified trues clause ≡ false) × (unit_of trues clause ≡ None)
satisfied_idle trues clause l c t n = (falsified (is_falsified trues clause) refl, unit (unit_of trues clause) refl)
  where
    false_now : Contains trues (negated l) → ⊥
    false_now f = true≢false (sym ((Decides-is_true_in trues (negated l)).1 f) ∙ n)

    falsified : (b : Bool) → is_falsified trues clause ≡ b → b ≡ false
    falsified true e = absurd (false_now (All-contains (λ m. Contains trues (negated m)) clause l ((Decides-is_falsified trues clause).0 e) c))
    falsified false e = refl

    unit : (o : Option Literal) → unit_of trues clause ≡ o → o ≡ None
    unit None e = refl
    unit (Some x) e =
        let u = unit_is trues clause x e in
        absurd (elim (same_literal l x) [ inl s ↦ u.not_true (subst (Contains trues) s t) | inr d ↦ false_now (u.others_false l c d) ])

-- From a level on, up to the greatest number, one of the literals is true.
abbrev pub IsTrueFrom : List Mark → List Literal → ℕ → Type 0
IsTrueFrom marks lits truth = (level : ℕ) → truth ≤ level → level < 4294967295
    → (l : Literal) × Contains lits l × Contains (literals_of (up_to level marks)) l × (is_false_in (literals_of (up_to level marks)) l ≡ false)

pub true_more : (marks : List Mark) (lits : List Literal) (i : ℕ) (l : Literal) (truth from next : ℕ) → slice_get lits i ≡ Some l → next ≡ min truth from → IsTrueFrom marks (take i lits) truth
    → ((level : ℕ) → from ≤ level → level < 4294967295 → Contains (literals_of (up_to level marks)) l × (is_false_in (literals_of (up_to level marks)) l ≡ false))
    → IsTrueFrom marks (take (i + 1) lits) next
true_more marks lits i l truth from next at is t one level low high =
    let more : take (i + 1) lits ≡ take i lits ++ l ∷ [] = take_more lits i l (slice_get_within lits i l at) ∙ ap (λ x. take i lits ++ x ∷ []) (get_or_from_slice_get lits i l l at) in
    elim (cases_lt level truth) [
      | inl lt ↦ (let k = one level (omega arith) high in (l, subst (λ xs. Contains xs l) (sym more) (Contains-push (take i lits) l), k.0, k.1))
      | inr ge ↦ (let k = t level ge high in (k.0, subst (λ xs. Contains xs k.0) (sym more) (Contains-append_left (take i lits) (l ∷ []) k.0 k.1), k.2, k.3))
    ]

-- so it is idle on every level, where it is true from that one on below which it is idle
pub idle_of_true : (marks : List Mark) (clause : List Literal) (highest second truth : ℕ) → AreOpen marks clause highest second → IsTrueFrom marks clause truth → truth ≤ second → IsIdleBelow 4294967295 marks clause
idle_of_true marks clause highest second truth a t le level high = elim (cases_lt level second) [
  | inl lt ↦ two_open (literals_of (up_to level marks)) clause (a.two level lt)
  | inr ge ↦ (let k = t level (omega arith) high in satisfied_idle (literals_of (up_to level marks)) clause k.0 k.1 k.2 k.3)
]

-- from its own level on a literal of the trail is true
pub true_from_level : (vars : ℕ) (marks : List Mark) (l : Literal) (level i : ℕ) (m : Mark) → IsTrail vars marks → slice_get marks i ≡ Some m → m.lit ≡ l → m.level ≤ level
    → Contains (literals_of (up_to level marks)) l × (is_false_in (literals_of (up_to level marks)) l ≡ false)
true_from_level vars marks l level i m t at e le = (
  subst (Contains (literals_of (up_to level marks))) e (literal-of (up_to level marks) m (up_to_has level marks m (Contains-slice_get marks i m at) le)),
  true_not_false vars marks l level t (at_place marks i m l at e),
)
