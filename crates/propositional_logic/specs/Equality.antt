-- `literal_eq` and `clause_eq` decide equality.
use Rattle.std.proofs.Common.{◌≡◌, Bool, true, false, List, ◌&&◌, refl, sym, ap, subst, true≢false}
use Rattle.std.specs.Bool.{Decides}
use Rattle.std.specs.Cmp.{IsEquivalence, IsPartialEquivalence, partial_equiv_from_equiv, both_ways, first_so, second_so}
use Rattle.std.specs.Cmp.Lexicographic.{pointwise_decides}
use Rattle.std.specs.Hash as fed
use Rattle.std.specs.Hash.{HashWrites, same_Alike}
use Rattle.std.proofs.lemmas.Bool.Decides.{Decides-eqb}
use Rattle.propositional_logic.specs.Literal.{Literal, sign_eq, literal_eq}
use Rattle.propositional_logic.specs.Codes.{code_of}
use Rattle.propositional_logic.specs.Clause.{clause_eq}

pub Decides-sign_eq : (a b : Bool) → Decides (sign_eq a b) (a ≡ b)
Decides-sign_eq true true = (λ _. refl, λ _. refl)
Decides-sign_eq true false = (λ h. sym h, λ h. sym h)
Decides-sign_eq false true = (λ h. h, λ h. absurd (true≢false (sym h)))
Decides-sign_eq false false = (λ _. refl, λ _. refl)

same : (a b : Literal) → a.var ≡ b.var → a.positive ≡ b.positive → a ≡ b
same a b p q = λ i. record { var = p i; positive = q i }

pub Decides-literal_eq : (a b : Literal) → Decides (literal_eq a b) (a ≡ b)
Decides-literal_eq a b = (
  λ h. same a b ((Decides-eqb a.var b.var).0 (first_so _ _ h)) ((Decides-sign_eq a.positive b.positive).0 (second_so _ _ h)),
  λ e. subst (λ l. literal_eq a l ≡ true) e (own a),
)
  where
    own : (l : Literal) → literal_eq l l ≡ true
    own l = λ i. (Decides-eqb l.var l.var).1 refl i && (Decides-sign_eq l.positive l.positive).1 refl i

-- a test that decides equality is an equivalence
module _ {K : Type 0} (E : K → K → Bool) (d : (x y : K) → Decides (E x y) (x ≡ y)) where
  pub equivalence : IsEquivalence E
  equivalence = record {
    refl = λ x. (d x x).1 refl;
    symm = λ x y. both_ways (E x y) (E y x) (λ h. (d y x).1 (sym ((d x y).0 h))) (λ h. (d x y).1 (sym ((d y x).0 h)));
    congr = λ x y z h. ap (λ k. E k z) ((d x y).0 h);
  }

pub literal_eq-equivalence : IsEquivalence literal_eq
literal_eq-equivalence = equivalence literal_eq Decides-literal_eq

pub literal_eq-partial : IsPartialEquivalence literal_eq
literal_eq-partial = partial_equiv_from_equiv literal_eq-equivalence

-- the write by which a literal is hashed: its number
abbrev pub literal_writes : Literal → HashWrites
literal_writes l = fed.u32 (code_of l)

pub literal_eq-hashed : (x y : Literal) → literal_eq x y ≡ true → literal_writes x ≡ literal_writes y
literal_eq-hashed = (same_Alike literal_writes Decides-literal_eq).fed

pub Decides-clause_eq : (a b : List Literal) → Decides (clause_eq a b) (a ≡ b)
Decides-clause_eq a b = pointwise_decides Decides-literal_eq a b

pub clause_eq-equivalence : IsEquivalence clause_eq
clause_eq-equivalence = equivalence clause_eq Decides-clause_eq

pub clause_eq-partial : IsPartialEquivalence clause_eq
clause_eq-partial = partial_equiv_from_equiv clause_eq-equivalence

-- the writes by which a clause is hashed: the number of its literals, and then each
abbrev pub clause_writes : List Literal → HashWrites
clause_writes c = fed.slice literal_writes c

pub clause_eq-hashed : (x y : List Literal) → clause_eq x y ≡ true → clause_writes x ≡ clause_writes y
clause_eq-hashed = (same_Alike clause_writes Decides-clause_eq).fed
