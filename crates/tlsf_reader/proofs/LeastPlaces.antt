-- The earliest of some things with places.
use Rattle.std.proofs.Common.{◌≡◌, ◌<◌, ◌≤◌, ◌⊎◌, ℕ, Bool, true, false, cond, Option, None, Some, nat_le, refl, subst, arith, inl, inr}
use Rattle.std.proofs.lemmas.Bool.{leb-true, leb-false}
use Rattle.tlsf_reader.specs.Least.{IsEarliestBy, earlier_by, IsLeast, Reaches, least}

module _ {X : Type 0} (place : X → ℕ) where
  reaches_left : (a b : Option X) (q : ℕ) → Reaches place a q → Reaches place (earlier_by place a b) q
  reaches_left None b q r = absurd r
  reaches_left (Some x) None q r = r
  reaches_left (Some x) (Some y) q r = by (nat_le (place x) (place y)) refl
    where
      by : (c : Bool) → nat_le (place x) (place y) ≡ c → Reaches place (cond c (Some x) (Some y)) q
      by true e = r
      by false e = let low : place y < place x = leb-false (place x) (place y) e in omega (arith, low, r)

  reaches_right : (a b : Option X) (q : ℕ) → Reaches place b q → Reaches place (earlier_by place a b) q
  reaches_right None b q r = r
  reaches_right (Some x) None q r = absurd r
  reaches_right (Some x) (Some y) q r = by (nat_le (place x) (place y)) refl
    where
      by : (c : Bool) → nat_le (place x) (place y) ≡ c → Reaches place (cond c (Some x) (Some y)) q
      by true e = let low : place x ≤ place y = leb-true (place x) (place y) e in omega (arith, low, r)
      by false e = r

  is_one : (a b : Option X) (x : X) → earlier_by place a b ≡ Some x → (a ≡ Some x) ⊎ (b ≡ Some x)
  is_one None b x e = inr e
  is_one (Some y) None x e = inl e
  is_one (Some y) (Some z) x e = by (nat_le (place y) (place z)) e
    where
      by : (c : Bool) → cond c (Some y) (Some z) ≡ Some x → (◌≡◌ {A = Option X} (Some y) (Some x)) ⊎ (◌≡◌ {A = Option X} (Some z) (Some x))
      by true f = inl f
      by false f = inr f

  -- the earlier of the earliest of two sorts is the earliest of both
  pub earliest_of_both : (P Q R : X → Type 0) (a b : Option X) → IsEarliestBy place P a → IsEarliestBy place Q b → ((x : X) → P x → R x) → ((x : X) → Q x → R x) → ((x : X) → R x → P x ⊎ Q x) → IsEarliestBy place R (earlier_by place a b)
  earliest_of_both P Q R a b h k f g split = record {
    at = λ x e. elim (is_one a b x e) [ inl i ↦ f x (h.at x i) | inr i ↦ g x (k.at x i) ];
    below = λ x r. elim (split x r) [ inl i ↦ reaches_left a b (place x) (h.below x i) | inr i ↦ reaches_right a b (place x) (k.below x i) ];
  }

-- places of two kinds
pub least_of_both : (P Q R : ℕ → Type 0) (a b : Option ℕ) → IsLeast P a → IsLeast Q b → ((p : ℕ) → P p → R p) → ((p : ℕ) → Q p → R p) → ((p : ℕ) → R p → P p ⊎ Q p) → IsLeast R (least a b)
least_of_both = earliest_of_both (λ p. p)

pub least_assoc : (a b c : Option ℕ) → least a (least b c) ≡ least (least a b) c
least_assoc None b c = refl
least_assoc (Some p) None c = refl
least_assoc (Some p) (Some q) None = by (nat_le p q)
  where
    by : (d : Bool) → cond d (Some p) (Some q) ≡ least (cond d (Some p) (Some q)) None
    by true = refl
    by false = refl
least_assoc (Some p) (Some q) (Some r) = by (nat_le p q) refl (nat_le q r) refl (nat_le p r) refl
  where
    by : (d : Bool) → nat_le p q ≡ d → (e : Bool) → nat_le q r ≡ e → (f : Bool) → nat_le p r ≡ f → least (Some p) (cond e (Some q) (Some r)) ≡ least (cond d (Some p) (Some q)) (Some r)
    by true d true e f g = rw (d, g) (by_last f g d e)
      where
        by_last : (f : Bool) → nat_le p r ≡ f → nat_le p q ≡ true → nat_le q r ≡ true → Some p ≡ cond f (Some p) (Some r)
        by_last true g d e = refl
        by_last false g d e = let one : p ≤ q = leb-true p q d in let two : q ≤ r = leb-true q r e in let three : r < p = leb-false p r g in absurd (omega (arith, one, two, three))
    by true d false e f g = refl
    by false d true e f g = rw (d, e) refl
    by false d false e true g = let one : q < p = leb-false p q d in let two : r < q = leb-false q r e in let three : p ≤ r = leb-true p r g in absurd (omega (arith, one, two, three))
    by false d false e false g = rw (g, e) refl

pub none_is_least : (P : ℕ → Type 0) → ((q : ℕ) → ¬ P q) → IsLeast P None
none_is_least P n = record { at = λ p e. absurd cc; below = λ q r. absurd (n q r) }

pub least_none : (a : Option ℕ) → least a None ≡ a
least_none None = refl
least_none (Some p) = refl

-- the least of other places that are the same
pub least_of_same : (P Q : ℕ → Type 0) (a : Option ℕ) → ((p : ℕ) → P p → Q p) → ((p : ℕ) → Q p → P p) → IsLeast P a → IsLeast Q a
least_of_same P Q a f g h = record { at = λ p e. f p (h.at p e); below = λ q r. h.below q (g q r) }

-- one place alone
pub one_place : (P : ℕ → Type 0) (p : ℕ) → P p → ((q : ℕ) → P q → p ≡ q) → IsLeast P (Some p)
one_place P p h same = record { at = λ q e. let s : p ≡ q = cc in subst P s h; below = λ q r. let s : p ≡ q = same q r in omega (arith, s) }
