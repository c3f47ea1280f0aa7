use Rattle.std.proofs.Common.{◌≡◌, ℕ, ◌*◌, ◌%◌, ◌^◌, ◌<◌, Bool, true, false, Some, refl, sym, ap, subst, arith}
use Rattle.std.specs.Prelude.{bit_or}
use Rattle.std.proofs.lemmas.Bool.{false≢true}
use Rattle.std.proofs.Math.Pow.{pow-lt}
use Rattle.letters_and_lassos.specs.Signals.{has, AreApart}
use Rattle.ltl_formula.specs.declared.nodes.TheConstants.{MAX_SIGNALS}
use Rattle.letters_and_lassos.specs.declared.cubes.Cube.{Cube}
use Rattle.obligation_sets.specs.Apart.{apart_must, apart_not}
use Rattle.obligation_sets.specs.Cubes.{wanting, wanting_at, forbidding, forbidding_at}

apart_unique : (m n : ℕ) (h g : AreApart m n) → h ≡ g
apart_unique m n h g = λ i k a b. let same : h k a b ≡ g k a b = absurd (h k a b) in same i

cube_of : (m n : ℕ) → AreApart m n → Cube
cube_of m n h = record { must = m; not = n; apart = h }

same_parts : (m n : ℕ) (h : AreApart m n) (m' n' : ℕ) → m ≡ m' → n ≡ n' → (g : AreApart m' n') → cube_of m n h ≡ cube_of m' n' g
same_parts m n h m' n' p q =
    subst (λ (x : ℕ). (g : AreApart x n') → cube_of m n h ≡ cube_of x n' g) p
    (subst (λ (y : ℕ). (g : AreApart m y) → cube_of m n h ≡ cube_of m y g) q
    (λ g. ap (cube_of m n) (apart_unique m n h g)))

-- cubes with the same signals are the same
pub same_cube : (a b : Cube) → a.must ≡ b.must → a.not ≡ b.not → a ≡ b
unfolding cube_of
same_cube a b p q = same_parts a.must a.not a.apart b.must b.not p q b.apart

wanting_at_is : (cube : Cube) (k : ℕ) (b : Bool) (e : has cube.not k ≡ b) → b ≡ false → (c : Cube) → c.must ≡ bit_or cube.must (2 ^ k) → c.not ≡ cube.not → Some c ≡ wanting_at cube k b e
wanting_at_is cube k true e lacks c m n = absurd (false≢true (sym lacks))
wanting_at_is cube k false e lacks c m n = ap Some (same_cube c _ m n)

pub wanting_is : (cube : Cube) (k : ℕ) → has cube.not k ≡ false → (c : Cube) → c.must ≡ bit_or cube.must (2 ^ k) → c.not ≡ cube.not → Some c ≡ wanting cube k
wanting_is cube k lacks c m n = wanting_at_is cube k (has cube.not k) refl lacks c m n

forbidding_at_is : (cube : Cube) (k : ℕ) (b : Bool) (e : has cube.must k ≡ b) → b ≡ false → (c : Cube) → c.must ≡ cube.must → c.not ≡ bit_or cube.not (2 ^ k) → Some c ≡ forbidding_at cube k b e
forbidding_at_is cube k true e lacks c m n = absurd (false≢true (sym lacks))
forbidding_at_is cube k false e lacks c m n = ap Some (same_cube c _ m n)

pub forbidding_is : (cube : Cube) (k : ℕ) → has cube.must k ≡ false → (c : Cube) → c.must ≡ cube.must → c.not ≡ bit_or cube.not (2 ^ k) → Some c ≡ forbidding cube k
forbidding_is cube k lacks c m n = forbidding_at_is cube k (has cube.must k) refl lacks c m n

-- a signal below 64 is a bit of a letter
one_shifted : (k : ℕ) → k < 64 → (1 * 2 ^ k) % 18446744073709551616 ≡ 2 ^ k
one_shifted k small =
    let below : 2 ^ k < 2 ^ 64 = pow-lt small in
    omega arith

below_sixty_four : (k : ℕ) → k < MAX_SIGNALS → k < 64
below_sixty_four k small = omega arith

pub added_bit : (s k : ℕ) → k < MAX_SIGNALS → bit_or s ((1 * 2 ^ k) % 18446744073709551616) ≡ bit_or s (2 ^ k)
added_bit s k small = ap (bit_or s) (one_shifted k (below_sixty_four k small))

pub apart_must_at : (cube : Cube) (k : ℕ) → has cube.not k ≡ false → (m : ℕ) → m ≡ bit_or cube.must (2 ^ k) → AreApart m cube.not
apart_must_at cube k lacks m e = subst (λ (n : ℕ). AreApart n cube.not) (sym e) (apart_must cube k lacks)

pub apart_not_at : (cube : Cube) (k : ℕ) → has cube.must k ≡ false → (m : ℕ) → m ≡ bit_or cube.not (2 ^ k) → AreApart cube.must m
apart_not_at cube k lacks m e = subst (λ (n : ℕ). AreApart cube.must n) (sym e) (apart_not cube k lacks)
