-- The earliest of some things with places, where there is one.
use Rattle.std.specs.Prelude.{◌≡◌, ◌≤◌, ℕ, if◌then◌else◌, nat_le, Option, None, Some}

-- something was found that isn't after this place
abbrev pub Reaches : {X : Type 0} → (X → ℕ) → Option X → ℕ → Type 0
Reaches place None q = ⊥
Reaches place (Some x) q = place x ≤ q

-- none of these was found, as there is none, or one at the earliest place
pub record IsEarliestBy {X : Type 0} (place : X → ℕ) (Has : X → Type 0) (found : Option X) : Type 0 where
  pub at : (x : X) → found ≡ Some x → Has x
  pub below : (x : X) → Has x → Reaches place found (place x)

-- the one at the earlier place, at one place the first one
abbrev pub earlier_by : {X : Type 0} → (X → ℕ) → Option X → Option X → Option X
earlier_by place None b = b
earlier_by place (Some x) None = Some x
earlier_by place (Some x) (Some y) = if nat_le (place x) (place y) then Some x else Some y

-- the least of some places
abbrev pub IsLeast : (ℕ → Type 0) → Option ℕ → Type 0
IsLeast At found = IsEarliestBy (λ p. p) At found

abbrev pub least : Option ℕ → Option ℕ → Option ℕ
least a b = earlier_by (λ p. p) a b
