use Rattle.std.specs.Prelude.{ℕ, ◌+◌, ◌*◌, Bool, List, [], ◌∷◌, if◌then◌else◌}

-- the number that has these bits, the lowest first
abbrev pub binary_value : List Bool → ℕ
binary_value [] = 0
binary_value (b ∷ bs) = (if b then 1 else 0) + binary_value bs * 2
