use Rattle.std.specs.Prelude.{◌≡◌, ℕ, ◌^◌, Bool, true, false, Option, Some, None, bit_or}
use Rattle.std.proofs.Common.{refl}
use Rattle.letters_and_lassos.specs.Signals.{has}
use Rattle.letters_and_lassos.specs.declared.cubes.Cube.{Cube}
use Rattle.obligation_sets.specs.Apart.{apart_must, apart_none, apart_not}

-- the cube that also wants the signal, where it isn't known to be forbidden
abbrev pub wanting_at : (cube : Cube) (k : ℕ) (forbidden : Bool) → has cube.not k ≡ forbidden → Option Cube
wanting_at cube k true e = None
wanting_at cube k false e = Some (record { must = bit_or cube.must (2 ^ k); not = cube.not; apart = apart_must cube k e })

-- the cube that also forbids the signal, where it isn't known to be wanted
abbrev pub forbidding_at : (cube : Cube) (k : ℕ) (wanted : Bool) → has cube.must k ≡ wanted → Option Cube
forbidding_at cube k true e = None
forbidding_at cube k false e = Some (record { must = cube.must; not = bit_or cube.not (2 ^ k); apart = apart_not cube k e })

-- the cube that also wants the signal, or None where it forbids it (this project's own)
abbrev pub wanting : Cube → ℕ → Option Cube
wanting cube k = wanting_at cube k (has cube.not k) refl

-- the cube that also forbids the signal, or None where it wants it (this project's own)
abbrev pub forbidding : Cube → ℕ → Option Cube
forbidding cube k = forbidding_at cube k (has cube.must k) refl

-- the cube that every letter fits
abbrev pub free_cube : Cube
free_cube = record { must = 0; not = 0; apart = apart_none }
