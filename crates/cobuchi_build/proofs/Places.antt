use Rattle.std.proofs.Common.{ℕ, suc, ◌+◌, ◌*◌, ◌<◌, ◌≤◌, arith}
use Rattle.std.proofs.Math.Nat.{mul-le-mul_right}

-- pairs of a number below m and one below n, as numbers below m * n
pub place_below : (i m n q : ℕ) → i < m → q < n → i * n + q < m * n
place_below i m n q less small =
    let h : suc i ≤ m = omega arith in
    let more : suc i * n ≤ m * n = mul-le-mul_right n h in
    omega arith
