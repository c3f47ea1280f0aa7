-- A text that is being read: the bytes that were taken, and those that are left, both in order.
-- This project's own.
use Rattle.std.specs.Prelude.{ℕ, List, ◌++◌, take, drop}

pub record Reading : Type 0 where
  pub taken : List ℕ
  pub left : List ℕ

-- the next n bytes are taken, or all that are left if there are fewer
abbrev pub moved : Reading → ℕ → Reading
moved r n = record { taken = r.taken ++ take n r.left; left = drop n r.left }
