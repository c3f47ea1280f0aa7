use Rattle.std.specs.Prelude.{ℕ, ◌<◌}

-- a formula of linear temporal logic over numbered signals
pub data Tree : Type 0 where
  truth : Tree
  falsity : Tree
  signal : ℕ → Tree
  negation : Tree → Tree
  next_time : Tree → Tree
  finally : Tree → Tree
  globally : Tree → Tree
  conjunction : Tree → Tree → Tree
  disjunction : Tree → Tree → Tree
  implication : Tree → Tree → Tree
  equivalence : Tree → Tree → Tree
  until : Tree → Tree → Tree
  release : Tree → Tree → Tree
  weak_until : Tree → Tree → Tree

-- each signal of the formula is below n
abbrev pub SignalsBelow : ℕ → Tree → Type 0
SignalsBelow n truth = Unit {0}
SignalsBelow n falsity = Unit {0}
SignalsBelow n (signal s) = s < n
SignalsBelow n (negation a) = SignalsBelow n a
SignalsBelow n (next_time a) = SignalsBelow n a
SignalsBelow n (finally a) = SignalsBelow n a
SignalsBelow n (globally a) = SignalsBelow n a
SignalsBelow n (conjunction a b) = SignalsBelow n a × SignalsBelow n b
SignalsBelow n (disjunction a b) = SignalsBelow n a × SignalsBelow n b
SignalsBelow n (implication a b) = SignalsBelow n a × SignalsBelow n b
SignalsBelow n (equivalence a b) = SignalsBelow n a × SignalsBelow n b
SignalsBelow n (until a b) = SignalsBelow n a × SignalsBelow n b
SignalsBelow n (release a b) = SignalsBelow n a × SignalsBelow n b
SignalsBelow n (weak_until a b) = SignalsBelow n a × SignalsBelow n b
