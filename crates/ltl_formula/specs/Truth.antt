use Rattle.std.specs.Prelude.{ℕ, zero, suc, Bool, true, false, not, ◌&&◌, ◌||◌}
use Rattle.std.specs.Bool.{beq}
use Rattle.letters_and_lassos.specs.Signals.{has}
use Rattle.letters_and_lassos.specs.Word.{Word, lasso_len, next, after, letter_at}
use Rattle.letters_and_lassos.specs.Below.{all_below}
use Rattle.ltl_formula.specs.Tree.{Tree}
use Rattle.ltl_formula.specs.Tree.Tree.{truth, falsity, signal, negation, next_time, finally, globally, conjunction, disjunction, implication, equivalence, until, release, weak_until}

-- the test passes at some number below n
abbrev pub some_below : ℕ → (ℕ → Bool) → Bool
some_below zero test = false
some_below (suc n) test = some_below n test || test n

-- within n steps after position i comes a position where b holds, and a holds at each position from i on before it
abbrev pub until_within : Word → (ℕ → Bool) → (ℕ → Bool) → ℕ → ℕ → Bool
until_within w a b n i = some_below n (λ j. b (after w i j) && all_below j (λ k. a (after w i k)))

-- `a U b` at position i, where a and b are told by their truth at each position: after so many steps as the lasso
-- has positions nothing new comes
abbrev pub until_at : Word → (ℕ → Bool) → (ℕ → Bool) → ℕ → Bool
until_at w a b i = until_within w a b (lasso_len w) i

-- `a R b`: the opposite of `(!a) U (!b)`
abbrev pub release_at : Word → (ℕ → Bool) → (ℕ → Bool) → ℕ → Bool
release_at w a b i = not (until_at w (λ k. not (a k)) (λ k. not (b k)) i)

-- truth of a formula at a position of a lasso (linear temporal logic)
abbrev pub holds : Word → Tree → ℕ → Bool
holds w truth i = true
holds w falsity i = false
holds w (signal s) i = has (letter_at w i).0 s
holds w (negation a) i = not (holds w a i)
holds w (next_time a) i = holds w a (next w i)
holds w (finally a) i = until_at w (λ k. true) (holds w a) i
holds w (globally a) i = release_at w (λ k. false) (holds w a) i
holds w (conjunction a b) i = holds w a i && holds w b i
holds w (disjunction a b) i = holds w a i || holds w b i
holds w (implication a b) i = not (holds w a i) || holds w b i
holds w (equivalence a b) i = beq (holds w a i) (holds w b i)
holds w (until a b) i = until_at w (holds w a) (holds w b) i
holds w (release a b) i = release_at w (holds w a) (holds w b) i
holds w (weak_until a b) i = until_at w (holds w a) (holds w b) i || release_at w (λ k. false) (holds w a) i
