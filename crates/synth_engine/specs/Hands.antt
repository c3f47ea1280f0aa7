use Rattle.std.specs.Prelude.{◌≡◌, ℕ, zero, suc, ◌-◌, ⊤, List, [], ◌∷◌, ◌++◌, Vec, map, length}
use Rattle.clause_exchange.specs.SharedLog.{PassView, SharedLog, new_pass}
use Rattle.size_search.specs.Task.{SizeTaskModel}
use Rattle.synth_engine.specs.Tasks.{AreSeats}

-- Seats, by sizes and by workers.

-- the lists that come of putting each element at the end of the list beside it
abbrev pub joined_passes : {Z : Type 0} → List (Vec PassView Z) → List PassView → List (List PassView)
joined_passes [] ss = []
joined_passes (w ∷ ws) [] = []
joined_passes (w ∷ ws) (s ∷ ss) = (w.items ++ s ∷ []) ∷ joined_passes ws ss

-- From each of some lists the last seat was taken: these are the seats, and these the lists that are left.
pub record AreDrawn {Z : Type 0} (lists left : List (Vec PassView Z)) (drawn : List PassView) : Type 0 where
  pub as_many_left : length left ≡ length lists
  pub as_many : length drawn ≡ length lists
  pub joined_are : map (λ v. v.items) lists ≡ joined_passes left drawn

-- the seats 0 to n - 1 of a log at which nothing was done
abbrev pub new_seats : SharedLog → ℕ → List PassView
new_seats log zero = []
new_seats log (suc n) = new_seats log n ++ new_pass log n ∷ []

-- The seats 0 to n - 1 of each task.
abbrev pub AreRacks : {Z : Type 0} → ℕ → List SizeTaskModel → List (Vec PassView Z) → Type 0
AreRacks n [] [] = ⊤
AreRacks n [] (v ∷ vs) = ⊥
AreRacks n (t ∷ ts) [] = ⊥
AreRacks n (t ∷ ts) (v ∷ vs) = (v.items ≡ new_seats t.exchange n) × AreRacks n ts vs

-- The seats of workers at these tasks, by falling numbers from `top` on.
abbrev pub AreCrewsFrom : {Z : Type 0} → ℕ → List SizeTaskModel → List (Vec PassView Z) → Type 0
AreCrewsFrom top tasks [] = ⊤
AreCrewsFrom top tasks (v ∷ vs) = AreSeats top tasks v.items × AreCrewsFrom (top - 1) tasks vs

-- The seats of workers at one log, by falling numbers from `top` on.
abbrev pub AreAtFrom : ℕ → SharedLog → List PassView → Type 0
AreAtFrom top log [] = ⊤
AreAtFrom top log (s ∷ ss) = (s.exchange ≡ log) × (s.number ≡ top) × AreAtFrom (top - 1) log ss
