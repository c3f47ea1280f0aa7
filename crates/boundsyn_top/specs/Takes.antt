-- Which files a command takes (this project's own): first that of its text or its list, and then others, unless the first one is refused.
use Rattle.std.specs.Prelude.{◌≡◌, ℕ, Option, List, [], ◌∷◌, IfSome, Contains}
use Rattle.spec_faults.specs.declared.code.SpecCode.{SpecCode}
use Rattle.input_output.specs.Files.{Files, bytes_under}
use Rattle.program_words.specs.Settings.{Asked, synth, check, expand, expand_solve, lasso, lasso_solve, gen, bench, verify, core, batch, solve}
use Rattle.boundsyn_top.specs.Batch.{IsBadList, IsListed}
use Rattle.boundsyn_top.specs.Faults.{HasFault, IsRefusedAnyway, IsRefusedBySolve}

-- the file that is taken first, where there is one
abbrev pub first_file : Asked → List (List ℕ)
first_file (synth spec wanted kind) = spec ∷ []
first_file (check spec certificate) = spec ∷ []
first_file (expand spec) = spec ∷ []
first_file (expand_solve spec kind nodes) = spec ∷ []
first_file (lasso spec word) = spec ∷ []
first_file (lasso_solve spec word kind) = spec ∷ []
first_file (gen clients) = []
first_file (bench clients workers) = []
first_file (verify side kind spec circuit) = spec ∷ []
first_file (core spec wanted kind) = spec ∷ []
first_file (batch list wanted) = list ∷ []
first_file (solve spec kind refutations) = spec ∷ []

-- the text that the command takes has a fault
pub record IsFaulty (files : Files) (asked : Asked) : Type 0 where
  pub code : SpecCode
  pub place : ℕ
  pub fault : HasFault files asked code place

-- what the first file holds is refused, whatever the others hold: the text has a fault, or the list a bad line
abbrev pub Stops : Files → Asked → Type 0
Stops files (synth spec wanted kind) = IsFaulty files (synth spec wanted kind)
Stops files (check spec certificate) = IsRefusedAnyway (bytes_under files spec)
Stops files (expand spec) = IsFaulty files (expand spec)
Stops files (expand_solve spec kind nodes) = IsFaulty files (expand_solve spec kind nodes)
Stops files (lasso spec word) = IsFaulty files (lasso spec word)
Stops files (lasso_solve spec word kind) = IsFaulty files (lasso_solve spec word kind)
Stops files (gen clients) = ⊥
Stops files (bench clients workers) = ⊥
Stops files (verify side kind spec circuit) = IsRefusedBySolve (bytes_under files spec) kind
Stops files (core spec wanted kind) = IsFaulty files (core spec wanted kind)
Stops files (batch list wanted) = IsBadList (bytes_under files list)
Stops files (solve spec kind refutations) = IsFaulty files (solve spec kind refutations)

-- it isn't, where that is told
pub record GoesOn (told : Option Files) (asked : Asked) : Type 0 where
  pub unless : IfSome told (λ files. Stops files asked → ⊥)

-- A file that is taken behind the first one. Where the shelf doesn't tell its files, a list may name any.
abbrev pub TakesBehind : Option Files → Asked → List ℕ → Type 0
TakesBehind told (synth spec wanted kind) name = ⊥
TakesBehind told (check spec certificate) name = (name ≡ certificate) × GoesOn told (check spec certificate)
TakesBehind told (expand spec) name = ⊥
TakesBehind told (expand_solve spec kind nodes) name = ⊥
TakesBehind told (lasso spec word) name = (name ≡ word) × GoesOn told (lasso spec word)
TakesBehind told (lasso_solve spec word kind) name = (name ≡ word) × GoesOn told (lasso_solve spec word kind)
TakesBehind told (gen clients) name = ⊥
TakesBehind told (bench clients workers) name = ⊥
TakesBehind told (verify side kind spec circuit) name = (name ≡ circuit) × GoesOn told (verify side kind spec circuit)
TakesBehind told (core spec wanted kind) name = ⊥
TakesBehind told (batch list wanted) name = IfSome told (λ files. IsListed (bytes_under files list) name) × GoesOn told (batch list wanted)
TakesBehind told (solve spec kind refutations) name = ⊥

-- the command takes the file of this name
pub data TakesFile (told : Option Files) (asked : Asked) (name : List ℕ) : Type 0 where
  first : Contains (first_file asked) name → TakesFile told asked name
  behind : TakesBehind told asked name → TakesFile told asked name
