use Rattle.std.proofs.Common.{◌≡◌, ◌≢◌, ℕ, ◌+◌, ◌/◌, ◌<◌, Bool, false, List, length, get_or, set, refl, sym, ◌∙◌, arith, below_more}
use Rattle.std.specs.Prelude.{map}
use Rattle.std.proofs.lemmas.List.{get_or-set_same, get_or-set_other, length-map, get_or-map, ext_get_or}
use Rattle.aiger_text.specs.declared.circuits.Latch.{Latch}
use Rattle.aiger_text.specs.Values.{AreVariables, Puts}

-- the first n literals' variables have their values, and each other variable keeps its own
pub record IsPut (literals : List ℕ) (bits old new : List Bool) (n : ℕ) : Type 0 where
  pub set : (i : ℕ) → i < n → get_or new (get_or literals i 0 / 2) false ≡ get_or bits i false
  pub others : (v : ℕ) → ((i : ℕ) → i < n → get_or literals i 0 / 2 ≢ v) → get_or new v false ≡ get_or old v false

pub put_none : (literals : List ℕ) (bits old : List Bool) → IsPut literals bits old old 0
put_none literals bits old = record { set = λ i h. absurd (omega arith); others = λ v _. refl }

pub put_more : (literals : List ℕ) (bits old new : List Bool) (n : ℕ) → AreVariables (length old) literals → length new ≡ length old → n < length literals
    → IsPut literals bits old new n → IsPut literals bits old (set new (get_or literals n 0 / 2) (get_or bits n false)) (n + 1)
put_more literals bits old new n variables same h put =
    let room : get_or literals n 0 / 2 < length new = rw same (variables.room n h) in
    record {
      set = below_more (λ i. get_or (set new (get_or literals n 0 / 2) (get_or bits n false)) (get_or literals i 0 / 2) false ≡ get_or bits i false) n
          (λ i below. get_or-set_other new (get_or literals n 0 / 2) (get_or literals i 0 / 2) (get_or bits n false) false (variables.apart i n below h) ∙ put.set i below)
          (get_or-set_same new (get_or literals n 0 / 2) (get_or bits n false) false room);
      others = λ v free.
          get_or-set_other new (get_or literals n 0 / 2) v (get_or bits n false) false (λ e. free n (omega arith) (sym e))
          ∙ put.others v (λ i below. free i (omega arith));
    }

-- all of them
pub put_done : (literals : List ℕ) (bits old new : List Bool) (n : ℕ) → length literals ≡ n → IsPut literals bits old new n → Puts literals bits old new
put_done literals bits old new n all put = record { set = λ i h. put.set i (rw all at h); others = λ v free. put.others v (λ i h. free i (rw all h)) }

-- a latch that isn't there
abbrev pub no_latch : Latch
no_latch = record { literal = 0; next = 0; reset = false }

-- one more value is taken
pub take_one_more : (f : ℕ → Bool) (bits : List Bool) (i : ℕ) (b : Bool) → i < length bits → b ≡ f i → ((k : ℕ) → k < i → get_or bits k false ≡ f k)
    → (k : ℕ) → k < i + 1 → get_or (set bits i b) k false ≡ f k
take_one_more f bits i b h e before =
    below_more (λ k. get_or (set bits i b) k false ≡ f k) i
    (λ k below. let apart : k ≢ i = omega arith in get_or-set_other bits i k b false apart ∙ before k below)
    (get_or-set_same bits i b false h ∙ e)

-- all values are taken
pub taken_all : {X : Type 0} (f : X → Bool) (xs : List X) (bits : List Bool) (d : X) → length bits ≡ length xs
    → ((k : ℕ) → k < length xs → get_or bits k false ≡ f (get_or xs k d)) → bits ≡ map f xs
taken_all f xs bits d same each =
    ext_get_or false bits (map f xs) (same ∙ sym (length-map xs f))
    (λ k h. let within : k < length xs = rw same at h in each k within ∙ sym (get_or-map f xs k d false within))
