-- The code's tables of words.
use Rattle.std.proofs.Common.{◌≡◌, ℕ, Bool, true, false, List, [], ◌∷◌, map, Some, refl, cond, Bor}
use Rattle.std.specs.List.{find}
use Rattle.std.specs.Option.{option_map}
use Rattle.std.specs.Str.{bytes_eq}
use Rattle.tlsf_tokens.specs.Words.{symbol_in}
use Rattle.tlsf_tokens.specs.declared.symbol.Symbol.{Symbol}

abbrev Entry : Type 0
Entry = Bor (List ℕ) × Symbol

-- what the first entry of the word means
pub found : (table : List Entry) (w : List ℕ) → option_map (λ entry. entry.1) (find (λ entry. bytes_eq w entry.0.now) table) ≡ symbol_in (map (λ (entry : Entry). (entry.0.now, entry.1)) table) w
found [] w = refl
found (entry ∷ table) w = by (bytes_eq w entry.0.now) (found table w)
  where
    by : (same : Bool) → option_map (λ e. e.1) (find (λ e. bytes_eq w e.0.now) table) ≡ symbol_in (map (λ (e : Entry). (e.0.now, e.1)) table) w
        → option_map (λ e. e.1) (cond same (Some entry) (find (λ e. bytes_eq w e.0.now) table)) ≡ cond same (Some entry.1) (symbol_in (map (λ (e : Entry). (e.0.now, e.1)) table) w)
    by true h = refl
    by false h = h
