use Rattle.std.specs.Prelude.{◌≡◌, ℕ, zero, suc, ◌+◌, ◌<◌, ◌≤◌, ⊤, List, [], ◌∷◌, ◌⊎◌, Option, MatchOption, All, length, nat_eq, if◌then◌else◌}
use Rattle.std.specs.Arc.{arc_value}
use mathlib.Core.Option as maybe
use mathlib.Core.Option.{some}
use lib.ListN.{get_elem?}
use Rattle.atomic_table.specs.Table.{State}
use Rattle.refutation_log.specs.declared.entries.Entry.{Entry}
use Rattle.refutation_log.specs.State.{Log}
use Rattle.refutation_log.specs.Teaches.{entries_by}
use Rattle.clause_exchange.specs.declared.views.Terms.{Terms}
use Rattle.clause_exchange.specs.declared.views.Setup.{Setup}
use Rattle.clause_exchange.specs.declared.views.Part.{Part}
use Rattle.clause_exchange.specs.declared.views.View.{View}
use Rattle.clause_exchange.specs.declared.views.View.TheVariants.{Resting, Begun}
use Rattle.names_and_numbers.specs.Prefix.{IsPrefix}
use Rattle.clause_exchange.specs.SharedLog.{IsLogOn}

-- What contracts see of a setup.
abbrev pub terms_of : Setup → Terms
terms_of s = record { vars = (arc_value s.base).vars; base = (arc_value s.base).clauses.items; limit = s.limit; seats = s.seats }

-- The parts of so many passes from a number on, which have seen and added nothing.
abbrev pub fresh_parts : Terms → ℕ → ℕ → List Part
fresh_parts terms number zero = []
fresh_parts terms number (suc count) = record { terms = terms; number = number; seen = []; own = [] } ∷ fresh_parts terms (suc number) count

-- At the start one seat holds all passes.
abbrev pub dealer : Terms → View
dealer terms = Resting (fresh_parts terms 0 terms.seats)

abbrev pub view_parts : View → List Part
view_parts (Resting parts) = parts
view_parts (Begun log part) = part ∷ []

-- How often a number stands among parts: once at most, over all views.
abbrev pub count_of : ℕ → List Part → ℕ
count_of number [] = 0
count_of number (p ∷ ps) = (if nat_eq p.number number then 1 else 0) + count_of number ps

-- One for a seat that has the log.
abbrev pub in_turn : View → ℕ
in_turn (Resting parts) = 0
in_turn (Begun log part) = 1

-- A number of each element, added up.
abbrev pub total : {A : Type 0} → (A → ℕ) → List A → ℕ
total f [] = 0
total f (x ∷ xs) = f x + total f xs

-- The slot's value has the limit, and under a limit there is room for each entry that it still allows.
pub record HasRoom (limit : Option ℕ) (value : Log) : Type 0 where
  pub limit_is : value.limit ≡ limit
  pub room : MatchOption limit ⊤ (λ most. (0 < value.spare) × (most < length value.entries + value.spare))

-- What a part says of the log: the pass is one of these terms, has seen a prefix, and its own entries are those of its number.
pub record IsPartOf (terms : Terms) (log : List Entry) (part : Part) : Type 0 where
  pub terms_are : part.terms ≡ terms
  pub number_below : part.number < terms.seats
  pub seen : IsPrefix part.seen log
  pub own : part.own ≡ entries_by part.number log

-- What a view says of the log. A turn that has begun did so at the log as it is now.
abbrev pub BeganAt : List Entry → View → Type 0
BeganAt log (Resting parts) = ⊤
BeganAt log (Begun begun part) = begun ≡ log

abbrev pub IsKnown : Terms → List Entry → View → Type 0
IsKnown terms log v = All (IsPartOf terms log) (view_parts v) × BeganAt log v

module _ (words : List ℕ) (homes : List (maybe.Option Log)) (turns : ℕ) where
  -- No seat has the slot: it is at home, and its list is the log.
  pub record IsHome (terms : Terms) (log : List Entry) : Type 0 where
    pub free : words ≡ 0 ∷ []
    pub nobody : turns ≡ 0
    pub value : Log
    pub at_home : homes ≡ some value ∷ []
    pub entries_are : value.entries ≡ log
    pub fits : HasRoom terms.limit value

  -- One seat has the slot.
  pub record IsOut : Type 0 where
    pub taken : words ≡ 1 ∷ []
    pub one : turns ≡ 1
    pub away : homes ≡ maybe.none ∷ []

  abbrev pub IsSlot : Terms → List Entry → Type 0
  IsSlot terms log = IsHome terms log ⊎ IsOut

-- The rule between any two steps: at most one seat has the log, and the word tells whether one has.
pub record Keeps (terms : Terms) (s : State Log View) : Type 0 where
  pub log : List Entry
  pub once : (number : ℕ) → total (λ v. count_of number (view_parts v)) s.views ≤ 1
  pub known : (seat : ℕ) (v : View) → get_elem? s.views seat ≡ some v → IsKnown terms log v
  pub slot : IsSlot s.words s.homes (total in_turn s.views) terms log
  pub is_log : IsLogOn terms log
