-- Truth of the written text on a lasso, directly on the written tree: one recursion on the depth that is left, as for values.
-- A call is its body with its arguments bound; an argument that is a formula is bound to its truths at the positions. Linear
-- temporal logic, over this project's profile of TLSF 1.1.
use Rattle.std.specs.Prelude.{ℕ, zero, suc, ◌-◌, Bool, true, false, if◌then◌else◌, List, [], ◌∷◌, map, Option, None, Some, ℤ}
use Rattle.letters_and_lassos.specs.Signals.{has}
use Rattle.letters_and_lassos.specs.Word.{Word, letter_at}
use Rattle.tlsf_syntax.specs.declared.expr.Op.{Op}
use Rattle.tlsf_syntax.specs.Tree.{Tree, Trees, Links, Ranges, Named, number, truth, named, call, index, size_of, paren, set, steps, chain, pair, prefix, count, window, big, no_trees, tree, no_links, link, no_ranges, members, between, Body, plain, guarded, Alternative}
use Rattle.tlsf_values.specs.declared.work.TheConstants.{MOST_DEPTH}
use Rattle.tlsf_values.specs.declared.value.Value.TheVariants.{Bus, EnumValue}
use Rattle.tlsf_values.specs.Sets.{set_of}
use Rattle.tlsf_values.specs.Names.{Names, Meaning, known, a_signal, a_definition, same_name}
use Rattle.tlsf_values.specs.Values.{low_of, high_of, run_of}
use Rattle.tlsf_expand.specs.Senses.{Sense, a_number, a_set, a_bus, a_member, a_truth, a_formula, nothing, true_in, numbers_in, steps_set, bit, width, operated, prefixed, steps_on, windowed, for_members}

pub record BoundSense : Type 0 where
  pub name : List ℕ
  pub sense : Sense

-- what is read at one depth
pub record Reader : Type 0 where
  -- an expression under these bound names
  pub sense : List BoundSense → Tree → Sense
  -- the body of a definition with its arguments bound
  pub body : List BoundSense → Body → Sense

-- ---- names and calls

-- the latest binding stands first, and hides all else
pub data Referent : Type 0 where
  is_bound : Sense → Referent
  is_declared : Meaning → Referent

abbrev pub referent : Names → List BoundSense → List ℕ → Referent
referent names [] name = is_declared (names.means name)
referent names (b ∷ bs) name = if same_name b.name name then is_bound b.sense else referent names bs name

abbrev pub name_sense : Word → Reader → Referent → Sense
name_sense w r (is_bound s) = s
name_sense w r (is_declared (known (Bus k))) = a_bus k
name_sense w r (is_declared (known (EnumValue k))) = a_member k
name_sense w r (is_declared (a_signal k)) = a_formula (λ i. has (letter_at w i).0 k)
name_sense w r (is_declared (a_definition [] body)) = r.body [] body
name_sense w r _ = nothing

abbrev pub senses : Reader → List BoundSense → Trees → List Sense
senses r bound no_trees = []
senses r bound (tree t ts) = r.sense bound t ∷ senses r bound ts

-- the arguments of a call, bound from the first to the last
abbrev pub bind_senses : List Named → List Sense → List BoundSense → List BoundSense
bind_senses [] ss bound = bound
bind_senses (word ∷ words) [] bound = bound
bind_senses (word ∷ words) (s ∷ ss) bound = bind_senses words ss (record { name = word.name; sense = s } ∷ bound)

abbrev pub call_sense : Reader → List BoundSense → Referent → Trees → Sense
call_sense r bound (is_declared (a_definition words body)) ts = r.body (bind_senses words (senses r bound ts) []) body
call_sense r bound _ ts = nothing

-- the guard's truth; `otherwise` is true
abbrev pub guard_sense : Reader → List BoundSense → Option Tree → Sense
guard_sense r bound None = a_truth true
guard_sense r bound (Some t) = r.sense bound t

abbrev pub if_guard : Sense → Sense → Sense → Sense
if_guard (a_truth true) then_sense else_sense = then_sense
if_guard (a_truth false) then_sense else_sense = else_sense
if_guard _ then_sense else_sense = nothing

-- the expression of the first alternative whose guard is true
abbrev pub chosen_sense : Reader → List BoundSense → List Alternative → Sense
chosen_sense r bound [] = nothing
chosen_sense r bound (a ∷ rest) = if_guard (guard_sense r bound a.guard) (r.sense bound a.value) (chosen_sense r bound rest)

abbrev pub body_sense : Reader → List BoundSense → Body → Sense
body_sense r bound (plain t) = r.sense bound t
body_sense r bound (guarded alternatives) = chosen_sense r bound alternatives

-- ---- chains, big operators

-- a chain joins to the left
abbrev pub chain_sense : Word → Names → Reader → List BoundSense → Sense → Links → Sense
chain_sense w names r bound left no_links = left
chain_sense w names r bound left (link o t more) = chain_sense w names r bound (operated w names o left (r.sense bound t)) more

-- the numbers that a range goes over
abbrev pub in_set : Sense → List ℤ
in_set (a_set zs) = zs
in_set _ = []

abbrev pub in_between : Bool → Sense → Bool → Sense → List ℤ
in_between low_strict (a_number x) high_strict (a_number y) = run_of (low_of low_strict x) (high_of high_strict y)
in_between low_strict _ high_strict _ = []

abbrev pub bind_number : Named → ℤ → List BoundSense → List BoundSense
bind_number word z bound = record { name = word.name; sense = a_number z } ∷ bound

-- for each, or some, member of the first range, the next ranges; then the body
abbrev pub big_sense : Reader → Op → List BoundSense → Ranges → Tree → Sense
big_sense r o bound no_ranges t = r.sense bound t
big_sense r o bound (members word s more) t =
    for_members o (map (λ z. big_sense r o (bind_number word z bound) more t) (in_set (r.sense bound s)))
big_sense r o bound (between low low_strict word high_strict high more) t =
    for_members o (map (λ z. big_sense r o (bind_number word z bound) more t) (in_between low_strict (r.sense bound low) high_strict (r.sense bound high)))

-- ---- all forms

abbrev pub form_sense : Word → Names → Reader → List BoundSense → Tree → Sense
form_sense w names r bound (number s (Some z)) = a_number z
form_sense w names r bound (number s None) = nothing
form_sense w names r bound (truth s b) = a_truth b
form_sense w names r bound (named s name) = name_sense w r (referent names bound name)
form_sense w names r bound (call s word ts) = call_sense r bound (referent names bound word.name) ts
form_sense w names r bound (index s word i) = bit w names (name_sense w r (referent names bound word.name)) (r.sense bound i)
form_sense w names r bound (size_of s t) = width names (r.sense bound t)
form_sense w names r bound (paren s t) = r.sense bound t
form_sense w names r bound (set s ts) = a_set (set_of (numbers_in (senses r bound ts)))
form_sense w names r bound (steps s t u v) = steps_set (r.sense bound t) (r.sense bound u) (r.sense bound v)
form_sense w names r bound (chain s t links) = chain_sense w names r bound (r.sense bound t) links
form_sense w names r bound (pair s o t u) = operated w names o (r.sense bound t) (r.sense bound u)
form_sense w names r bound (prefix s o t) = prefixed w o (r.sense bound t)
form_sense w names r bound (count s n t) = steps_on w (r.sense bound n) (r.sense bound t)
form_sense w names r bound (window s o t u p) = windowed w o (r.sense bound t) (r.sense bound u) (r.sense bound p)
form_sense w names r bound (big s o over t) = big_sense r o bound over t

-- the parts of a node stand one deeper, and so does a body's call; the body's root is one deeper than its call
abbrev pub deeper : Word → Names → Reader → Reader
deeper w names r = record { sense = λ bound t. form_sense w names r bound t; body = λ bound b. body_sense r bound b }

-- what is read where so many nodes and calls may still be entered
unfoldable pub reader : Word → Names → ℕ → Reader
reader w names zero = record { sense = λ bound t. nothing; body = λ bound b. nothing }
reader w names (suc left) = deeper w names (reader w names left)

-- what an expression stands for where so many nodes and calls are entered
abbrev pub sense_at : Word → Names → List BoundSense → Tree → ℕ → Sense
sense_at w names bound t depth = (reader w names (MOST_DEPTH - depth)).sense bound t

-- truth of a written formula at a position
abbrev pub true_at : Word → ℕ → Names → List BoundSense → Tree → ℕ → Bool
true_at w i names bound t depth = true_in (sense_at w names bound t depth) i
