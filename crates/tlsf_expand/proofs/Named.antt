-- Names: what a name stands for is alike in values and in senses.
use Rattle.std.proofs.Common.{ℕ, zero, suc, ◌+◌, ◌<◌, ◌≤◌, Bool, true, false, List, [], ◌∷◌, ◌++◌, Some, arith}
use Rattle.std.specs.Prelude.{find, if◌then◌else◌, slice_index_or}
use Rattle.letters_and_lassos.specs.Word.{Word}
use Rattle.ltl_formula.specs.declared.nodes.Node.{Node}
use Rattle.tlsf_syntax.specs.Tree.{Tree, Trees, no_trees, tree, Named, Body, plain, Definition, parameter, function, enumeration, Member}
use Rattle.tlsf_values.specs.declared.value.Value.{Value}
use Rattle.tlsf_values.specs.declared.value.Value.TheVariants.{Bus, EnumValue}
use Rattle.tlsf_values.specs.Names.{Names, BusRange, Binding, Meaning, bus_at, known, a_signal, a_definition, an_enumeration, undeclared, same_name, look_up, known_or, also, with_member, with_members, with_meaning, with_definition, with_definitions, with_signal, with_bus, without_names}
use Rattle.tlsf_expand.specs.Senses.{Sense}
use Rattle.tlsf_expand.specs.WrittenTruth.{BoundSense, Referent, is_bound, is_declared, referent}
use Rattle.tlsf_expand.proofs.Alike.{Alike, AlikeBindings, alike_none, alike_more}

-- what declarations say of a name: no other value than a bus or a member, and no signal from this number on
pub data PlainMeaning (top : ℕ) : Meaning → Type 0 where
  plain_bus : (k : ℕ) → PlainMeaning top (known (Bus k))
  plain_member : (k : ℕ) → PlainMeaning top (known (EnumValue k))
  plain_signal : (k : ℕ) → k < top → PlainMeaning top (a_signal k)
  plain_definition : (words : List Named) (body : Body) → PlainMeaning top (a_definition words body)
  plain_enumeration : PlainMeaning top an_enumeration
  plain_undeclared : PlainMeaning top undeclared

abbrev pub FitsBelow : ℕ → BusRange → Type 0
FitsBelow top bus = bus.first + bus.width ≤ top

pub record HasPlainNames (top : ℕ) (names : Names) : Type 0 where
  pub plain_names : (name : List ℕ) → PlainMeaning top (names.means name)
  pub buses_below : (k : ℕ) → FitsBelow top (bus_at names k)

pub data AlikeMeaning (top : ℕ) (w : Word) (nodes : List Node) : Meaning → Referent → Type 0 where
  alike_bound : (v : Value) (s : Sense) → Alike w nodes v s → AlikeMeaning top w nodes (known v) (is_bound s)
  alike_declared : (m : Meaning) → PlainMeaning top m → AlikeMeaning top w nodes m (is_declared m)

-- several values, of as many expressions
pub data AlikeEach (w : Word) (nodes : List Node) : Trees → List Value → List Sense → Type 0 where
  each_none : AlikeEach w nodes no_trees [] []
  each_more : (t : Tree) (ts : Trees) (v : Value) (s : Sense) (vs : List Value) (ss : List Sense) → Alike w nodes v s → AlikeEach w nodes ts vs ss
      → AlikeEach w nodes (tree t ts) (v ∷ vs) (s ∷ ss)

module _ {top : ℕ} (w : Word) where
  pub look_alike : (nodes : List Node) (names : Names) → HasPlainNames top names → (bs : List Binding) (ss : List BoundSense) → AlikeBindings w nodes bs ss → (name : List ℕ)
      → AlikeMeaning top w nodes (look_up names bs name) (referent names ss name)
  look_alike nodes names has _ _ alike_none name = alike_declared (names.means name) (has.plain_names name)
  look_alike nodes names has _ _ (alike_more word v s bs ss h more) name = by (same_name word name) (look_alike nodes names has bs ss more name)
    where
      by : (b : Bool) → AlikeMeaning top w nodes (look_up names bs name) (referent names ss name)
          → AlikeMeaning top w nodes (known_or (if b then Some (let x : Binding = record { name = word; value = v } in x) else find (λ c. same_name c.name name) bs) (names.means name)) (if b then is_bound s else referent names ss name)
      by true rest = alike_bound v s h
      by false rest = rest

-- ---- more signals

plain-more : {m n : ℕ} {x : Meaning} → m ≤ n → PlainMeaning m x → PlainMeaning n x
plain-more le (plain_bus k) = plain_bus k
plain-more le (plain_member k) = plain_member k
plain-more le (plain_signal k small) = plain_signal k (omega arith)
plain-more le (plain_definition words body) = plain_definition words body
plain-more le plain_enumeration = plain_enumeration
plain-more le plain_undeclared = plain_undeclared

pub names-more : (m n : ℕ) (names : Names) → m ≤ n → HasPlainNames m names → HasPlainNames n names
names-more m n names le has = record {
  plain_names = λ name. plain-more le (has.plain_names name);
  buses_below = λ k. let small : (bus_at names k).first + (bus_at names k).width ≤ m = has.buses_below k in omega arith;
}

-- ---- what declarations add

module _ {top : ℕ} where
  plain_also : (means : List ℕ → Meaning) (name : List ℕ) (m : Meaning) → ((q : List ℕ) → PlainMeaning top (means q)) → PlainMeaning top m → (q : List ℕ) → PlainMeaning top (also means name m q)
  plain_also means name m before h q = by (same_name name q)
    where
      by : (b : Bool) → PlainMeaning top (if b then m else means q)
      by true = h
      by false = before q

  plain_with_meaning : (names : Names) (name : List ℕ) (m : Meaning) → PlainMeaning top m → HasPlainNames top names → HasPlainNames top (with_meaning names name m)
  plain_with_meaning names name m h has = record { plain_names = plain_also names.means name m has.plain_names h; buses_below = has.buses_below }

  pub plain_with_signal : (names : Names) (name : List ℕ) (k : ℕ) → k < top → HasPlainNames top names → HasPlainNames top (with_signal names name k)
  plain_with_signal names name k small has = plain_with_meaning names name (a_signal k) (plain_signal k small) has

  bus_pushed : (buses : List BusRange) (last none : BusRange) → ((k : ℕ) → FitsBelow top (slice_index_or buses k none)) → FitsBelow top last → (k : ℕ) → FitsBelow top (slice_index_or (buses ++ last ∷ []) k none)
  bus_pushed [] last none each fit zero = fit
  bus_pushed [] last none each fit (suc k) = each k
  bus_pushed (bus ∷ buses) last none each fit zero = each 0
  bus_pushed (bus ∷ buses) last none each fit (suc k) = bus_pushed buses last none (λ j. each (suc j)) fit k

  pub plain_with_bus : (names : Names) (name : List ℕ) (first width : ℕ) → first + width ≤ top → HasPlainNames top names → HasPlainNames top (with_bus names name first width)
  plain_with_bus names name first width fit has = record {
    plain_names = plain_also names.means name _ has.plain_names (plain_bus _);
    buses_below = bus_pushed names.buses _ _ has.buses_below fit;
  }

  plain_with_members : (names : Names) (ms : List Member) → HasPlainNames top names → HasPlainNames top (with_members names ms)
  plain_with_members names [] has = has
  plain_with_members names (m ∷ ms) has =
      plain_with_members (with_member names m) ms (record { plain_names = plain_also names.means m.word.name _ has.plain_names (plain_member _); buses_below = has.buses_below })

  plain_with_definition : (names : Names) (d : Definition) → HasPlainNames top names → HasPlainNames top (with_definition names d)
  plain_with_definition names (parameter word t) has = plain_with_meaning names word.name _ (plain_definition [] (plain t)) has
  plain_with_definition names (function word arguments body) has = plain_with_meaning names word.name _ (plain_definition arguments body) has
  plain_with_definition names (enumeration word ms) has = plain_with_members _ ms (plain_with_meaning names word.name _ plain_enumeration has)

  pub plain_with_definitions : (names : Names) (ds : List Definition) → HasPlainNames top names → HasPlainNames top (with_definitions names ds)
  plain_with_definitions names [] has = has
  plain_with_definitions names (d ∷ ds) has = plain_with_definitions (with_definition names d) ds (plain_with_definition names d has)

pub plain_without_names : HasPlainNames 0 without_names
plain_without_names = record { plain_names = λ q. plain_undeclared; buses_below = λ k. (let none : 0 + 0 ≤ 0 = omega arith in none) }
