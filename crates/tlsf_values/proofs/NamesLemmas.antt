-- What a name, a bus and a member add to the names of a text.
use Rattle.std.proofs.Common.{◌≡◌, ℕ, Bool, true, false, cond, List, [], ◌∷◌, ◌++◌, length, map, Option, Some, refl, ap, sym, ◌∙◌}
use Rattle.std.specs.Prelude.{if◌then◌else◌}
use Rattle.std.specs.Map.{lookup}
use Rattle.std.proofs.lemmas.List.{length-map, map-append}
use Rattle.std.specs.Borrow.{Bor}
use Rattle.tlsf_syntax.specs.declared.spec.Member.{Member}
use Rattle.tlsf_syntax.specs.Seen.{member_seen}
use Rattle.tlsf_values.specs.declared.names.Entry.{Entry}
use Rattle.tlsf_values.specs.declared.patterns.BusRange.{BusRange as CodeRange}
use Rattle.tlsf_values.specs.declared.value.Value.TheVariants.{Bus, EnumValue}
use Rattle.tlsf_values.specs.Names.{Meaning, known, also, same_name, with_meaning, with_bus, with_member}
use Rattle.tlsf_values.specs.NamesSeen.{entry_seen, means_of, names_over, range_seen}

pub means_more : (old new : List (List ℕ × Entry)) (name : List ℕ) (x : Entry) → ((q : List ℕ) → lookup (same_name q) new ≡ cond (same_name name q) (Some x) (lookup (same_name q) old))
    → means_of new ≡ also (means_of old) name (entry_seen (Some x))
means_more old new name x updates i q = (ap entry_seen (updates q) ∙ by (same_name name q) (lookup (same_name q) old)) i
  where
    by : (b : Bool) (o : Option Entry) → entry_seen (cond b (Some x) o) ≡ (if b then entry_seen (Some x) else entry_seen o)
    by true o = refl
    by false o = refl

pub bus_added : (m : List ℕ → Meaning) (buses more : List CodeRange) (members : List (Bor Member)) (bus : CodeRange) (name : List ℕ) (place : ℕ) → place ≡ length buses → more ≡ buses ++ bus ∷ []
    → with_meaning (names_over m more members) name (known (Bus place)) ≡ with_bus (names_over m buses members) name bus.first bus.width
bus_added m buses more members bus name place at is =
    let means = ap (λ k. also m name (known (Bus k))) (at ∙ sym (length-map buses range_seen)) in
    let ranges = ap (map range_seen) is ∙ map-append range_seen buses (bus ∷ []) in
    λ i. record { means = means i; buses = ranges i; members = map (λ x. member_seen x.now) members }

pub member_added : (m : List ℕ → Meaning) (buses : List CodeRange) (members more : List (Bor Member)) (member : Bor Member) (place : ℕ) → place ≡ length members → more ≡ members ++ member ∷ []
    → with_meaning (names_over m buses more) member.now.word.name (known (EnumValue place)) ≡ with_member (names_over m buses members) (member_seen member.now)
member_added m buses members more member place at is =
    let f : Bor Member → _ = λ x. member_seen x.now in
    let means = ap (λ k. also m member.now.word.name (known (EnumValue k))) (at ∙ sym (length-map members f)) in
    let seen = ap (map f) is ∙ map-append f members (member ∷ []) in
    λ i. record { means = means i; buses = map range_seen buses; members = seen i }
