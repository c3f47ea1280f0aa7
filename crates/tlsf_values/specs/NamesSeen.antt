-- The code's names as what each name means.
use Rattle.std.specs.Prelude.{ℕ, [], List, map, Option, None, Some}
use Rattle.std.specs.Map.{lookup}
use Rattle.std.specs.Borrow.{Bor}
use Rattle.tlsf_syntax.specs.Tree as plain
use Rattle.tlsf_syntax.specs.declared.spec.Member.{Member}
use Rattle.tlsf_syntax.specs.Seen.{word_seen, expr_seen, body_seen, member_seen}
use Rattle.tlsf_values.specs.declared.names.Entry.{Entry}
use Rattle.tlsf_values.specs.declared.names.Entry.TheVariants as entry
use Rattle.tlsf_values.specs.declared.names.Names.{Names as CodeNames}
use Rattle.tlsf_values.specs.declared.patterns.BusRange.{BusRange}
use Rattle.tlsf_values.specs.declared.value.Value.TheVariants.{Bus, EnumValue}
use Rattle.tlsf_values.specs.Names.{Meaning, Names, known, a_signal, a_definition, an_enumeration, same_name, undeclared, BusRange as PlainRange}

abbrev pub range_seen : BusRange → PlainRange
range_seen r = record { first = r.first; width = r.width }

abbrev pub entry_seen : Option Entry → Meaning
entry_seen None = undeclared
entry_seen (Some (entry.Signal k)) = a_signal k
entry_seen (Some (entry.Bus k)) = known (Bus k)
entry_seen (Some (entry.Member k)) = known (EnumValue k)
entry_seen (Some entry.Enumeration) = an_enumeration
entry_seen (Some (entry.Parameter e)) = a_definition [] (plain.plain (expr_seen e.now))
entry_seen (Some (entry.Function words body)) = a_definition (map word_seen words.now) (body_seen body.now)

-- what a name means
abbrev pub means_of : List (List ℕ × Entry) → List ℕ → Meaning
means_of entries name = entry_seen (lookup (same_name name) entries)

-- names with these buses and members, whatever each name means
abbrev pub names_over : (List ℕ → Meaning) → List BusRange → List (Bor Member) → Names
names_over means buses members = record { means = means; buses = map range_seen buses; members = map (λ m. member_seen m.now) members }

abbrev pub names_seen : CodeNames → Names
names_seen n = names_over (means_of n.entries.entries) n.buses.items n.members.items
