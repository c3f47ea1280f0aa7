-- What a big operator still goes over, as the list of its members.
use Rattle.std.specs.Prelude.{◌≡◌, Bool, true, false, List, [], ◌∷◌, drop, Option, None, Some, ℤ}
use Rattle.tlsf_values.specs.declared.members.Members.{Members}
use Rattle.tlsf_values.specs.declared.members.Members.TheVariants as members
use Rattle.tlsf_values.specs.declared.members.Listed.{Listed}
use Rattle.tlsf_values.specs.declared.members.Run.{Run}
use Rattle.tlsf_values.specs.Values.{run_of}

abbrev pub listed_seen : Listed → List ℤ
listed_seen l = drop l.place l.numbers.items

abbrev pub unless_ended : Bool → List ℤ → List ℤ
unless_ended true zs = []
unless_ended false zs = zs

abbrev pub run_seen : Run → List ℤ
run_seen r = unless_ended r.ended (run_of r.next r.last)

abbrev pub members_seen : Members → List ℤ
members_seen (members.Listed l) = listed_seen l
members_seen (members.Run r) = run_seen r

-- the first of the members, where there is one, and those after it
abbrev pub IsNext : Option ℤ → List ℤ → List ℤ → Type 0
IsNext None old new = old ≡ []
IsNext (Some z) old new = old ≡ z ∷ new
