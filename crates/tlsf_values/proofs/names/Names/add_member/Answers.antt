use Rattle.std.proofs.Common.{rules, ◌≡◌, subst}
use Rattle.std.specs.Prelude.{OnOk}
use Rattle.tlsf_values.specs.NamesSeen.{means_of, names_seen}
use Rattle.tlsf_values.proofs.NamesLemmas.{member_added}
use Rattle.tlsf_values.proofs.names.Names.add_member.Goals as goal

pub returns : goal.returns
returns c =
    subst (λ names. OnOk c.insert.result (names_seen c.insert.new.self ≡ names))
    (member_added (means_of c.args.self.now.entries.entries) c.args.self.now.buses.items c.args.self.now.members.items c.push.new.self.items c.args.member c.in_ok-place.place (search rules) (search rules))
    c.insert.ensures
