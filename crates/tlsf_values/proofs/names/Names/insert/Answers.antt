use Rattle.std.proofs.Common.{rules, ap}
use Rattle.tlsf_values.specs.NamesSeen.{names_over}
use Rattle.tlsf_values.proofs.NamesLemmas.{means_more}
use Rattle.tlsf_values.proofs.names.Names.insert.Goals as goal

pub returns : goal.returns
returns c =
    ap (λ means. names_over means c.args.self.now.buses.items c.args.self.now.members.items) (means_more c.args.self.now.entries.entries c.insert.new.self.entries c.args.name.now c.args.entry (search rules))
