use Rattle.std.proofs.Common.{rules, find, ◌∙◌}
use Rattle.tlsf_values.specs.Names.{same_name}
use Rattle.tlsf_values.specs.NamesSeen.{names_seen}
use Rattle.tlsf_values.proofs.ScopeLemmas.{known_found, unbound}
use Rattle.tlsf_values.proofs.names.Names.look_up.Goals as goal

pub returns-in-Some : goal.returns-in-Some
returns-in-Some c =
    known_found (find (λ b. same_name b.name c.args.name.now) c.args.bound.now) c.in_ok-clone.field-0 ((names_seen c.args.self.now).means c.args.name.now) (search rules)

pub returns : goal.returns
returns c =
    c.declared.ensures ∙ unbound (find (λ b. same_name b.name c.args.name.now) c.args.bound.now) ((names_seen c.args.self.now).means c.args.name.now) (search rules)
