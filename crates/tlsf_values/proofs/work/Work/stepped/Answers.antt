use Rattle.std.proofs.Common.{rules}
use Rattle.tlsf_values.specs.declared.value.Value.TheVariants.{Set}
use Rattle.tlsf_values.proofs.StepLemmas.{stepped_set}
use Rattle.tlsf_values.proofs.work.Work.stepped.Goals as goal

pub returns-clause-value : goal.returns-clause-value
returns-clause-value c =
    stepped_set c.args.place c.args.first c.args.second c.args.last c.args.self.now c.count.new.self (Set c.in_ok-made.field-0) c.in_ok-numbers.numbers.items (search rules) (search rules) (search rules) (search rules)
