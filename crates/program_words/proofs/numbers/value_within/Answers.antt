use Rattle.std.proofs.Common.{rules, ◌∙◌}
use Rattle.program_words.proofs.Reading.{value_read}
use Rattle.program_words.proofs.numbers.value_within.Goals as goal

pub returns-clause-value : goal.returns-clause-value
returns-clause-value c =
    c.ok.ensures.value ∙ value_read c.args.digits.now c.args.most c.read_number.result c.requires
    (search rules) (search rules) (search rules) (search rules)
