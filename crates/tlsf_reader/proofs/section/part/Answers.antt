use Rattle.tlsf_tokens.specs.declared.symbol.Symbol.TheVariants as symbol
use Rattle.tlsf_reader.specs.Seen.{seen}
use Rattle.tlsf_reader.proofs.Descending.{read_stop, read_go, read_expected, read_unexpected}
use Rattle.tlsf_reader.proofs.Climbing.{read_exit}
use Rattle.tlsf_reader.proofs.SectionDescending.{read_part}
use Rattle.tlsf_reader.proofs.section.part.Goals as goal

pub returns-in_err-inputs-in-Inputs-clause-read : goal.returns-in_err-inputs-in-Inputs-clause-read
returns-in_err-inputs-in-Inputs-clause-read c =
    read_exit _ c.from_residual-in_err-inputs-in-Inputs.ensures.1
    (read_part c.args.ahead.now _ (seen c.in-Some.first) symbol.Inputs c.in-Some.ensures.taken c.in-Inputs.is (read_expected _ c.in_ok-expect-in-Inputs.ensures.next (read_stop _ c.in_err-inputs-in-Inputs.ensures.read)))

pub returns-in_err-expect-in-Inputs-2-clause-read : goal.returns-in_err-expect-in-Inputs-2-clause-read
returns-in_err-expect-in-Inputs-2-clause-read c =
    read_exit _ c.from_residual-in_err-expect-in-Inputs-2.ensures.1
    (read_part c.args.ahead.now _ (seen c.in-Some.first) symbol.Inputs c.in-Some.ensures.taken c.in-Inputs.is
    (read_expected _ c.in_ok-expect-in-Inputs.ensures.next (read_go _ c.in_ok-inputs-in-Inputs.ensures.read (read_unexpected _ c.in_err-expect-in-Inputs-2.ensures.next))))

pub returns-in_err-outputs-in-Outputs-clause-read : goal.returns-in_err-outputs-in-Outputs-clause-read
returns-in_err-outputs-in-Outputs-clause-read c =
    read_exit _ c.from_residual-in_err-outputs-in-Outputs.ensures.1
    (read_part c.args.ahead.now _ (seen c.in-Some.first) symbol.Outputs c.in-Some.ensures.taken c.in-Outputs.is (read_expected _ c.in_ok-expect-in-Outputs.ensures.next (read_stop _ c.in_err-outputs-in-Outputs.ensures.read)))

pub returns-in_err-expect-in-Outputs-2-clause-read : goal.returns-in_err-expect-in-Outputs-2-clause-read
returns-in_err-expect-in-Outputs-2-clause-read c =
    read_exit _ c.from_residual-in_err-expect-in-Outputs-2.ensures.1
    (read_part c.args.ahead.now _ (seen c.in-Some.first) symbol.Outputs c.in-Some.ensures.taken c.in-Outputs.is
    (read_expected _ c.in_ok-expect-in-Outputs.ensures.next (read_go _ c.in_ok-outputs-in-Outputs.ensures.read (read_unexpected _ c.in_err-expect-in-Outputs-2.ensures.next))))

pub returns-in_err-formulas-in-Section-clause-read : goal.returns-in_err-formulas-in-Section-clause-read
returns-in_err-formulas-in-Section-clause-read c =
    read_exit _ c.from_residual-in_err-formulas-in-Section.ensures.1
    (read_part c.args.ahead.now _ (seen c.in-Some.first) (symbol.Section c.in-Section.section) c.in-Some.ensures.taken c.in-Section.is (read_expected _ c.in_ok-expect-in-Section.ensures.next (read_stop _ c.in_err-formulas-in-Section.ensures.read)))

pub returns-in_err-expect-in-Section-2-clause-read : goal.returns-in_err-expect-in-Section-2-clause-read
returns-in_err-expect-in-Section-2-clause-read c =
    read_exit _ c.from_residual-in_err-expect-in-Section-2.ensures.1
    (read_part c.args.ahead.now _ (seen c.in-Some.first) (symbol.Section c.in-Section.section) c.in-Some.ensures.taken c.in-Section.is
    (read_expected _ c.in_ok-expect-in-Section.ensures.next (read_go _ c.in_ok-formulas-in-Section.ensures.read (read_unexpected _ c.in_err-expect-in-Section-2.ensures.next))))
