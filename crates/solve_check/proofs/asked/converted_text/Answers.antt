use Rattle.std.proofs.Common.{◌≡◌, true, false, rules}
use Rattle.solve_check.specs.Asked.{faulty, otherwise}
use Rattle.solve_check.specs.Given.{is_taken_so}
use Rattle.solve_check.proofs.asked.converted_text.Goals as goal

pub returns-else-is_taken_so-clause-found : goal.returns-else-is_taken_so-clause-found
returns-else-is_taken_so-clause-found c =
    let no : is_taken_so c.in-Ok.found c.args.kind true ≡ false = search rules in
    otherwise c.in-Ok.found c.in-Ok.ensures.text no

pub returns-in-Err-At-clause-found : goal.returns-in-Err-At-clause-found
returns-in-Err-At-clause-found c =
    faulty c.in-Err-At.field-0-0 c.in-Err-At.field-0-1 (c.solve_text.ensures.fault c.in-Err-At.field-0-0 c.in-Err-At.field-0-1 (search rules))
