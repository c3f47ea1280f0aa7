use Rattle.aiger_text.proofs.FileFacts.{files_have_one_fault}
use Rattle.aiger_text.proofs.laws.files_have_one_fault.Goals as goal

pub returns : goal.returns
returns c = files_have_one_fault
