use Rattle.aiger_text.proofs.FileFacts.{files_state_one_thing}
use Rattle.aiger_text.proofs.laws.files_state_one_thing.Goals as goal

pub returns : goal.returns
returns c = files_state_one_thing
