use Rattle.std.proofs.Common.{◌≡◌, Some, None, rules}
use Rattle.circuit_check.specs.FirstBad.{comment_of}
use Rattle.circuit_check.proofs.Found.{names_nowhere, names_there}
use Rattle.circuit_check.proofs.forms.file_names.Goals as goal

pub returns-in-Some : goal.returns-in-Some
returns-in-Some c =
    let here : comment_of c.args.file.now c.args.bytes.now ≡ Some c.in-Some.comment.now = search rules in
    names_there c.files_state_one_thing.ensures c.args.bytes.now c.args.file.now c.requires c.in-Some.comment.now c.comment_names.result here c.comment_names.ensures

pub returns-in-None : goal.returns-in-None
returns-in-None c =
    let none : comment_of c.args.file.now c.args.bytes.now ≡ None = search rules in
    names_nowhere c.files_state_one_thing.ensures c.args.bytes.now c.args.file.now c.requires none
