use Rattle.letters_and_lassos.specs.declared.kinds.Side.TheVariants.{System, Environment}
use Rattle.size_board.proofs.Updates.{claims_fit}
use Rattle.size_board.proofs.boards.record.Goals as goal

pub update-requires-clause-claims : goal.update-requires-clause-claims
update-requires-clause-claims c = λ k h. claims_fit c.args.journal.now.items System c.args.system.now _ _ k c.requires.system c.args.journal.now.ok.0 c.args.journal.now.ok.1 c.args.journal.now.small h

pub update-requires-2-clause-claims : goal.update-requires-2-clause-claims
update-requires-2-clause-claims c = λ k h. claims_fit c.args.journal.now.items Environment c.args.environment.now _ _ k c.requires.environment c.args.journal.now.ok.0 c.args.journal.now.ok.1 c.args.journal.now.small h
