use Rattle.size_board.specs.Board.{BoardModel}
use Rattle.size_board.proofs.Sounds.{holds_told}
use Rattle.size_board.proofs.boards.Board.tell.Goals as goal

pub invariant_of-self-2 : goal.invariant_of-self-2
invariant_of-self-2 g c =
    let b : BoardModel = record { journal = c.self.inside.journal.items; system = c.self.inside.system_machine; environment = c.self.inside.environment_machine } in
    let holds = holds_told g.P.ProblemNames.named b c.args.event c.record.new.journal.items c.in_ok-record.ensures.ok c.requires c.self.invariant.sound c.self.invariant.refuted_allowed in
    record {
      sound = holds.sound;
      of_system = c.record.ensures.system;
      of_environment = c.record.ensures.environment;
      named = c.self.invariant.named;
      refuted_allowed = holds.refuted_allowed;
    }

pub returns-clause-sound : goal.returns-clause-sound
returns-clause-sound g c =
    let b : BoardModel = record { journal = c.self.inside.journal.items; system = c.self.inside.system_machine; environment = c.self.inside.environment_machine } in
    (holds_told g.P.ProblemNames.named b c.args.event c.record.new.journal.items c.in_ok-record.ensures.ok c.requires c.self.invariant.sound c.self.invariant.refuted_allowed).sound
