use Rattle.size_board.specs.Board.{BoardModel}
use Rattle.size_board.proofs.Sounds.{holds_found, found_system, found_environment}
use Rattle.size_board.proofs.boards.Board.mark_found.Goals as goal

pub invariant_of-self-in-System : goal.invariant_of-self-in-System
invariant_of-self-in-System g c =
    let b : BoardModel = record { journal = c.self.inside.journal.items; system = c.self.inside.system_machine; environment = c.self.inside.environment_machine } in
    let holds = holds_found g.P.ProblemNames.named b _ c.args.side c.args.machine (found_system b c.args.side c.args.machine c.size-size.result c.record.new.journal.items c.keep_smaller.new.kept c.in-System.is c.size-size.ensures.value c.in_ok-record.ensures.ok c.keep_smaller.ensures) c.requires.accepted c.requires.allowed c.self.invariant.sound c.self.invariant.refuted_allowed in
    record {
      sound = holds.sound;
      of_system = c.record.ensures.system;
      of_environment = c.record.ensures.environment;
      named = c.self.invariant.named;
      refuted_allowed = holds.refuted_allowed;
    }

pub invariant_of-self-in-Environment : goal.invariant_of-self-in-Environment
invariant_of-self-in-Environment g c =
    let b : BoardModel = record { journal = c.self.inside.journal.items; system = c.self.inside.system_machine; environment = c.self.inside.environment_machine } in
    let holds = holds_found g.P.ProblemNames.named b _ c.args.side c.args.machine (found_environment b c.args.side c.args.machine c.size-size.result c.record.new.journal.items c.keep_smaller-in-Environment.new.kept c.in-Environment.is c.size-size.ensures.value c.in_ok-record.ensures.ok c.keep_smaller-in-Environment.ensures) c.requires.accepted c.requires.allowed c.self.invariant.sound c.self.invariant.refuted_allowed in
    record {
      sound = holds.sound;
      of_system = c.record.ensures.system;
      of_environment = c.record.ensures.environment;
      named = c.self.invariant.named;
      refuted_allowed = holds.refuted_allowed;
    }

pub returns-in-System-clause-sound : goal.returns-in-System-clause-sound
returns-in-System-clause-sound g c =
    let b : BoardModel = record { journal = c.self.inside.journal.items; system = c.self.inside.system_machine; environment = c.self.inside.environment_machine } in
    (holds_found g.P.ProblemNames.named b _ c.args.side c.args.machine (found_system b c.args.side c.args.machine c.size-size.result c.record.new.journal.items c.keep_smaller.new.kept c.in-System.is c.size-size.ensures.value c.in_ok-record.ensures.ok c.keep_smaller.ensures) c.requires.accepted c.requires.allowed c.self.invariant.sound c.self.invariant.refuted_allowed).sound

pub returns-in-Environment-clause-sound : goal.returns-in-Environment-clause-sound
returns-in-Environment-clause-sound g c =
    let b : BoardModel = record { journal = c.self.inside.journal.items; system = c.self.inside.system_machine; environment = c.self.inside.environment_machine } in
    (holds_found g.P.ProblemNames.named b _ c.args.side c.args.machine (found_environment b c.args.side c.args.machine c.size-size.result c.record.new.journal.items c.keep_smaller-in-Environment.new.kept c.in-Environment.is c.size-size.ensures.value c.in_ok-record.ensures.ok c.keep_smaller-in-Environment.ensures) c.requires.accepted c.requires.allowed c.self.invariant.sound c.self.invariant.refuted_allowed).sound
