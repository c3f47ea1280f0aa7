use Rattle.synth_engine.proofs.WorkerLemmas.{seats_back, verdicts_of}
use Rattle.synth_engine.proofs.workers.Race.turn.Goals as goal

pub returns-in-System-clause-crew : goal.returns-in-System-clause-crew
returns-in-System-clause-crew g c = record {
  system = seats_back c.args.crew.now.number c.args.self.now.sizes.now.system.items c.deref.result.now c.args.crew.now.system c.deref_mut.result.now c.turn_on.new.seats c.deref.ensures.value c.deref_mut.ensures.value c.requires.crew.system c.turn_on.ensures.exchanges (c.turn_on.ensures.numbers c.args.crew.now.number);
  environment = c.requires.crew.environment;
}

pub returns-in-System-clause-verdict : goal.returns-in-System-clause-verdict
returns-in-System-clause-verdict g c =
    verdicts_of g.P.ProblemNames.named c.args.claim _ c.args.self.now.sizes.now.system.items c.deref.result.now c.turn_on.result c.deref.ensures.value c.requires.sizes.0 c.requires.claim c.in-System.is c.turn_on.ensures.verdict

pub returns-in-Environment-clause-crew : goal.returns-in-Environment-clause-crew
returns-in-Environment-clause-crew g c = record {
  environment = seats_back c.args.crew.now.number c.args.self.now.sizes.now.environment.items c.deref-in-Environment.result.now c.args.crew.now.environment c.deref_mut-in-Environment.result.now c.turn_on-in-Environment.new.seats c.deref-in-Environment.ensures.value c.deref_mut-in-Environment.ensures.value c.requires.crew.environment c.turn_on-in-Environment.ensures.exchanges (c.turn_on-in-Environment.ensures.numbers c.args.crew.now.number);
  system = c.requires.crew.system;
}

pub returns-in-Environment-clause-verdict : goal.returns-in-Environment-clause-verdict
returns-in-Environment-clause-verdict g c =
    verdicts_of g.P.ProblemNames.named c.args.claim _ c.args.self.now.sizes.now.environment.items c.deref-in-Environment.result.now c.turn_on-in-Environment.result c.deref-in-Environment.ensures.value c.requires.sizes.1 c.requires.claim c.in-Environment.is c.turn_on-in-Environment.ensures.verdict
