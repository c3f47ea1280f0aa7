use Rattle.std.proofs.Common.{subst}
use Rattle.letters_and_lassos.specs.declared.kinds.Side.TheVariants.{System}
use Rattle.machine_model.specs.Automaton.{AutomatonModel}
use Rattle.annot_check.specs.Valid.{IsValidPairList}
use Rattle.aiger_text.specs.CircuitFile.{File}
use Rattle.document_check.specs.Shown.{facts_of}
use Rattle.verify_answer.specs.Reply.{IsShownBy}
use Rattle.verify_answer.proofs.listed.pairs_line.Goals as goal

pub returns-in-Ok : goal.returns-in-Ok
returns-in-Ok c =
    subst (λ (f : File). IsShownBy (facts_of c.args.facts) f c.args.list.now) c.file.view_is (record {
      circuit = c.circuit_is_kept.ensures;
      valid = subst (λ (a : AutomatonModel). IsValidPairList System c.file.inside.circuit c.args.facts.system.now.kind a c.args.list.now.pairs) c.deref.ensures c.in-Ok.ensures.valid;
      satisfies = λ means accepts. c.valid_lists_satisfy.ensures System _ means _ c.args.list.now.pairs accepts
          (subst (λ (a : AutomatonModel). IsValidPairList System c.file.inside.circuit c.args.facts.system.now.kind a c.args.list.now.pairs) c.deref.ensures c.in-Ok.ensures.valid);
      runs = c.runs_on_every_input.ensures System;
    })
