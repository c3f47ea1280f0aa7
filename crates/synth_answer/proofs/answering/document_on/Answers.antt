use Rattle.std.proofs.Common.{Some}
use Rattle.std.proofs.lemmas.Result.{IfOk-weaker}
use Rattle.tlsf_expand.specs.FlatText.{spec_seen}
use Rattle.program_replies.specs.Statuses.{status_number}
use Rattle.synth_answer.specs.Answer.{IsToldOn}
use Rattle.text_ground.specs.Ground.{ground_with}
use Rattle.synth_answer.specs.Reply.{IsSearchedReply}
use Rattle.synth_answer.proofs.Whole.{told}
use Rattle.synth_answer.proofs.answering.document_on.Goals as goal

pub returns : goal.returns
returns g c = λ truth nodes whole given.
    let x = (spec_seen c.args.spec.now).expanded in
    IfOk-weaker c.searched.result
    (λ r. IsSearchedReply x c.args.problems c.args.settings r.reply.bytes.items r.reply.status r.verdict)
    (λ r. IsToldOn (ground_with x truth nodes whole) c.args.settings r.reply.bytes.items (status_number r.reply.status) (Some r.verdict))
    (λ r reply. told x truth nodes whole c.args.settings c.args.problems
    (record {
      laws = c.laws_hold.ensures;
      bounds = reply.bounds;
      given = given;
      for_text = c.requires.problems;
      names = c.requires.names;
      automata = reply.automata;
    }) r.reply.bytes.items r.reply.status r.verdict reply)
    c.searched.ensures
