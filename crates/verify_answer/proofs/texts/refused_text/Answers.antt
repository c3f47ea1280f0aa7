use Rattle.std.proofs.Common.{subst, sym}
use Rattle.std.proofs.lemmas.Result.{IfOk-weaker}
use Rattle.letters_and_lassos.specs.declared.kinds.Side.{Side}
use Rattle.verify_answer.specs.Reply.{IsRefusedAnyway, IsRefusedFor}
use Rattle.verify_answer.proofs.Tested.{environment_refused, system_refused}
use Rattle.verify_answer.proofs.texts.refused_text.Goals as goal

pub returns-in-System : goal.returns-in-System
returns-in-System c = IfOk-weaker c.first_refusal.result (IsRefusedAnyway c.args.text.now c.args.given) (IsRefusedFor c.args.side c.args.text.now c.args.given)
    (λ r is. subst (λ (s : Side). IsRefusedFor s c.args.text.now c.args.given r) (sym c.in-System.is) (system_refused c.args.text.now c.args.given r is)) c.first_refusal.ensures

pub returns-in-Environment : goal.returns-in-Environment
returns-in-Environment c = IfOk-weaker c.own_refusal.result _ (IsRefusedFor c.args.side c.args.text.now c.args.given)
    (λ r is. subst (λ (s : Side). IsRefusedFor s c.args.text.now c.args.given r) (sym c.in-Environment.is) (environment_refused c.args.text.now c.args.given r is)) c.own_refusal.ensures
