use Rattle.aiger_text.proofs.Lines.{line_done}
use Rattle.aiger_text.proofs.write.push_line.Goals as goal

pub returns : goal.returns
returns c =
    line_done c.args.text.now.items c.loop-number.text.items c.push-2.new.self.items c.args.first c.args.others.now c.loop-number.number-index
    c.loop-number-test.false c.loop-number.invariant c.in_ok-push-2.ensures.items
