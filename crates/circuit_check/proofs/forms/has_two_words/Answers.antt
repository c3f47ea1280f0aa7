use Rattle.std.proofs.Common.{sym}
use Rattle.circuit_check.proofs.TwoWords.{more_words, one_word, two_words}
use Rattle.circuit_check.proofs.forms.has_two_words.Goals as goal

pub returns-in_default : goal.returns-in_default
returns-in_default c = sym (one_word c.args.line.now (sym c.in_default.ensures))

pub returns-in-Some-cut_at : goal.returns-in-Some-cut_at
returns-in-Some-cut_at c =
    sym (more_words c.args.line.now c.in-Some._first.now c.in-Some.rest.now (sym c.in-Some.ensures) c.in-Some-cut_at._second.now c.in-Some-cut_at._more.now (sym c.in-Some-cut_at.ensures))

pub returns-in-None : goal.returns-in-None
returns-in-None c =
    sym (two_words c.args.line.now c.in-Some._first.now c.in-Some.rest.now (sym c.in-Some.ensures) (sym c.in-None.ensures))
