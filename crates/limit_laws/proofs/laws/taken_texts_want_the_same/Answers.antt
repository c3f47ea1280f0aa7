use Rattle.tlsf_reader.proofs.OneTree.{determined}
use Rattle.limit_laws.proofs.Taken.{same_wanted}
use Rattle.limit_laws.proofs.laws.taken_texts_want_the_same.Goals as goal

pub returns : goal.returns
returns c = λ text given x flat y. same_wanted determined text given x y flat
