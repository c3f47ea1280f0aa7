use Rattle.std.proofs.Common.{map, length}
use Rattle.tlsf_syntax.specs.Seen.{word_seen}
use Rattle.tlsf_reader.specs.Places.{NameTwiceAt}
use Rattle.tlsf_reader.proofs.Repeats.{Keeps}
use Rattle.tlsf_reader.proofs.NamesTwice.{TwiceAfter}
use Rattle.tlsf_reader.proofs.repeat.repeated_name.Given as goal

abbrev pub invariant-loop-left : goal.invariant-loop-left
invariant-loop-left l = Keeps (NameTwiceAt (map (λ w. word_seen w.now) l.fn.words)) (TwiceAfter (map (λ n. n.now) l.seen.keys) (map (λ w. word_seen w.now) l.left)) l.found

abbrev pub decreases-loop-left : goal.decreases-loop-left
decreases-loop-left l = length l.left
