-- What a text with an annotation over named states states is one thing.
use Rattle.annot_check.proofs.Readings.{never_both, same_err, same_ok}
use Rattle.named_annotation.specs.Laws.{NamedReadingsAreApart}

pub named_readings_are_apart : NamedReadingsAreApart
named_readings_are_apart = record {
  one = λ bytes latches inputs ns f p q of_p of_q. same_ok _ p q of_p of_q;
  one_line = λ bytes latches inputs ns f m n of_m of_n. same_err _ m n of_m of_n;
  apart = λ bytes latches inputs ns f p n of_p of_n. never_both _ p n of_p of_n;
}
