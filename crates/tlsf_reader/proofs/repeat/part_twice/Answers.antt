use Rattle.std.proofs.Common.{map}
use Rattle.tlsf_reader.specs.Seen.{seen}
use Rattle.tlsf_reader.proofs.Repeats.{heads_twice}
use Rattle.tlsf_reader.proofs.repeat.part_twice.Goals as goal

pub returns : goal.returns
returns c = heads_twice (map seen c.args.lexemes.now) c.repeated_among.result c.repeated_among.ensures
