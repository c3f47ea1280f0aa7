use Rattle.std.proofs.Common.{◌≡◌, length, rules}
use Rattle.circuit_names.proofs.LineLemmas.{none_wanted}
use Rattle.circuit_names.proofs.lines.+foreign_from.Goals as goal

pub returns-in-len1-up-empty : goal.returns-in-len1-up-empty
returns-in-len1-up-empty t c =
    let empty : length c.args.wanted.now ≡ 0 = search rules in
    none_wanted c.args.place c.args.names.now c.args.wanted.now c.args.lines.now empty
