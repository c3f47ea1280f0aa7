use Rattle.std.proofs.Common.{◌∙◌}
use Rattle.tlsf_tokens.proofs.Tables.{found}
use Rattle.tlsf_tokens.proofs.words.symbol_in.Goals as goal

pub returns : goal.returns
returns c = c.find_symbol.ensures ∙ found c.args.table.now c.args.word.now
