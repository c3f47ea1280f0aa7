use Rattle.std.proofs.Common.{◌<◌, length, arith}
use Rattle.tlsf_tokens.proofs.Quoted.{inner_fits, text_found, text_open}
use Rattle.tlsf_tokens.proofs.scan.quoted.Goals as goal

pub overflow_add-inner : goal.overflow_add-inner
overflow_add-inner c = let l : c.len_before-inner.result < length c.args.rest.now = inner_fits _ _ c.requires.some c.len_before-inner.ensures in omega arith

pub returns-then-inner-rest : goal.returns-then-inner-rest
returns-then-inner-rest c = text_found _ _ c.requires.quote c.len_before-inner.ensures c.if-inner-rest.true

pub returns-else-inner-rest : goal.returns-else-inner-rest
returns-else-inner-rest c = text_open _ _ c.requires.quote c.len_before-inner.ensures c.if-inner-rest.false
