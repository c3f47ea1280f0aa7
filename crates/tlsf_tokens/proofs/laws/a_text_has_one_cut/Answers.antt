use Rattle.tlsf_tokens.proofs.Cutting.{one_cut}
use Rattle.tlsf_tokens.proofs.laws.a_text_has_one_cut.Goals as goal

pub returns : goal.returns
returns c = λ text s t s_at t_at ts us. one_cut text s t s_at t_at 0 ts us
