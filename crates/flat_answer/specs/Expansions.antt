-- What holds of what came of expanding a text.
use Rattle.tlsf_expand.specs.declared.spec.Spec.{Spec}
use Rattle.program_replies.specs.declared.replies.Reply.{Reply}
use Rattle.flat_answer.specs.declared.texts.Expansion.{Expansion}
use Rattle.flat_answer.specs.declared.texts.Expansion.TheVariants.{Flat, Refused}

-- if it is a flat text, this holds of it
abbrev pub IfFlat : (Spec → Type 0) → Expansion → Type 0
IfFlat P (Flat spec) = P spec
IfFlat P (Refused reply) = Unit {0}

-- if it is the reply to a fault, this holds of it
abbrev pub IfRefused : (Reply → Type 0) → Expansion → Type 0
IfRefused P (Flat spec) = Unit {0}
IfRefused P (Refused reply) = P reply
