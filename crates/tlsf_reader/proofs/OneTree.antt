-- No text has two trees: its tokens are determined, and so are its lexemes and what they derive.
use Rattle.std.proofs.Common.{◌≡◌, ℕ, List, Option, map, sym, ◌∙◌, ap, subst}
use Rattle.spec_faults.specs.declared.code.SpecCode.{SpecCode}
use Rattle.tlsf_tokens.proofs.Cutting.{one_cut}
use Rattle.tlsf_syntax.specs.Lexemes.{Lexeme}
use Rattle.tlsf_syntax.specs.Texts.{DerivesText}
use Rattle.tlsf_syntax.proofs.Texts.{one_text}
use Rattle.tlsf_reader.specs.Lexed.{IsLexed, lexeme_from}
use Rattle.tlsf_reader.specs.Parts.{text_of}
use Rattle.tlsf_reader.specs.Reads.{TreesAreDetermined}

pub one_list : (text : List ℕ) (stop stop' : Option SpecCode) (stop_at stop_at' : ℕ) (ls ms : List Lexeme) → IsLexed text stop stop_at ls → IsLexed text stop' stop_at' ms
    → (ls ≡ ms) × (stop ≡ stop') × (stop_at ≡ stop_at')
one_list text stop stop' stop_at stop_at' ls ms a b =
    let same : (a.tokens ≡ b.tokens) × (stop ≡ stop') × (stop_at ≡ stop_at') = one_cut text stop stop' stop_at stop_at' 0 a.tokens b.tokens a.cut b.cut in
    (a.are ∙ ap (map (lexeme_from text)) same.0 ∙ sym b.are, same.1, same.2)

pub determined : TreesAreDetermined
determined text tree tree' a b =
    let same : (a.lexed.lexemes ≡ b.lexed.lexemes) × (a.lexed.stop ≡ b.lexed.stop) × (a.lexed.stop_at ≡ b.lexed.stop_at) =
    one_list text a.lexed.stop b.lexed.stop a.lexed.stop_at b.lexed.stop_at a.lexed.lexemes b.lexed.lexemes a.lexed.is b.lexed.is in
    let written : a.written ≡ b.written = one_text b.lexed.lexemes a.written b.written (subst (λ ls. DerivesText ls a.written) same.0 a.derived) b.derived in
    a.is ∙ ap text_of written ∙ sym b.is
