-- The tokens of a text, each with bytes of its own.
use Rattle.std.proofs.Common.{◌≤◌, ℕ, List, [], ◌∷◌, length, Option, None, Some, All, arith}
use Rattle.std.proofs.lemmas.List.Elements.{All-nil, All-cons}
use Rattle.spec_faults.specs.declared.code.SpecCode.{SpecCode}
use Rattle.tlsf_tokens.specs.Cuts.{IsInOrder, Stops}
use Rattle.tlsf_tokens.specs.declared.token.Token.{Token}
use Rattle.tlsf_reader.specs.Lexed.{IsTokenOf}

in_order_within : (from : ℕ) (tokens : List Token) (to : ℕ) → IsInOrder from tokens to → from ≤ to
in_order_within from [] to o = o
in_order_within from (token ∷ tokens) to o = let below : token.end ≤ to = in_order_within token.end tokens to o.2 in omega (arith, o.0, o.1, below)

stops_within : (text : List ℕ) (stop_at : ℕ) (stop : Option SpecCode) → Stops text stop_at stop → stop_at ≤ length text
stops_within text stop_at None s = omega arith
stops_within text stop_at (Some code) s = omega (arith, s.0)

all_of : (text : List ℕ) (from : ℕ) (tokens : List Token) (to : ℕ) → IsInOrder from tokens to → to ≤ length text → All (IsTokenOf text) tokens
all_of text from [] to o h = All-nil (IsTokenOf text)
all_of text from (token ∷ tokens) to o h =
    let below : token.end ≤ to = in_order_within token.end tokens to o.2 in
    All-cons (IsTokenOf text) token tokens (omega (arith, o.1), omega (arith, below)) (all_of text token.end tokens to o.2 h)

pub tokens_of : (text : List ℕ) (tokens : List Token) (stop_at : ℕ) (stop : Option SpecCode) → IsInOrder 0 tokens stop_at → Stops text stop_at stop → All (IsTokenOf text) tokens
tokens_of text tokens stop_at stop o s = all_of text 0 tokens stop_at o (stops_within text stop_at stop s)
