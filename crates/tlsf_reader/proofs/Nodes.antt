-- Literals that don't fit, chains, and where an expression stands.
use Rattle.std.proofs.Common.{◌≡◌, ℕ, ◌+◌, ◌*◌, ◌-◌, ◌<◌, ◌≤◌, List, [], ◌∷◌, length, None, arith, refl, ap, sym, ◌∙◌, false, nat_lt, Some, pos, get_or, drop, drop-cons, add-one}
use Rattle.std.proofs.lemmas.Bool.{le-ltb, cond-false}
use Rattle.tlsf_syntax.specs.declared.expr.Form as form
use Rattle.tlsf_syntax.specs.declared.expr.Link.{Link}
use Rattle.tlsf_syntax.specs.Tree.{Tree, tree_span, chain}
use Rattle.tlsf_syntax.specs.Lexemes.{decimal_from, literal_of}
use Rattle.tlsf_syntax.specs.Reading.{chain_of, links_end, from_to}
use Rattle.tlsf_syntax.specs.Seen.{link_list_seen}

decimal_grows : (n : ℕ) (digits : List ℕ) → n ≤ decimal_from n digits
decimal_grows n [] = omega arith
decimal_grows n (digit ∷ digits) = omega (arith, decimal_grows (n * 10 + (digit - 48)) digits)

pub no_literal : (text : List ℕ) (n : ℕ) (digits : List ℕ) → decimal_from 0 text ≡ decimal_from n digits → 9223372036854775808 ≤ n → None ≡ literal_of text
no_literal text n digits e large =
    let over : nat_lt (decimal_from 0 text) 9223372036854775808 ≡ false = le-ltb _ _ (omega (arith, e, decimal_grows n digits)) in
    sym (cond-false (nat_lt (decimal_from 0 text) 9223372036854775808) (Some (pos (decimal_from 0 text))) None over)

pub next_digit : (text : List ℕ) (i n m : ℕ) → i < length text → m ≡ n * 10 + (get_or text i 0 - 48) → decimal_from n (drop i text) ≡ decimal_from m (drop (i + 1) text)
next_digit text i n m h e = ap (decimal_from n) (drop-cons text i 0 h) ∙ (rw (add-one, e) refl)

pub chain_of_some : (t : Tree) (rest : List Link) (end : ℕ) → 0 < length rest → end ≡ links_end (tree_span t).end (link_list_seen rest)
    → chain (from_to (tree_span t).start end) t (link_list_seen rest) ≡ chain_of t (link_list_seen rest)
chain_of_some t [] end some e = absurd (omega arith)
chain_of_some t (l ∷ rest) end some e = ap (λ (n : ℕ). chain (from_to (tree_span t).start n) t (link_list_seen (l ∷ rest))) e
