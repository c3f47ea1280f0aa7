-- Equality of symbols as a test.
use Rattle.std.specs.Prelude.{Bool}
use Rattle.tlsf_tokens.specs.declared.symbol.Symbol.{Symbol}
use Rattle.tlsf_tokens.specs.contracts.symbol.SymbolPartialEq.TheImpl.{ghosts as symbol_ghosts}

-- what `==` answers, which compares symbols with their sections
abbrev pub symbol_eq : Symbol → Symbol → Bool
symbol_eq a b = symbol_ghosts.eq a b
