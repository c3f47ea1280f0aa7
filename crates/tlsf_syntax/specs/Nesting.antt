-- Written nesting: this project's own bound on how deep a text is written, by its symbols alone.
use Rattle.std.specs.Prelude.{ℕ, zero, suc, ◌+◌, Bool, true, false, if◌then◌else◌, nat_lt, List, [], ◌∷◌, length, Option, None, Some}
use Rattle.tlsf_tokens.specs.declared.symbol.Symbol.{Symbol}
use Rattle.tlsf_tokens.specs.declared.symbol.Symbol.TheVariants as symbol
use Rattle.tlsf_syntax.specs.declared.nesting.Role.{Role}
use Rattle.tlsf_syntax.specs.declared.nesting.Role.TheVariants.{Open, Close, Separator, Right, Prefix, Operator, Other}

-- `&&` and `||` before `[` are the signs of big operators
abbrev pub joint_role : Option Symbol → Role
joint_role (Some symbol.OpenBracket) = Prefix
joint_role _ = Operator

-- what a symbol is, with the one that follows it
abbrev pub role_of : Symbol → Option Symbol → Role
role_of symbol.OpenBrace next = Open
role_of symbol.OpenParen next = Open
role_of symbol.OpenBracket next = Open
role_of symbol.CloseBrace next = Close
role_of symbol.CloseParen next = Close
role_of symbol.CloseBracket next = Close
role_of symbol.Comma next = Separator
role_of symbol.Semicolon next = Separator
role_of symbol.Colon next = Separator
role_of symbol.Implies next = Right
role_of symbol.Equiv next = Right
role_of symbol.WeakUntil next = Right
role_of symbol.Until next = Right
role_of symbol.Not next = Prefix
role_of symbol.Next next = Prefix
role_of symbol.Finally next = Prefix
role_of symbol.Globally next = Prefix
role_of symbol.SizeOf next = Prefix
role_of symbol.And next = joint_role next
role_of symbol.Or next = joint_role next
role_of symbol.Release next = Operator
role_of symbol.In next = Operator
role_of symbol.Equal next = Operator
role_of symbol.Unequal next = Operator
role_of symbol.Less next = Operator
role_of symbol.LessEqual next = Operator
role_of symbol.Greater next = Operator
role_of symbol.GreaterEqual next = Operator
role_of symbol.Plus next = Operator
role_of symbol.Minus next = Operator
role_of symbol.Star next = Operator
role_of symbol.Slash next = Operator
role_of symbol.Percent next = Operator
role_of symbol.Meet next = Operator
role_of symbol.Join next = Operator
role_of symbol.Difference next = Operator
role_of _ next = Other

abbrev pub first_of : List Symbol → Option Symbol
first_of [] = None
first_of (s ∷ rest) = Some s

abbrev pub one_if : Bool → ℕ
one_if counted = if counted then 1 else 0

-- The number of a symbol, by its role and those before it, the nearest first: one for each bracket that is open, and for
-- what stands directly in each of these and outside them all. So many brackets that closed are still to be passed over;
-- `right` and `prefix` say whether no separator and no other operator was passed in the bracket that is counted.
abbrev pub nesting_of : List Role → ℕ → Bool → Bool → ℕ
nesting_of [] closed right prefix = 0
nesting_of (Close ∷ before) closed right prefix = nesting_of before (suc closed) right prefix
nesting_of (Open ∷ before) zero right prefix = suc (nesting_of before zero true true)
nesting_of (Open ∷ before) (suc closed) right prefix = nesting_of before closed right prefix
nesting_of (Separator ∷ before) zero right prefix = nesting_of before zero false false
nesting_of (Right ∷ before) zero right prefix = one_if right + nesting_of before zero right false
nesting_of (Prefix ∷ before) zero right prefix = one_if prefix + nesting_of before zero right prefix
nesting_of (Operator ∷ before) zero right prefix = nesting_of before zero right false
nesting_of (Other ∷ before) zero right prefix = nesting_of before zero right prefix
nesting_of (_ ∷ before) (suc closed) right prefix = nesting_of before (suc closed) right prefix

-- the first of the symbols whose number passes the limit, where those before them have these roles
abbrev pub first_deep : ℕ → List Role → List Symbol → Option ℕ
first_deep limit before [] = None
first_deep limit before (s ∷ rest) =
    if nat_lt limit (nesting_of (role_of s (first_of rest) ∷ before) zero true true) then Some (length before)
    else first_deep limit (role_of s (first_of rest) ∷ before) rest
