use Rattle.std.proofs.Common.{◌≡◌, ◌+◌, drop}
use Rattle.std.specs.Char.{is_ascii_digit}
use Rattle.std.specs.List.{prefix_len}
use Rattle.names_and_numbers.proofs.number.digits_at_front.Given as goal

-- the bytes so far are digits, so the run goes on
abbrev pub invariant-loop-count : goal.invariant-loop-count
invariant-loop-count l = prefix_len is_ascii_digit l.bytes ≡ l.count + prefix_len is_ascii_digit (drop l.count l.bytes)
