use Rattle.std.proofs.Common.{◌≡◌, ◌≤◌, take}
use Rattle.names_and_numbers.specs.Numerals.{decimal_value}
use Rattle.names_and_numbers.proofs.number.value_within.Given as goal

-- the value of the digits so far, which is within the bound
abbrev pub invariant-loop-byte : goal.invariant-loop-byte
invariant-loop-byte l = record {
  so_far : l.value ≡ decimal_value (take l.byte-index l.digits);
  within : l.value ≤ l.most;
}
