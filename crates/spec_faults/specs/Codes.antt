-- The numbers and words that refusals are printed with: this project's table of faults.
use Rattle.std.specs.Prelude.{ℕ, List, codes}
use Rattle.spec_faults.specs.declared.code.SpecCode.{SpecCode}
use Rattle.spec_faults.specs.declared.code.SpecCode.TheVariants as code

abbrev pub code_number : SpecCode → ℕ
code_number code.TooLong = 1
code_number code.BadByte = 2
code_number code.Unexpected = 3
code_number code.Unclosed = 4
code_number code.Missing = 5
code_number code.Twice = 6
code_number code.UnknownName = 7
code_number code.WrongSort = 8
code_number code.IndexOut = 9
code_number code.ZeroDivisor = 10
code_number code.NumberRange = 11
code_number code.NoGuard = 12
code_number code.TooDeep = 13
code_number code.TooManyNodes = 14
code_number code.TooManySignals = 15
code_number code.TargetDiffers = 16
code_number code.Unsupported = 17
code_number code.AutomatonTooLarge = 18
code_number code.ExpandTooLong = 19
code_number code.TooManyGuarantees = 20

abbrev pub name_of : SpecCode → List ℕ
name_of code.TooLong = codes "TooLong"
name_of code.BadByte = codes "BadByte"
name_of code.Unexpected = codes "Unexpected"
name_of code.Unclosed = codes "Unclosed"
name_of code.Missing = codes "Missing"
name_of code.Twice = codes "Twice"
name_of code.UnknownName = codes "UnknownName"
name_of code.WrongSort = codes "WrongSort"
name_of code.IndexOut = codes "IndexOut"
name_of code.ZeroDivisor = codes "ZeroDivisor"
name_of code.NumberRange = codes "NumberRange"
name_of code.NoGuard = codes "NoGuard"
name_of code.TooDeep = codes "TooDeep"
name_of code.TooManyNodes = codes "TooManyNodes"
name_of code.TooManySignals = codes "TooManySignals"
name_of code.TargetDiffers = codes "TargetDiffers"
name_of code.Unsupported = codes "Unsupported"
name_of code.AutomatonTooLarge = codes "AutomatonTooLarge"
name_of code.ExpandTooLong = codes "ExpandTooLong"
name_of code.TooManyGuarantees = codes "TooManyGuarantees"
