-- The numbers of statuses (this project's own).
use Rattle.std.specs.Prelude.{ℕ}
use Rattle.program_replies.specs.declared.replies.Status.{Status}
use Rattle.program_replies.specs.declared.replies.Status.TheVariants.{Done, Refused, WordsRefused, CannotRead, CannotWrite, NoMemory, Realizable, Bounded, Unrealizable, Unknown, LineRefused}

abbrev pub status_number : Status → ℕ
status_number Done = 0
status_number Refused = 1
status_number WordsRefused = 2
status_number CannotRead = 3
status_number CannotWrite = 4
status_number NoMemory = 5
status_number Realizable = 10
status_number Bounded = 11
status_number Unrealizable = 20
status_number Unknown = 30
status_number LineRefused = 40
