-- Rule 2.1: the numbers of the answers. Assumes nothing.
use Rattle.std.specs.Prelude.{ℕ}
use Rattle.manager.specs.declared.Status.{Status}
use Rattle.manager.specs.declared.Status.TheVariants.{Successful, InvalidName, InvalidId, TooMany, Timeout, InvalidSize, InvalidAddress, InvalidNumber, NotDefined, ResourceInUse, Unsatisfied, IncorrectState, InvalidPriority, InternalError, Waiting}

abbrev pub number_of : Status → ℕ
number_of Successful = 0
number_of InvalidName = 3
number_of InvalidId = 4
number_of TooMany = 5
number_of Timeout = 6
number_of InvalidSize = 8
number_of InvalidAddress = 9
number_of InvalidNumber = 10
number_of NotDefined = 11
number_of ResourceInUse = 12
number_of Unsatisfied = 13
number_of IncorrectState = 14
number_of InvalidPriority = 19
number_of InternalError = 25
number_of Waiting = 255
