-- The number of each refusal. Assumes nothing.
use Rattle.std.specs.Prelude.{ℕ}
use Rattle.faults.specs.declared.refusal.Refusal.{Refusal}
use Rattle.faults.specs.declared.refusal.Refusal.TheVariants.{InputTooLong, FieldCount, NotANumber, OutOfRange, RecordCount, JoinsItself, ListedTwice, BadActivityEvents, SharedEnd, Circle, SpanTooLong, TooManyTrips, TripOutOfRange, NotBeforeArrival, NumberStands, NotServed, BoardFull, NumberDoesNotStand, LimitTooHigh, TableTooShort, FeeTooHigh, TooFewHulls, CostTooHigh, UnknownLetter, OperandsCutShort}

-- the number by which users know a refusal
abbrev pub number_of : Refusal → ℕ
number_of InputTooLong = 1
number_of FieldCount = 2
number_of NotANumber = 3
number_of OutOfRange = 4
number_of RecordCount = 5
number_of JoinsItself = 6
number_of ListedTwice = 7
number_of BadActivityEvents = 8
number_of SharedEnd = 9
number_of Circle = 10
number_of SpanTooLong = 11
number_of TooManyTrips = 12
number_of TripOutOfRange = 13
number_of NotBeforeArrival = 14
number_of NumberStands = 15
number_of NotServed = 16
number_of BoardFull = 17
number_of NumberDoesNotStand = 18
number_of LimitTooHigh = 19
number_of TableTooShort = 20
number_of FeeTooHigh = 21
number_of TooFewHulls = 22
number_of CostTooHigh = 23
number_of UnknownLetter = 24
number_of OperandsCutShort = 25
