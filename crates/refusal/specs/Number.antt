-- the number of each reason for which a call is turned down
use Rattle.std.specs.Prelude.{ℕ}
use Rattle.refusal.specs.declared.Refusal.{Refusal}
use Rattle.refusal.specs.declared.Refusal.TheVariants.{
  RecordTooShort,
  NoColon,
  NotADigit,
  WrongCount,
  WrongSum,
  UnknownRecord,
  NoSuchUnit,
  IllegalSection,
  EndTooEarly,
  UnsoundFrame,
  BufferTooShort,
  RunTooLong,
  BadInput,
  KeysFull,
  MayNotRun,
  WrongPhase,
  BadLine,
  OutOfOrder,
}

abbrev pub number_of : Refusal → ℕ
number_of RecordTooShort = 1
number_of NoColon = 2
number_of NotADigit = 3
number_of WrongCount = 4
number_of WrongSum = 5
number_of UnknownRecord = 6
number_of NoSuchUnit = 7
number_of IllegalSection = 8
number_of EndTooEarly = 9
number_of UnsoundFrame = 10
number_of BufferTooShort = 11
number_of RunTooLong = 12
number_of BadInput = 13
number_of KeysFull = 14
number_of MayNotRun = 15
number_of WrongPhase = 16
number_of BadLine = 17
number_of OutOfOrder = 18
