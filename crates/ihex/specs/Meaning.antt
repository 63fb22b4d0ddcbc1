-- what the values of the program mean
use Rattle.std.specs.Prelude.{ℕ, cond, List, Ok, Err, Result, ◌==◌}
use Rattle.bounded.specs.Held.{held}
use Rattle.ihex.specs.Content.{Content, data_at, end_of_file}
use Rattle.ihex.specs.declared.data_record.DataRecord.{DataRecord}
use Rattle.ihex.specs.declared.record.Record.{Record}
use Rattle.ihex.specs.declared.record.Record.TheVariants.{Data, End}
use Rattle.ihex.specs.declared.record.RecordType.{RecordType}
use Rattle.ihex.specs.declared.record.RecordType.TheVariants as type
use Rattle.ihex.specs.declared.fault.RecordFault.{RecordFault}
use Rattle.ihex.specs.declared.fault.RecordFault.TheVariants as fault
use Rattle.refusal.specs.declared.Refusal.{Refusal}
use Rattle.refusal.specs.declared.Refusal.TheVariants.{RecordTooShort, NoColon, NotADigit, WrongCount, WrongSum, UnknownRecord}

abbrev pub data_of : DataRecord → List ℕ
data_of d = held d.data

abbrev pub data_content : DataRecord → Content
data_content d = data_at d.offset (data_of d)

abbrev pub content : Record → Content
content (Data d) = data_content d
content End = end_of_file

-- the type that a byte stands for
abbrev pub type_of : ℕ → Result RecordType RecordFault
type_of n = cond (n == 0) (Ok type.Data) (cond (n == 1) (Ok type.EndOfFile) (Err fault.Unknown))

abbrev pub refusal_of : RecordFault → Refusal
refusal_of fault.Short = RecordTooShort
refusal_of fault.NoColon = NoColon
refusal_of fault.NotADigit = NotADigit
refusal_of fault.Count = WrongCount
refusal_of fault.Sum = WrongSum
refusal_of fault.Unknown = UnknownRecord
