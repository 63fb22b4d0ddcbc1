-- what reading and writing have to do with one another
use Rattle.std.specs.Prelude.{◌≡◌, ℕ, List, Ok, Err, Result}
use Rattle.ihex.specs.Content.{Content, line, Sound}
use Rattle.ihex.specs.Reading.{reading}
use Rattle.ihex.specs.declared.fault.RecordFault.{RecordFault}

-- reading the line of a record gives the record
abbrev pub ReadsBack : Content → Type 0
ReadsBack r = reading (line r) ≡ Ok r

-- a text is accepted only if it is the line of the record read, and that is one of the two
abbrev pub Canonical : List ℕ → Result Content RecordFault → Type 0
Canonical text (Ok r) = Sound r × (text ≡ line r)
Canonical text (Err e) = Unit {0}
