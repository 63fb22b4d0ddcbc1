-- image files as lists of records
use Rattle.std.specs.Prelude.{◌≡◌, ℕ, ◌≤◌, List, [], ◌∷◌, ◌++◌, length, Some, None, Ok, Err, Option, Result, MatchResult}
use Rattle.std.specs.List.{flat_map}
use Rattle.refusal.specs.Answers.{then}
use Rattle.ihex.specs.Content.{Content, line, Sound}
use Rattle.ihex.specs.Reading.{reading}
use Rattle.ihex.specs.declared.fault.RecordFault.{RecordFault}
use Rattle.image.specs.Lines.{Cut, first_line}
use Rattle.image.specs.declared.fault.ImageFault.{ImageFault}
use Rattle.image.specs.declared.fault.ImageFault.TheVariants.{Record}

-- the record of a line, the line without its CR LF, and what follows that
pub record Head : Type 0 where
  pub content : Content
  pub line : List ℕ
  pub rest : List ℕ

-- the line of a record, with the CR LF that closes it
abbrev pub closed : Content → List ℕ
closed r = line r ++ 13 ∷ 10 ∷ []

-- a file of these records
abbrev pub file : List Content → List ℕ
file rs = flat_map closed rs

-- reading a line of a file
abbrev pub record_of_line : Cut → Result Content RecordFault → Result Head ImageFault
record_of_line c (Ok r) = Ok (record { content = r; line = c.line; rest = c.rest })
record_of_line c (Err f) = Err (Record f)

abbrev pub first_record : List ℕ → Result Head ImageFault
first_record t = then (first_line t) (λ c. record_of_line c (reading c.line))

-- a text is accepted only if it begins with the closed line of the record read
abbrev pub Begins : List ℕ → Result Head ImageFault → Type 0
Begins t (Ok h) = Sound h.content × (h.line ≡ line h.content) × (t ≡ closed h.content ++ h.rest)
Begins t (Err f) = Unit {0}

-- What comes next of the records of a text, and what is left of it.
-- Nothing comes only where nothing is left, and nothing is left after a line that is no record.
abbrev pub Comes : List ℕ → Option (Result Head ImageFault) → List ℕ → Type 0
Comes t None rest = (t ≡ []) × (rest ≡ [])
Comes t (Some a) rest = (1 ≤ length t) × (a ≡ first_record t) × Begins t a × MatchResult a (λ h. rest ≡ h.rest) (λ f. rest ≡ [])
