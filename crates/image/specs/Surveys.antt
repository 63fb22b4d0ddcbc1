-- what an image file holds in all
use Rattle.std.specs.Prelude.{◌≡◌, ℕ, ◌+◌, ◌≤◌, min, max, true, false, List, [], ◌∷◌, ◌++◌, length, Some, None, Ok, Err, Option, Result}
use Rattle.std.specs.List.{AllByRecursion}
use Rattle.ihex.specs.Content.{Content, data_at, end_of_file, Sound}
use Rattle.image.specs.Files.{file, first_record}
use Rattle.image.specs.declared.offsets.Offsets.{Offsets}
use Rattle.image.specs.declared.refused.Refused.{Refused}
use Rattle.image.specs.declared.survey.Survey.{Survey}

-- the data bytes of a record
abbrev pub bytes_in : Content → ℕ
bytes_in (data_at offset ds) = length ds
bytes_in end_of_file = 0

abbrev pub nothing_yet : Survey
nothing_yet = record { records = 0; bytes = 0; offsets = None; ended = false }

-- the lowest and the highest of one
abbrev pub only : ℕ → Offsets
only offset = record { lowest = offset; highest = offset }

-- the lowest and the highest offset, with one more
abbrev pub widened : Option Offsets → ℕ → Offsets
widened None offset = only offset
widened (Some o) offset = record { lowest = min o.lowest offset; highest = max o.highest offset }

-- one record more
abbrev pub added : Survey → Content → Survey
added s (data_at offset ds) = record {
  records = s.records + 1;
  bytes = s.bytes + length ds;
  offsets = Some (widened s.offsets offset);
  ended = s.ended;
}
added s end_of_file = record { records = s.records; bytes = s.bytes; offsets = s.offsets; ended = true }

abbrev pub tally_from : Survey → List Content → Survey
tally_from s [] = s
tally_from s (r ∷ rs) = tally_from (added s r) rs

abbrev pub tally : List Content → Survey
tally rs = tally_from nothing_yet rs

-- A text is accepted if it is a file of records, and these are tallied.
-- It is refused at its first line that is none: the lines before it are records, and the text goes on there.
abbrev pub Surveyed : List ℕ → Result Survey Refused → Type 0
Surveyed t (Ok s) = (rs : List Content) × AllByRecursion Sound rs × (t ≡ file rs) × (s ≡ tally rs)
Surveyed t (Err e) =
    (rs : List Content) × (rest : List ℕ) × AllByRecursion Sound rs × (t ≡ file rs ++ rest) × (1 ≤ length rest)
    × (e.line ≡ length rs + 1) × (first_record rest ≡ Err e.fault)

-- every file of records is accepted, with their tally
abbrev pub Accepts : List ℕ → Result Survey Refused → Type 0
Accepts t a = (rs : List Content) → AllByRecursion Sound rs → t ≡ file rs → a ≡ Ok (tally rs)
