-- what is printed of a file
use Rattle.std.specs.Prelude.{◌≡◌, ℕ, ◌/◌, ◌%◌, cond, List, [], ◌∷◌, ◌++◌, Some, None, Ok, Err, codes, decimal, Option, Result}
use Rattle.ihex.specs.Digits.{digits}
use Rattle.refusal.specs.Number.{number_of}
use Rattle.image.specs.Faults.{refusal_of}
use Rattle.image.specs.Surveys.{Surveyed}
use Rattle.image.specs.declared.offsets.Offsets.{Offsets}
use Rattle.image.specs.declared.refused.Refused.{Refused}
use Rattle.image.specs.declared.survey.Survey.{Survey}

-- the line and the number of what is turned down
abbrev pub refused_text : Refused → List ℕ
refused_text x = codes "refused," ++ (decimal x.line ++ (codes "," ++ decimal (number_of (refusal_of x.fault))))

-- four digits and an h
abbrev pub offset_text : ℕ → List ℕ
offset_text n = digits (n / 256 ∷ n % 256 ∷ []) ++ codes "h"

abbrev pub offsets_text : Option Offsets → List ℕ
offsets_text None = codes "offsets: none"
offsets_text (Some o) =
    codes "lowest offset: " ++ (offset_text o.lowest ++ (codes "\nhighest offset: " ++ offset_text o.highest))

abbrev pub survey_text : Survey → List ℕ
survey_text s =
    codes "data records: " ++ (decimal s.records ++ (codes "\nbytes: " ++ (decimal s.bytes ++ (codes "\n" ++ (offsets_text s.offsets
    ++ (codes "\nend record: " ++ cond s.ended (codes "yes") (codes "no")))))))

-- the page of a text is that of the answer of its survey
abbrev pub page_text : Result Survey Refused → List ℕ
page_text (Ok s) = survey_text s
page_text (Err e) = refused_text e

abbrev pub Reported : List ℕ → List ℕ → Type 0
Reported text page = (r : Result Survey Refused) × Surveyed text r × (page ≡ page_text r)
