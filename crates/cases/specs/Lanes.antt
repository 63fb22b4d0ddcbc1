-- the answers to the cases of lanes
use Rattle.std.specs.Prelude.{◌≡◌, ℕ, List, ◌++◌, take, IfOk, Some, None, Ok, Err, codes, decimal, Option, Result, OnOk}
use Rattle.refusal.specs.Number.{number_of}
use Rattle.refusal.specs.declared.BufferTooShort.{BufferTooShort}
use Rattle.refusal.specs.declared.Refusal.{Refusal}
use Rattle.refusal.specs.declared.Refusal.TheVariants as reason
use Rattle.refusal.specs.declared.UnsoundFrame.{UnsoundFrame}
use Rattle.lane.specs.Calls.{Put, Take, Handed}
use Rattle.cases.specs.Words.{word_of}

abbrev pub refused_part : Refusal → List ℕ
refused_part f = codes "refused-" ++ decimal (number_of f)

abbrev pub put_word : Result (Unit {0}) UnsoundFrame → List ℕ
put_word (Ok _) = codes "ok"
put_word (Err _) = refused_part reason.UnsoundFrame

abbrev pub take_word : Result (Option ℕ) BufferTooShort → List ℕ → List ℕ
take_word (Ok None) buf = codes "nothing"
take_word (Ok (Some n)) buf = word_of (take n buf)
take_word (Err _) buf = refused_part reason.BufferTooShort

-- the word is that of an answer that the lane may give, and the lane did what it does at such an answer
abbrev pub PutSays : List (List ℕ) → List ℕ → List (List ℕ) → Type 0 → List ℕ → Type 0
PutSays old f new does word = (a : Result (Unit {0}) UnsoundFrame) × Put old f a new × OnOk a does × (word ≡ put_word a)

abbrev pub TakeSays : List (List ℕ) → List ℕ → List (List ℕ) → List ℕ → (Option (List ℕ) → Type 0) → List ℕ → Type 0
TakeSays old buf new buf' does word =
    (a : Result (Option ℕ) BufferTooShort) × Take old buf a new buf' × IfOk a (λ o. Handed does o buf') × (word ≡ take_word a buf')
