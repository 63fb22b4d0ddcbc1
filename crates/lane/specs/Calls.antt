-- what a put and a take do, by the list of waiting frames before and after
use Rattle.std.specs.Prelude.{◌≡◌, ℕ, ◌<◌, ◌≤◌, false, List, [], ◌∷◌, ◌++◌, length, take, drop, Some, None, Ok, Err, Option, Result}
use Rattle.lane.specs.Carried.{is_carried, Carried}
use Rattle.lane.specs.Worn.{Worn}

-- old list, frame, answer, new list
abbrev pub Put : {U E : Type 0} → List (List ℕ) → List ℕ → Result U E → List (List ℕ) → Type 0
Put old f (Ok _) new = Carried f × Worn (old ++ f ∷ []) new
Put old f (Err _) new = (is_carried (length f) ≡ false) × (new ≡ old)

-- a frame handed out stands at the buffer's front, and nothing else is written
abbrev pub Taken : List (List ℕ) → List ℕ → Option ℕ → List (List ℕ) → List ℕ → Type 0
Taken old buf None new buf' = Worn old new × (buf' ≡ buf)
Taken old buf (Some n) new buf' = (f : List ℕ) × (n ≡ length f) × Worn old (f ∷ new) × (buf' ≡ f ++ drop n buf)

-- old list and buffer, answer, new list and buffer
abbrev pub Take : {E : Type 0} → List (List ℕ) → List ℕ → Result (Option ℕ) E → List (List ℕ) → List ℕ → Type 0
Take old buf (Ok o) new buf' = (269 ≤ length buf) × Taken old buf o new buf'
Take old buf (Err _) new buf' = (length buf < 269) × (new ≡ old) × (buf' ≡ buf)

-- what is handed out, of which this holds, by its length and the buffer that it was written to
abbrev pub Handed : (Option (List ℕ) → Type 0) → Option ℕ → List ℕ → Type 0
Handed P None buf = P None
Handed P (Some n) buf = P (Some (take n buf))

-- a put and then a take: what is handed out comes from the old list with the frame added
abbrev pub Passed : {E : Type 0} → List (List ℕ) → List ℕ → List ℕ → Result (Option ℕ) E → List (List ℕ) → List ℕ → Type 0
Passed old f buf (Ok o) new buf' = Carried f × Taken (old ++ f ∷ []) buf o new buf'
Passed old f buf (Err _) new buf' = (is_carried (length f) ≡ false) × (new ≡ old) × (buf' ≡ buf)

-- both, as this very lane does them
abbrev pub Passes : {S : Type 0} → (S → List ℕ → S → Type 0) → (S → Option (List ℕ) → S → Type 0) → S → List ℕ → Option (List ℕ) → S → Type 0
Passes {S} puts takes s f o s' = (m : S) × puts s f m × takes m o s'
