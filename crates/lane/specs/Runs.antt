-- any puts and takes on a lane, one after the other
use Rattle.std.specs.Prelude.{ℕ, List, [], ◌∷◌, ◌++◌}
use Rattle.lane.specs.Worn.{Worn}

-- the list at first, the frames put, the frames taken, the list at last
pub data Run : List (List ℕ) → List (List ℕ) → List (List ℕ) → List (List ℕ) → Type 0 where
  begun : {fs : List (List ℕ)} → Run fs [] [] fs
  put : {old mid puts taken new : List (List ℕ)} {f : List ℕ} → Worn (old ++ f ∷ []) mid → Run mid puts taken new → Run old (f ∷ puts) taken new
  nothing_yet : {old mid puts taken new : List (List ℕ)} → Worn old mid → Run mid puts taken new → Run old puts taken new
  take : {old mid puts taken new : List (List ℕ)} {f : List ℕ} → Worn old (f ∷ mid) → Run mid puts taken new → Run old puts (f ∷ taken) new

-- what was taken, followed by what waits, is a worn copy of what waited, followed by what was put
abbrev pub RunsWear : Type 0
RunsWear = (old puts taken new : List (List ℕ)) → Run old puts taken new → Worn (old ++ puts) (taken ++ new)
