-- which puts the losing layer drops
use Rattle.std.specs.Prelude.{◌≡◌, ℕ, zero, suc, ◌+◌, ◌%◌, Bool, cond, not, ◌&&◌, List, MatchBool, Option, ◌==◌}
use Rattle.lane.specs.declared.losing.Losing.{Losing}

-- with k, and n accepted puts so far modulo k: the number after one more, which stays 0 where k is 0
abbrev pub counted : ℕ → ℕ → ℕ
counted k n = cond (k == 0) 0 ((n + 1) % k)

-- and whether that one is dropped
abbrev pub dropped : ℕ → ℕ → Bool
dropped k n = not (k == 0) && (n + 1) % k == 0

abbrev pub begun : {L : Type 0} → L → ℕ → Losing L → Type 0
begun below k s = (s.below ≡ below) × (s.every ≡ k) × (s.passed ≡ 0)

-- a dropped put leaves the lane below alone, any other is put there
abbrev pub LayerPuts : {L : Type 0} → (L → List ℕ → L → Type 0) → Losing L → List ℕ → Losing L → Type 0
LayerPuts puts s f s' =
    (s'.every ≡ s.every) × (s'.passed ≡ counted s.every s.passed)
    × MatchBool (dropped s.every s.passed) (s'.below ≡ s.below) (puts s.below f s'.below)

-- a take is one of the lane below
abbrev pub LayerTakes : {L : Type 0} → (L → Option (List ℕ) → L → Type 0) → Losing L → Option (List ℕ) → Losing L → Type 0
LayerTakes takes s o s' = (s'.every ≡ s.every) × (s'.passed ≡ s.passed) × takes s.below o s'.below

-- the count after m accepted puts
abbrev pub counted_after : ℕ → ℕ → ℕ
counted_after k zero = 0
counted_after k (suc m) = counted k (counted_after k m)

-- from the beginning on: after m accepted puts the next is dropped exactly when k divides its number, m + 1
abbrev pub EveryKth : ℕ → Type 0
EveryKth k = (m : ℕ) → dropped k (counted_after k m) ≡ not (k == 0) && suc m % k == 0
