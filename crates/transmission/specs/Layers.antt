-- losing layers over a slot lane: which frames come out, where one is taken after each put
use Rattle.std.specs.Prelude.{◌≡◌, ℕ, ◌+◌, ◌-◌, ◌/◌, Bool, false, cond, ◌||◌, List, [], ◌∷◌, ◌++◌, is_ok, Some, None, Option, ◌==◌}
use Rattle.std.specs.List.{AllByRecursion}
use Rattle.ihex.specs.Content.{Content, Sound}
use Rattle.lane.specs.Drops.{counted, dropped}
use Rattle.image.specs.Files.{file, first_record}
use Rattle.transmission.specs.Sending.{numbered}
use Rattle.transmission.specs.Tallies.{tally}
use Rattle.transmission.specs.declared.traffic.Traffic.{Traffic}

-- a layer: its k, and its accepted puts so far modulo k
pub record Layer : Type 0 where
  pub every : ℕ
  pub passed : ℕ

abbrev pub fresh : ℕ → Layer
fresh k = record { every = k; passed = 0 }

-- whether one of the layers, the outermost first, drops the next put
abbrev pub drops : List Layer → Bool
drops [] = false
drops (l ∷ ls) = dropped l.every l.passed || drops ls

-- the layers after it; one that is dropped does not reach the layers below
abbrev pub after : List Layer → List Layer
after [] = []
after (l ∷ ls) =
    record { every = l.every; passed = counted l.every l.passed } ∷ cond (dropped l.every l.passed) ls (after ls)

-- what comes of the next put
abbrev pub passed_on : List Layer → List ℕ → Option (List ℕ)
passed_on ls f = cond (drops ls) None (Some f)

-- what is taken after each put
abbrev pub outcomes : List Layer → List (List ℕ) → List (Option (List ℕ))
outcomes ls [] = []
outcomes ls (f ∷ fs) = passed_on ls f ∷ outcomes (after ls) fs

-- the records at the front of a text, over these layers; its first five fields are those of `Transmitted`, written out, since with a record
-- of their own the check no longer finds that the trials meet their contract
pub record Trial (ls : List Layer) (text : List ℕ) (t : Traffic) : Type 0 where
  pub records : List Content
  pub rest : List ℕ
  pub sound : AllByRecursion Sound records
  pub begins : text ≡ file records ++ rest
  pub ends : is_ok (first_record rest) ≡ false
  pub tallied : t ≡ tally (outcomes ls (numbered 0 records))

-- every k-th of n is lost
abbrev pub kth_of : ℕ → ℕ → ℕ
kth_of k n = cond (k == 0) 0 (n / k)

-- a layer whose count stands at 0, as a new one's
abbrev pub IsFresh : Layer → Type 0
IsFresh l = l.passed ≡ 0

-- of n puts on such layers: each loses every k-th of those that reach it
abbrev pub lost_of : List Layer → ℕ → ℕ
lost_of [] n = 0
lost_of (l ∷ ls) n = kth_of l.every n + lost_of ls (n - kth_of l.every n)
