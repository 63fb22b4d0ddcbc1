-- the frames of a table as a queue
use Rattle.std.proofs.Common.{◌≡◌, ℕ, zero, suc, ◌+◌, ◌-◌, ◌%◌, ◌<◌, List, [], ◌∷◌, ◌++◌, length, get_or, set, refl, arith}
use Rattle.std.proofs.lemmas.Grind.{common_steps}
use Rattle.std.proofs.lemmas.List.{map-set}
use Rattle.slots.specs.Tables.{from_place}

pub length_from : (fs : List (List ℕ)) (h n : ℕ) → length (from_place fs h n) ≡ n
length_from fs h zero = refl
length_from fs h (suc n) = grind (arith, length_from fs (suc h) n)

-- a frame in the place after the youngest stands at the end
pub from_filled : (fs : List (List ℕ)) (h n i : ℕ) (f : List ℕ) → (h + n) % 8 ≡ i → n < 8 → i < length fs
    → from_place (set fs i f) h (n + 1) ≡ from_place fs h n ++ f ∷ []
from_filled fs h zero i f e l within = grind (arith, common_steps)
from_filled fs h (suc n) i f e l within = grind (arith, common_steps, from_filled fs (suc h) n i f)

-- places count modulo eight
from_turned : (fs : List (List ℕ)) (a b n : ℕ) → a % 8 ≡ b % 8 → from_place fs a n ≡ from_place fs b n
from_turned fs a b zero e = refl
from_turned fs a b (suc n) e = grind (arith, from_turned fs (suc a) (suc b) n)

-- the oldest, and what is left without it
pub from_first : (fs : List (List ℕ)) (h n : ℕ) → h < 8 → 0 < n
    → from_place fs h n ≡ get_or fs h [] ∷ from_place fs ((h + 1) % 8) (n - 1)
from_first fs h zero lh ln = grind arith
from_first fs h (suc n) lh ln = grind (arith, common_steps, from_turned fs (suc h) ((h + 1) % 8) n)

pub ruleset filling = (common_steps, map-set, length_from, from_filled)
