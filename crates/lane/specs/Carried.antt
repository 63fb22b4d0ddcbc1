-- the frames that a lane carries, by their length
use Rattle.std.specs.Prelude.{◌≡◌, ℕ, Bool, true, ◌&&◌, List, length, nat_le}
use Rattle.std.specs.List.{list_all}

-- 2 to 269 octets
abbrev pub is_carried : ℕ → Bool
is_carried n = nat_le 2 n && nat_le n 269

abbrev pub Carried : List ℕ → Type 0
Carried f = is_carried (length f) ≡ true

abbrev pub all_carried : List (List ℕ) → Bool
all_carried fs = list_all (λ f. is_carried (length f)) fs
