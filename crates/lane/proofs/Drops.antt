-- which puts the losing layer drops
use Rattle.std.proofs.Common.{◌≡◌, ℕ, zero, suc, ◌%◌, sym, refl, arith}
use native.Mathlib.Nat.{zero-mod, mod-add-mod}
use Rattle.std.proofs.lemmas.Grind.{common_steps}
use Rattle.lane.specs.Drops.{counted_after, EveryKth}

-- the count is the number of accepted puts modulo k
count_is : (j m : ℕ) → counted_after (suc j) m ≡ m % suc j
count_is j zero = sym (zero-mod (suc j))
count_is j (suc m) = grind (arith, common_steps, mod-add-mod m (suc j) 1, count_is j m)

pub every_kth : (k : ℕ) → EveryKth k
every_kth zero m = refl
every_kth (suc j) m = grind (arith, common_steps, mod-add-mod m (suc j) 1, count_is j m)
