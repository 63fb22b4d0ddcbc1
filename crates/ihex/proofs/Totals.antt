-- totals modulo 256
use Rattle.std.proofs.Common.{◌≡◌, ℕ, ◌+◌, ◌%◌, ◌<◌, List, [], ◌∷◌, ◌++◌, length, get_or, take, arith}
use Rattle.std.proofs.lemmas.List.Sums.{sum_by-append, sum_by_more}
use Rattle.ihex.specs.Content.{sum_byte}
use Rattle.ihex.specs.Digits.{total}

pub total-append : (xs ys : List ℕ) → total (xs ++ ys) ≡ total xs + total ys
total-append xs ys = sum_by-append (λ x. x) xs ys

-- one byte more in the kept total
pub total_more : (s i : ℕ) (bs : List ℕ) → i < length bs
    → ((s + total (take i bs)) % 256 + get_or bs i 0) % 256 ≡ (s + total (take (i + 1) bs)) % 256
total_more s i bs l = omega (arith, sum_by_more (λ x. x) bs i 0 l)

-- with the sum byte the total is 0, and no other byte does it
pub sum_byte_closes : (bs : List ℕ) → total (bs ++ sum_byte bs ∷ []) % 256 ≡ 0
sum_byte_closes bs = omega (arith, total-append bs (sum_byte bs ∷ []))

pub sum_byte_alone : (bs : List ℕ) (s : ℕ) → s < 256 → (total bs + s) % 256 ≡ 0 → s ≡ sum_byte bs
sum_byte_alone bs s ls e = omega arith
