-- the steps of reading a line
use Rattle.std.proofs.Common.{◌≡◌, ℕ, ◌+◌, ◌*◌, ◌%◌, ◌≤◌, true, List, length, get_or, drop, Ok, arith}
use Rattle.std.proofs.lemmas.Bool.Decides.{nat_tests}
use Rattle.ihex.specs.Digits.{bytes_of, total, all_digits}
use Rattle.ihex.specs.Reading.{digits_in, counted, summed, record_in, reading}

-- each answer of the checks
pub digits_found : (t : List ℕ) → 11 ≤ length t → get_or t 0 0 ≡ 58 → all_digits (drop 1 t) ≡ true → digits_in t ≡ Ok (drop 1 t)
digits_found t l c h = grind (arith, nat_tests)

pub count_good : (ds : List ℕ) (n : ℕ) → get_or (bytes_of ds) 0 0 ≡ n → n ≤ 128 → length ds ≡ 10 + 2 * n → counted ds ≡ Ok n
count_good ds n e few size = grind (arith, nat_tests)

-- what is left once the digits, the count and the sum are found
pub reading_summed : (t ds : List ℕ) (n : ℕ) → digits_in t ≡ Ok ds → counted ds ≡ Ok n → total (bytes_of ds) % 256 ≡ 0 → reading t ≡ record_in n (bytes_of ds)
reading_summed t ds n hd hc h =
    let hs : summed (bytes_of ds) ≡ Ok (bytes_of ds) = grind (arith, nat_tests) in
    rw (hd, hc, hs)
