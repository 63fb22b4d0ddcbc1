-- reading a line: the checks in their order, and the record that they leave
use Rattle.std.specs.Prelude.{ℕ, ◌+◌, ◌*◌, ◌%◌, Bool, cond, not, ◌&&◌, List, length, take, drop, Ok, Result, ◌==◌, nat_le, nat_lt, slice_index}
use Rattle.refusal.specs.Answers.{then, refuse}
use Rattle.ihex.specs.Content.{Content, data_at, end_of_file, is_data}
use Rattle.ihex.specs.Digits.{all_digits, bytes_of, total}
use Rattle.ihex.specs.declared.fault.RecordFault.{RecordFault}
use Rattle.ihex.specs.declared.fault.RecordFault.TheVariants.{Short, NoColon, NotADigit, Count, Sum, Unknown}

-- the digits after the colon
abbrev pub digits_in : List ℕ → Result (List ℕ) RecordFault
digits_in text =
    refuse (nat_lt (length text) 11) Short
    (refuse (not (slice_index text 0 == 58)) NoColon
    (refuse (not (all_digits (drop 1 text))) NotADigit
    (Ok (drop 1 text))))

-- a count of at most 128, and two digits for each of five bytes and of those counted
abbrev pub is_counted : ℕ → ℕ → Bool
is_counted n digits = nat_le n 128 && digits == 10 + 2 * n

-- the count, if there are as many digits as it says
abbrev pub counted : List ℕ → Result ℕ RecordFault
counted ds = let n = slice_index (bytes_of ds) 0 in refuse (not (is_counted n (length ds))) Count (Ok n)

-- the bytes, if they total 0 modulo 256
abbrev pub summed : List ℕ → Result (List ℕ) RecordFault
summed bs = refuse (not (total bs % 256 == 0)) Sum (Ok bs)

-- a data record of these bytes
abbrev pub data_record : ℕ → List ℕ → Result Content RecordFault
data_record offset ds = refuse (not (is_data (length ds))) Unknown (Ok (data_at offset ds))

-- the record of a count, an offset, a type and data
abbrev pub record_of : ℕ → ℕ → ℕ → List ℕ → Result Content RecordFault
record_of n offset type ds =
    cond (type == 0) (data_record offset ds)
    (refuse (not (type == 1 && (n == 0 && offset == 0))) Unknown (Ok end_of_file))

-- the record of count n that these bytes are; its sum byte follows its data
abbrev pub record_in : ℕ → List ℕ → Result Content RecordFault
record_in n bs = record_of n (slice_index bs 1 * 256 + slice_index bs 2) (slice_index bs 3) (take n (drop 4 bs))

abbrev pub reading : List ℕ → Result Content RecordFault
reading text = then (digits_in text) (λ ds. then (counted ds) (λ n. then (summed (bytes_of ds)) (record_in n)))
