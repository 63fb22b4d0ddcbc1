-- what `{:04X}` writes of 16 bits: its four digits
use Rattle.std.proofs.Common.{◌≡◌, ℕ, ◌/◌, ◌%◌, ◌^◌, ◌-◌, ◌<◌, true, false, [], ◌∷◌, arith, ◌∙◌}
use Rattle.std.specs.Fmt.{digits, padded_integral, format_spec}
use Rattle.ihex.specs.Digits as ihex
use Rattle.ihex.proofs.Printed.{printed}

pub hex_word : (n : ℕ) → n < 2 ^ 16 → padded_integral (format_spec 32 0 4 4 (2 ^ 64 - 1)) false [] (digits 16 true n) ≡ ihex.digits (n / 256 ∷ n % 256 ∷ [])
hex_word n h =
    let a : n / 16 / 16 / 16 % 16 ≡ n / 256 / 16 = omega arith in
    let b : n / 16 / 16 % 16 ≡ n / 256 % 16 = omega arith in
    let c : n / 16 % 16 ≡ n % 256 / 16 = omega arith in
    let d : n % 16 ≡ n % 256 % 16 = omega arith in
    printed 3 n (omega arith) h ∙ rw (a, b, c, d)
