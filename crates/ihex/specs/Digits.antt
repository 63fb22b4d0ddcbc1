-- hexadecimal digits, as Intel's object format writes them: upper case, two to a byte, the high one first
use Rattle.std.specs.Prelude.{ℕ, ◌+◌, ◌-◌, ◌*◌, ◌/◌, ◌%◌, Bool, cond, ◌&&◌, ◌||◌, List, [], ◌∷◌, sum, nat_le, nat_lt}
use Rattle.std.specs.List.{list_all}

-- the character of a value below 16
abbrev pub digit : ℕ → ℕ
digit n = cond (nat_lt n 10) (48 + n) (55 + n)

-- 0 to 9, or A to F
abbrev pub is_digit : ℕ → Bool
is_digit c = (nat_le 48 c && nat_le c 57) || (nat_le 65 c && nat_le c 70)

-- the value of a digit
abbrev pub value : ℕ → ℕ
value c = cond (nat_le c 57) (c - 48) (c - 55)

abbrev pub all_digits : List ℕ → Bool
all_digits cs = list_all is_digit cs

-- the digits of some bytes
abbrev pub digits : List ℕ → List ℕ
digits [] = []
digits (b ∷ bs) = digit (b / 16) ∷ digit (b % 16) ∷ digits bs

-- the bytes of some digits; an odd last one counts for nothing
abbrev pub bytes_of : List ℕ → List ℕ
bytes_of [] = []
bytes_of (a ∷ []) = []
bytes_of (a ∷ b ∷ cs) = (value a * 16 + value b) ∷ bytes_of cs

-- every number is one of 8 bits
abbrev pub octets : List ℕ → Bool
octets bs = list_all (λ b. nat_lt b 256) bs

abbrev pub total : List ℕ → ℕ
total bs = sum bs
