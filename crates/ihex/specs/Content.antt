-- the two records of Intel's hexadecimal object format, and the line of each
use Rattle.std.specs.Prelude.{◌≡◌, ℕ, ◌-◌, ◌/◌, ◌%◌, ◌^◌, ◌<◌, ◌≤◌, Bool, true, ◌&&◌, List, [], ◌∷◌, ◌++◌, length, nat_le}
use Rattle.ihex.specs.Digits.{digits, octets, total}

-- what a record says: bytes and the offset at which they lie, or the end of the file
pub data Content : Type 0 where
  data_at : ℕ → List ℕ → Content
  end_of_file : Content

-- a data record has 1 to 128 bytes
abbrev pub is_data : ℕ → Bool
is_data n = nat_le 1 n && nat_le n 128

-- count, offset with the high byte first, type and data
abbrev pub fields : Content → List ℕ
fields (data_at offset ds) = length ds ∷ offset / 256 ∷ offset % 256 ∷ 0 ∷ ds
fields end_of_file = 0 ∷ 0 ∷ 0 ∷ 1 ∷ []

-- what is missing to the next multiple of 256
abbrev pub complement : ℕ → ℕ
complement t = (256 - t % 256) % 256

-- makes all bytes total 0 modulo 256
abbrev pub sum_byte : List ℕ → ℕ
sum_byte bs = complement (total bs)

-- a colon, and the digits of the fields and their sum byte
abbrev pub line : Content → List ℕ
line r = 58 ∷ digits (fields r ++ sum_byte (fields r) ∷ [])

-- what a record can say: 16 bits of offset and 1 to 128 bytes, or the end
abbrev pub Sound : Content → Type 0
Sound (data_at offset ds) = (offset < 2 ^ 16) × (1 ≤ length ds) × (length ds ≤ 128) × (octets ds ≡ true)
Sound end_of_file = Unit {0}
