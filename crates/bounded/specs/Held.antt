-- the bytes that a bounded string holds
use Rattle.std.specs.Prelude.{ℕ, cond, List, length, take, Some, None, Option, nat_lt}
use Rattle.bounded.specs.declared.Bytes.{Bytes}

abbrev pub held : {n : ℕ} → Bytes n → List ℕ
held b = take b.len b.array

-- these bytes, if they are at most n
abbrev pub within : ℕ → List ℕ → Option (List ℕ)
within n bs = cond (nat_lt n (length bs)) None (Some bs)
