-- sequence numbers count modulo 8
use Rattle.std.specs.Prelude.{ℕ, ◌+◌, ◌%◌}
use Rattle.hdlc.specs.declared.number.SequenceNumber.{SequenceNumber}

abbrev pub number_of : SequenceNumber → ℕ
number_of n = n.value

-- the number after n
abbrev pub next_number : ℕ → ℕ
next_number n = (n + 1) % 8
