-- writing a line to the front of a buffer
use Rattle.std.specs.Prelude.{ℕ, ◌*◌, cond, List, ◌++◌, length, drop, Ok, Result, nat_lt}
use lib.Seq.{paste}
use Rattle.refusal.specs.Answers.{refuse}
use Rattle.ihex.specs.Content.{Content, line}
use Rattle.ihex.specs.Digits.{digits}
use Rattle.refusal.specs.declared.BufferTooShort.{BufferTooShort}

-- a buffer once the digits of some bytes stand in it from a place on, and the rest as it was
abbrev pub spelled : List ℕ → ℕ → List ℕ → List ℕ
spelled out at bs = paste out at (digits bs) (2 * length bs)

-- the length of what is written, if the buffer holds it
abbrev pub written : Content → List ℕ → Result ℕ BufferTooShort
written r out = refuse (nat_lt (length out) (length (line r))) (record {}) (Ok (length (line r)))

-- what the buffer then holds
abbrev pub written_to : Content → List ℕ → List ℕ
written_to r out = cond (nat_lt (length out) (length (line r))) out (line r ++ drop (length (line r)) out)
