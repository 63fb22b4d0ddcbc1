-- writing a frame to the front of a buffer
use Rattle.std.specs.Prelude.{ℕ, cond, List, ◌++◌, length, drop, is_ok, Ok, Result, nat_lt}
use Rattle.refusal.specs.Answers.{refuse}
use Rattle.refusal.specs.declared.Refusal.{Refusal}
use Rattle.refusal.specs.declared.Refusal.TheVariants as reason
use Rattle.hdlc.specs.Messages.{Message, information_of, frame}
use Rattle.hdlc.specs.declared.fault.EncodeFault.{EncodeFault}
use Rattle.hdlc.specs.declared.fault.EncodeFault.TheVariants.{TooLong, BufferTooShort}

-- the length of what is written, if it is a frame and the buffer holds it
abbrev pub encoded : Message → List ℕ → Result ℕ EncodeFault
encoded m out =
    refuse (nat_lt 267 (length (information_of m))) TooLong
    (refuse (nat_lt (length out) (length (frame m))) BufferTooShort
    (Ok (length (frame m))))

-- what the buffer then holds
abbrev pub encoded_to : Message → List ℕ → List ℕ
encoded_to m out = cond (is_ok (encoded m out)) (frame m ++ drop (length (frame m)) out) out

abbrev pub refusal_of : EncodeFault → Refusal
refusal_of TooLong = reason.UnsoundFrame
refusal_of BufferTooShort = reason.BufferTooShort
