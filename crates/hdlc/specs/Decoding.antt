-- the frame that a string of octets is; every other string is unsound
use Rattle.std.specs.Prelude.{ℕ, ◌/◌, ◌%◌, Bool, cond, not, ◌&&◌, ◌||◌, List, length, drop, Ok, Err, Result, ◌==◌, nat_le, nat_lt, slice_index}
use Rattle.refusal.specs.Answers.{refuse}
use Rattle.refusal.specs.declared.UnsoundFrame.{UnsoundFrame}
use Rattle.hdlc.specs.Messages.{Message, information, receive_ready}

-- the control octet is 2 × N(S), and at most 267 octets follow
abbrev pub is_information : ℕ → ℕ → Bool
is_information c n = c % 2 == 0 && (nat_lt c 16 && nat_le n 267)

-- the control octet is 1 + 32 × N(R), and nothing follows
abbrev pub is_receive_ready : ℕ → ℕ → Bool
is_receive_ready c n = c % 32 == 1 && n == 0

abbrev pub by_control : ℕ → List ℕ → Result Message UnsoundFrame
by_control c info =
    cond (is_information c (length info)) (Ok (information (c / 2) info))
    (cond (is_receive_ready c (length info)) (Ok (receive_ready (c / 32))) (Err (record {})))

abbrev pub decoding : List ℕ → Result Message UnsoundFrame
decoding bs =
    refuse (nat_lt (length bs) 2 || not (slice_index bs 0 == 255)) (record {}) (by_control (slice_index bs 1) (drop 2 bs))
